-- The items of a piece that is closed, as they are made.
use Rattle.std.proofs.Common.{◌≡◌, ℕ, ◌+◌, ◌-◌, ◌<◌, List, [], ◌∷◌, ◌++◌, Option, Some, None, refl, sym, ap, ◌∙◌, subst, arith, length, get_or, reverse, unwrap_or, ⊎_elim}
use Rattle.std.proofs.lemmas.Bool.{cases_lt}
use Rattle.std.proofs.lemmas.List.{get_or-drop, get_or-map, get_or_append_left, get_or_default, length-reverse, length_push, reverse-reverse}
use Rattle.std.proofs.Math.Seq.{get_or-append_seam}
use Rattle.bounded_table.specs.Rows.{RowsState, AsksOnly}
use Rattle.bounded_table.proofs.Asking.{only_by}
use Rattle.road_network.specs.Net.{IsLawful}
use Rattle.road_network.specs.declared.Candidate.{Candidate}
use Rattle.road_network.specs.declared.EdgeId.{EdgeId}
use Rattle.matching.specs.declared.parts.Cell.{Cell}
use Rattle.matching.specs.declared.parts.Layer.{Layer}
use Rattle.matching.specs.Cells.{IsLive}
use Rattle.matching.specs.Layers.{candidate_of_rank, no_candidate}
use Rattle.matching.specs.Local.{IsLeastCell, by_pointers}
use Rattle.matching.specs.PieceSteps.{AsksIn}
use Rattle.route_rebuild.specs.Chosen.{IsCandidateRun}
use Rattle.route_rebuild.specs.inside.ChosenRuns.{AreChosenFrom}
use Rattle.route_rebuild.specs.Numbers.{numbers}
use Rattle.route_rebuild.specs.Routes.{IsRouteOf, IsRouteOver, IsWalkStartOver, chosen_at, no_layer, route_of}
use Rattle.route_rebuild.proofs.ChosenOver.{over-route, over-run, over-start}
use Rattle.route_rebuild.proofs.RouteValue.{route_of-is}
use Rattle.online_commit.specs.declared.items.Item.{Item}
use Rattle.online_commit.specs.declared.items.Item.TheVariants.{Closed}
use Rattle.online_commit.specs.Items.{edge_ids}
use Rattle.online_commit.specs.inside.Steps.{AreAllChosen, IsClosing, IsSession, KeptSession, as_ranks, counted_piece, rank_in, ranked_items, whole_piece}
use Rattle.online_commit.proofs.Extending.{kept-count}
use Rattle.online_commit.proofs.Kept.{AreLastRanks, items-shift, kept-ranks, least-live}
use Rattle.online_commit.proofs.NextCells.{some-kept}
use Rattle.online_commit.proofs.OwnRun.{IsEndRead, own-asked, own-count, own-ranks, own-run}

-- what was read at the last point
pub record IsKeptRead (s : KeptSession) (last : Cell) (c : ℕ) (kept : List ℕ) : Type 0 where
  pub ranks : List ℕ
  pub read : IsEndRead s last c ranks
  pub last_ranks : AreLastRanks (length s.settled) ranks kept

pub end-read : (s : KeptSession) (ts : List (List Cell)) (cells slice : List Cell) (last : Cell) (c : ℕ) (kept : List ℕ) → IsLawful s.network → IsSession s → 0 < length s.kept_layers → ts ≡ s.kept_tables
    → cells ≡ get_or ts (length s.kept_layers - 1) cells → slice ≡ cells → IsLeastCell slice last → c ≡ unwrap_or (last.cost) 0 → reverse kept ≡ by_pointers (reverse ts) (last.«from») → IsKeptRead s last c kept
end-read s ts cells slice last c kept lawful is some et ec es least cost kept_are =
    let count = is.tables_count in
    let all = kept-count s is in
    let within = is.kept.within in
    let place : length s.settled + (length s.kept_layers - 1) ≡ length s.tables - 1 = omega (arith, count, all, some) in
    let ranks = reverse (by_pointers (reverse s.tables) (last.«from»)) in
    let ranks_are : reverse ranks ≡ by_pointers (reverse s.tables) (last.«from») = reverse-reverse (by_pointers (reverse s.tables) (last.«from»)) in
    let read : IsEndRead s last c ranks = record {
      lawful = lawful;
      session = is;
      some = some-kept s is some;
      cells = cells;
      at = record {
        below = omega (arith, some, count, all);
        is = ec ∙ ap (λ xs. get_or xs (length s.kept_layers - 1) cells) (et ∙ is.kept.tables) ∙ get_or-drop (length s.settled) s.tables (length s.kept_layers - 1) cells ∙ ap (λ k. get_or s.tables k cells) place;
      };
      least = subst (λ v. IsLeastCell v last) es least;
      cost-is = cost;
      ranks_are = ranks_are;
    } in
    record {
      ranks = ranks;
      read = read;
      last_ranks = kept-ranks s.tables (length s.settled) ranks kept (last.«from») (omega (arith, within, count)) (own-count s last c ranks read ∙ sym count) ranks_are
          (subst (λ xs. reverse kept ≡ by_pointers (reverse xs) (last.«from»)) (et ∙ is.kept.tables) kept_are);
    }

-- it has a rank for each kept point
pub kept-ranked : (s : KeptSession) (last : Cell) (c : ℕ) (kept : List ℕ) → IsKeptRead s last c kept → length kept ≡ length s.kept_layers
kept-ranked s last c kept h =
    let all = kept-count s h.read.session in
    let sum = h.last_ranks.count in
    omega (arith, all, sum, own-count s last c h.ranks h.read)

-- the labels of the kept points
kept-labels : (s : KeptSession) (last : Cell) (c : ℕ) (kept : List ℕ) (h : IsKeptRead s last c kept)
    → ranked_items s.kept_first s.kept_layers (rank_in kept) s.kept_told (length s.kept_layers - s.kept_told) ≡ ranked_items s.first s.layers (rank_in h.ranks) s.told (length s.layers - s.told)
kept-labels s last c kept h =
    let is = h.read.session in
    let told = is.kept.told in
    let all = kept-count s is in
    let front = is.front.within in
    let left : length s.kept_layers - s.kept_told ≡ length s.layers - s.told = omega (arith, told, all) in
    let count = kept-ranked s last c kept h in
    ap (λ k. ranked_items k s.kept_layers (rank_in kept) s.kept_told (length s.kept_layers - s.kept_told)) is.kept.first
    ∙ ap (λ ls. ranked_items (s.first + length s.settled) ls (rank_in kept) s.kept_told (length s.kept_layers - s.kept_told)) is.kept.layers
    ∙ items-shift s.first (length s.settled) s.layers (rank_in h.ranks) (rank_in kept) s.kept_told (length s.kept_layers - s.kept_told)
    (λ i ge lt. h.last_ranks.each i (omega (arith, lt, ge, count)))
    ∙ ap (λ k. ranked_items s.first s.layers (rank_in h.ranks) k (length s.kept_layers - s.kept_told)) (sym told)
    ∙ ap (ranked_items s.first s.layers (rank_in h.ranks) s.told) left

some-rank : (tables : List (List Cell)) (x : Option ℕ) → 0 < length (by_pointers tables x) → (j : ℕ) × (x ≡ Some j)
some-rank [] None lt = absurd (omega (arith, lt))
some-rank (c ∷ tables) None lt = absurd (omega (arith, lt))
some-rank tables (Some j) lt = (j, refl)

-- the candidates of the points that were let go
settled-chosen : (s : KeptSession) (last : Cell) (c : ℕ) (ranks : List ℕ) (i : ℕ) → IsEndRead s last c ranks → i < length s.settled
    → get_or s.settled i no_candidate ≡ candidate_of_rank (get_or s.layers i no_layer) (get_or ranks i 0)
settled-chosen s last c ranks i h lt =
    let some = h.some in
    let long = ap length (sym h.ranks_are) in
    let from = some-rank (reverse s.tables) (last.«from») (omega (arith, long, length-reverse ranks, own-count s last c ranks h, some)) in
    let table : h.cells ≡ get_or s.tables (length s.tables - 1) [] = h.at.is ∙ get_or_default s.tables (length s.tables - 1) h.cells [] h.at.below in
    let live = subst (λ v. IsLive v from.0) table (least-live h.cells last from.0 h.least from.1) in
    h.session.kept.chosen from.0 i live lt
    ∙ ap (λ x. candidate_of_rank (get_or s.layers i no_layer) (get_or (reverse (by_pointers (reverse s.tables) x)) i 0)) (sym from.1)
    ∙ ap (λ ys. candidate_of_rank (get_or s.layers i no_layer) (get_or ys i 0)) (ap reverse (sym h.ranks_are) ∙ reverse-reverse ranks)

-- all chosen candidates
kept-chosen : (s : KeptSession) (last : Cell) (c : ℕ) (kept : List ℕ) (chosen : List Candidate) (h : IsKeptRead s last c kept) → AreAllChosen s.settled s.kept_layers kept (length s.kept_layers) chosen
    → AreChosenFrom s.layers (as_ranks h.ranks) 0 (length s.layers - 1 + 1 - 0) chosen
kept-chosen s last c kept chosen h are =
    let is = h.read.session in
    let all = kept-count s is in
    let some = h.read.some in
    let count = are.count_is in
    let long = own-count s last c h.ranks h.read in
    let kept-long = kept-ranked s last c kept h in
    record {
      count_is = omega (arith, count, all, some);
      each = λ k lt.
          let z : k ≡ 0 + k = omega arith in
          let inside : k < length h.ranks = omega (arith, lt, long, some) in
          let rank : get_or h.ranks k 0 ≡ unwrap_or (get_or (as_ranks h.ranks) k None) 0 = ap (λ o. unwrap_or o 0) (sym (get_or-map (λ r. let o : Option ℕ = Some r in o) h.ranks k 0 None inside)) in
          ⊎_elim
          (λ less. are.old k less ∙ settled-chosen s last c h.ranks k h.read less)
          (λ ge.
          let i = k - length s.settled in
          let place : length s.settled + i ≡ k = omega (arith, ge) in
          let below : i < length s.kept_layers = omega (arith, lt, ge, all, some) in
          ap (λ m. get_or chosen m no_candidate) (sym place) ∙ are.new i below
          ∙ ap (λ ls. candidate_of_rank (get_or ls i no_layer) (rank_in kept i)) is.kept.layers
          ∙ ap (λ l. candidate_of_rank l (rank_in kept i)) (get_or-drop (length s.settled) s.layers i no_layer ∙ ap (λ m. get_or s.layers m no_layer) place)
          ∙ ap (candidate_of_rank (get_or s.layers k no_layer)) (h.last_ranks.each i (omega (arith, below, kept-long)) ∙ ap (λ m. get_or h.ranks m 0) place))
          (cases_lt k (length s.settled))
          ∙ ap (candidate_of_rank (get_or s.layers k no_layer)) rank ∙ ap (chosen_at s.layers (as_ranks h.ranks)) z;
    }

-- and the run over them
pub run-made : (s : KeptSession) (last : Cell) (c : ℕ) (kept : List ℕ) (chosen : List Candidate) → IsKeptRead s last c kept → AreAllChosen s.settled s.kept_layers kept (length s.kept_layers) chosen
    → IsCandidateRun s.network s.params chosen
run-made s last c kept chosen h are =
    over-run s.network s.params s.layers (as_ranks h.ranks) (whole_piece (length s.layers) c) chosen (omega arith) (kept-chosen s last c kept chosen h are) (own-run s last c h.ranks h.read)

pub end-asks : {old new : RowsState} (s : KeptSession) (last : Cell) (c : ℕ) (kept : List ℕ) (chosen : List Candidate) → IsKeptRead s last c kept → AreAllChosen s.settled s.kept_layers kept (length s.kept_layers) chosen
    → AsksOnly old new (IsWalkStartOver s.network s.params chosen) → AsksOnly old new (AsksIn s.network s.params s.layers s.tables)
end-asks s last c kept chosen h are asks =
    only_by asks
    (λ v start. own-asked s last c h.ranks v h.read
    (over-start s.network s.params s.layers (as_ranks h.ranks) (whole_piece (length s.layers) c) chosen (omega arith) (kept-chosen s last c kept chosen h are) v start))

ids-of-numbers : (es : List EdgeId) → edge_ids (numbers es) ≡ es
ids-of-numbers [] = refl
ids-of-numbers (e ∷ es) = ap (λ xs. e ∷ xs) (ids-of-numbers es)

pub closing-made : (s : KeptSession) (last : Cell) (c : ℕ) (kept : List ℕ) (chosen : List Candidate) (labels items : List Item) (route : List EdgeId) → IsKeptRead s last c kept
    → AreAllChosen s.settled s.kept_layers kept (length s.kept_layers) chosen → labels ≡ ranked_items s.kept_first s.kept_layers (rank_in kept) s.kept_told (length s.kept_layers - s.kept_told)
    → IsRouteOver s.network s.params chosen (numbers route)
    → items ≡ labels ++ Closed (record { first = s.first; last = s.kept_first + (length s.kept_layers - 1); cost = c }) route ∷ [] → IsClosing s items
closing-made s last c kept chosen labels items route h are labels-are route-over items-are =
    let n = s.network in
    let p = s.params in
    let is = h.read.session in
    let whole = whole_piece (length s.layers) c in
    let route-is : IsRouteOf n p s.layers (as_ranks h.ranks) whole (numbers route) =
    over-route n p s.layers (as_ranks h.ranks) whole chosen (omega arith) (kept-chosen s last c kept chosen h are) (numbers route) route-over in
    let edges = route_of n p s.layers (as_ranks h.ranks) whole in
    let same : route ≡ edge_ids edges = sym (ids-of-numbers route) ∙ ap edge_ids (route_of-is n p s.layers (as_ranks h.ranks) whole (numbers route) h.read.lawful route-is) in
    let all = kept-count s is in
    let first = is.kept.first in
    let within = is.kept.within in
    let some = h.read.some in
    let end : s.kept_first + (length s.kept_layers - 1) ≡ s.first + (length s.layers - 1) = omega (arith, all, first, within, some) in
    record {
      cost = c;
      ranks = h.ranks;
      best = own-ranks s last c h.ranks h.read;
      are = items-are ∙ ap (λ k. labels ++ Closed (record { first = s.first; last = k; cost = c }) route ∷ []) end
          ∙ ap (λ ys. ys ++ Closed (counted_piece s.first (length s.layers) c) route ∷ []) (labels-are ∙ kept-labels s last c kept h)
          ∙ ap (λ r. ranked_items s.first s.layers (rank_in h.ranks) s.told (length s.layers - s.told) ++ Closed (counted_piece s.first (length s.layers) c) r ∷ []) same;
    }

-- the candidates, one by one
pub all-none : (settled : List Candidate) (layers : List Layer) (ranks : List ℕ) (chosen : List Candidate) → chosen ≡ settled → AreAllChosen settled layers ranks 0 chosen
all-none settled layers ranks chosen e = record {
  count_is = ap length e ∙ omega arith;
  old = λ i lt. ap (λ xs. get_or xs i no_candidate) e;
  new = λ i lt. absurd (omega (arith, lt));
}

pub all-more : (settled : List Candidate) (layers : List Layer) (ranks : List ℕ) (point : ℕ) (chosen : List Candidate) (x : Candidate) → AreAllChosen settled layers ranks point chosen
    → x ≡ candidate_of_rank (get_or layers point no_layer) (rank_in ranks point) → AreAllChosen settled layers ranks (point + 1) (chosen ++ x ∷ [])
all-more settled layers ranks point chosen x h is =
    let count = h.count_is in
    record {
      count_is = omega (arith, count, length_push chosen x);
      old = λ i lt. get_or_append_left chosen (x ∷ []) no_candidate i (omega (arith, lt, count)) ∙ h.old i lt;
      new = λ i lt. ⊎_elim
          (λ less. get_or_append_left chosen (x ∷ []) no_candidate (length settled + i) (omega (arith, less, count)) ∙ h.new i less)
          (λ ge.
          let at : point ≡ i = omega (arith, lt, ge) in
          let end : length settled + i ≡ length chosen = omega (arith, at, count) in
          ap (λ k. get_or (chosen ++ x ∷ []) k no_candidate) end ∙ get_or-append_seam chosen x [] no_candidate ∙ is ∙ ap (λ k. candidate_of_rank (get_or layers k no_layer) (rank_in ranks k)) at)
          (cases_lt i point);
    }
