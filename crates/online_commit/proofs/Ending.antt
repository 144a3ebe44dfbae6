-- What is handed out where the open piece is closed, and where a point begins anew. In this file layers stand in the
-- order of the points.
use Rattle.std.proofs.Common.{◌≡◌, ℕ, ◌+◌, ◌-◌, ◌<◌, ◌≤◌, List, [], ◌∷◌, ◌++◌, Option, Some, None, refl, sym, ap, ◌∙◌, subst, arith, length, map, take, drop, get_or, unwrap_or}
use Rattle.std.specs.List.{range_with_len}
use Rattle.std.proofs.lemmas.List.{append_assoc, append-nil, get_or_append_left, get_or-append-add, get_or-map, length-drop}
use Rattle.cost_model.specs.declared.params.Params.{Params}
use Rattle.road_network.specs.Net.{Net}
use Rattle.road_network.specs.declared.Candidate.{Candidate}
use Rattle.matching.specs.declared.parts.Layer.{Layer}
use Rattle.matching.specs.declared.parts.Piece.{Piece}
use Rattle.matching.specs.CommittedValue.{closed_pieces, committed_of}
use Rattle.matching.specs.Layers.{candidate_of_rank, trellis}
use Rattle.matching.specs.Sequences.{Trellis}
use Rattle.matching.specs.Value.{best_of, solution}
use Rattle.matching.proofs.ClosedPieces.{closed_split}
use Rattle.matching.proofs.CommittedValues.{committed_split, front, front-within}
use Rattle.matching.proofs.Lists.{all-cons, length-map_some}
use Rattle.matching.proofs.Splits.{from_point, from_joins, from_skips, Splits}
use Rattle.route_rebuild.specs.Routes.{chosen_at, no_layer, route_of}
use Rattle.online_commit.specs.declared.items.Item.TheVariants.{Closed}
use Rattle.online_commit.specs.Items.{closed_at, closed_item, edge_ids, handed, items_of, items_with, item_at, points_from}
use Rattle.online_commit.specs.inside.Steps.{as_ranks, closing_of, counted_piece, rank_in, ranked_item, ranked_items, whole_piece}
use Rattle.online_commit.proofs.Composed.{after, closed-before}
use Rattle.online_commit.proofs.Handed.{EndAfter, base, closed-here, closed-later, handed-form, items-with, label-later, labels_between, layer-later, solution-now}
use Rattle.online_commit.proofs.Labels.{IsBestOf, best-is, best-length, open-labels, tail-rank}
use Rattle.online_commit.proofs.Points.{labels-shift, labels-split, points-closed}
use Rattle.online_commit.proofs.Routes.{route-same}

-- one point without candidates

abbrev pub split_missing : {L : Type 0} (t : Trellis L) (at : ℕ) (ys : List L) (l : L) → ys ≡ l ∷ [] → t.width l ≡ 0 → Splits t at ys
split_missing t at ys l e none =
    let len = ap length e in
    let rest : drop 1 ys ≡ [] = ap (drop 1) e in
    record {
      closed = 1;
      ranks = None ∷ [];
      pieces = [];
      tables = [] ∷ [];
      within = omega (arith, len);
      count = refl;
      each = λ k d lt. absurd (omega (arith, lt));
      goes_on = λ more.
          ap (λ zs. from_point t at (zs ++ more)) e ∙ from_skips t at l more none
          ∙ ap (λ zs. record { ranks = None ∷ (from_point t (at + 1) (zs ++ more)).ranks; pieces = (from_point t (at + 1) (zs ++ more)).pieces; tables = [] ∷ (from_point t (at + 1) (zs ++ more)).tables }) (sym rest);
      last = λ some. absurd (let z = ap length rest in omega (arith, some, z));
    }

-- the items of a piece that is closed

-- the open piece of some points, over which more may come
pub record IsOver (n : Net) (p : Params) (fed more : List Layer) (s : Splits (trellis n p) 0 fed) (c : ℕ) (ranks : List ℕ) : Type 0 where
  pub some : 0 < length (drop s.closed fed)
  pub best : IsBestOf (trellis n p) (drop s.closed fed ++ more) (length (drop s.closed fed)) c ranks

-- the ranks of the points before and in the piece
abbrev ranks_to : (n : Net) (p : Params) (fed : List Layer) → Splits (trellis n p) 0 fed → List ℕ → List (Option ℕ) → List (Option ℕ)
ranks_to n p fed s ranks later = s.ranks ++ (as_ranks ranks ++ later)

piece-rank : (ranks : List ℕ) (later : List (Option ℕ)) (j : ℕ) → j < length ranks → get_or (as_ranks ranks ++ later) j None ≡ Some (get_or ranks j 0)
piece-rank ranks later j lt =
    get_or_append_left (as_ranks ranks) later None j (omega (arith, lt, length-map_some ranks)) ∙ get_or-map (λ r. let o : Option ℕ = Some r in o) ranks j 0 None lt

-- a label of the piece
over-label : (n : Net) (p : Params) (fed more : List Layer) (s : Splits (trellis n p) 0 fed) (ranks : List ℕ) (later : List (Option ℕ)) (j : ℕ)
    → length ranks ≡ length (drop s.closed fed) → j < length ranks
    → item_at (fed ++ more) (ranks_to n p fed s ranks later) (s.closed + j) ≡ ranked_item s.closed (drop s.closed fed) (rank_in ranks) j
over-label n p fed more s ranks later j count lt =
    let xs = drop s.closed fed in
    label-later n p fed (fed ++ more) s (as_ranks ranks ++ later) j (get_or ranks j 0) (get_or xs j no_layer)
    (layer-later fed more s.closed j no_layer s.within ∙ get_or_append_left xs more no_layer j (omega (arith, lt, count)))
    (piece-rank ranks later j lt)

over-labels : (n : Net) (p : Params) (fed more : List Layer) (s : Splits (trellis n p) 0 fed) (ranks : List ℕ) (later : List (Option ℕ)) (h k : ℕ)
    → length ranks ≡ length (drop s.closed fed) → h + k ≤ length ranks
    → map (item_at (fed ++ more) (ranks_to n p fed s ranks later)) (range_with_len (s.closed + h) k) ≡ ranked_items s.closed (drop s.closed fed) (rank_in ranks) h k
over-labels n p fed more s ranks later h k count le =
    labels-shift (item_at (fed ++ more) (ranks_to n p fed s ranks later)) (ranked_item s.closed (drop s.closed fed) (rank_in ranks)) (s.closed + h) h k
    (λ i lt. let e : s.closed + h + i ≡ s.closed + (h + i) = omega arith in
    ap (item_at (fed ++ more) (ranks_to n p fed s ranks later)) e ∙ over-label n p fed more s ranks later (h + i) count (omega (arith, lt, le)))

-- its route is that of the piece on its own
over-route : (n : Net) (p : Params) (fed more : List Layer) (s : Splits (trellis n p) 0 fed) (c : ℕ) (ranks : List ℕ) (later : List (Option ℕ)) (q : Piece)
    → length ranks ≡ length (drop s.closed fed) → 0 < length ranks → q.first ≡ s.closed → q.last ≡ s.closed + (length ranks - 1)
    → route_of n p (fed ++ more) (ranks_to n p fed s ranks later) q ≡ route_of n p (drop s.closed fed) (as_ranks ranks) (whole_piece (length ranks) c)
over-route n p fed more s c ranks later q count some first last =
    let xs = drop s.closed fed in
    let read : Layer → Option ℕ → Candidate = λ l r. candidate_of_rank l (unwrap_or r 0) in
    route-same n p (fed ++ more) xs (ranks_to n p fed s ranks later) (as_ranks ranks) q (whole_piece (length ranks) c) (omega (arith, first, last))
    (λ m le.
    let lt : m < length ranks = omega (arith, le, first, last, some) in
    let at : q.first + m ≡ s.closed + m = omega (arith, first) in
    let z : m ≡ 0 + m = omega arith in
    let e : length s.ranks + m ≡ s.closed + m = ap (λ k. k + m) s.count in
    ap (chosen_at (fed ++ more) (ranks_to n p fed s ranks later)) at
    ∙ ap (λ l. read l (get_or (ranks_to n p fed s ranks later) (s.closed + m) None)) (layer-later fed more s.closed m no_layer s.within ∙ get_or_append_left xs more no_layer m (omega (arith, lt, count)))
    ∙ ap (read (get_or xs m no_layer))
    (ap (λ k. get_or (ranks_to n p fed s ranks later) k None) (sym e) ∙ get_or-append-add s.ranks (as_ranks ranks ++ later) m None ∙ piece-rank ranks later m lt
    ∙ sym (get_or-map (λ r. let o : Option ℕ = Some r in o) ranks m 0 None lt))
    ∙ ap (chosen_at xs (as_ranks ranks)) z)

pub over-points : (n : Net) (p : Params) (fed more : List Layer) (s : Splits (trellis n p) 0 fed) (c h : ℕ) (ranks : List ℕ) (later : List (Option ℕ)) (q : Piece) (rest : List Piece)
    → IsOver n p fed more s c ranks → h ≤ length (drop s.closed fed) → q ≡ counted_piece s.closed (length (drop s.closed fed)) c → EndAfter (s.closed + length (drop s.closed fed)) rest
    → points_from (item_at (fed ++ more) (ranks_to n p fed s ranks later)) (closed_at n p (fed ++ more) (ranks_to n p fed s ranks later) (s.pieces ++ q ∷ rest)) s.closed (length (drop s.closed fed))
    ≡ ranked_items s.closed (drop s.closed fed) (rank_in ranks) 0 h ++ closing_of n p s.closed (drop s.closed fed) c ranks h
over-points n p fed more s c h ranks later q rest over le is high =
    let t = trellis n p in
    let xs = drop s.closed fed in
    let L = length xs in
    let some = over.some in
    let count : length ranks ≡ L = best-length t (xs ++ more) L c ranks over.best in
    let all = ranks_to n p fed s ranks later in
    let label = item_at (fed ++ more) all in
    let closed = closed_at n p (fed ++ more) all (s.pieces ++ q ∷ rest) in
    let first_is : q.first ≡ s.closed = ap (λ v. v.first) is in
    let last-is : q.last ≡ s.closed + (L - 1) = ap (λ v. v.last) is in
    let split : L ≡ h + (L - h) = omega (arith, le) in
    let z : s.closed ≡ s.closed + 0 = omega arith in
    let zero-h : 0 + h ≡ h = omega arith in
    let route = over-route n p fed more s c ranks later q count (omega (arith, some, count)) first_is (omega (arith, last-is, count)) in
    points-closed label closed s.closed L (closed_item n p (fed ++ more) all q) some
    (λ k ge lt. closed-later n p fed (fed ++ more) s all (q ∷ rest) k ge
    (all-cons (λ (x : Piece). x.last ≡ k → ⊥) q rest (λ e. omega (arith, e, last-is, lt, some)) (λ i d b. λ e. let z2 = high i d b in omega (arith, z2, e, lt))))
    (λ k e. closed-here (closed_item n p (fed ++ more) all) s.pieces q rest k
    (λ i d b. λ e2. let low = (closed-before t fed s i d b).low in omega (arith, low, e2, e, some)) (omega (arith, last-is, e, some)) (λ i d b. λ e2. let z2 = high i d b in omega (arith, z2, e2, e)))
    ∙ ap (λ i. map label (range_with_len i L) ++ closed_item n p (fed ++ more) all q ∷ []) z
    ∙ ap (λ ys. ys ++ closed_item n p (fed ++ more) all q ∷ []) (over-labels n p fed more s ranks later 0 L count (omega (arith, count)))
    ∙ ap (λ k. ranked_items s.closed xs (rank_in ranks) 0 k ++ closed_item n p (fed ++ more) all q ∷ []) split
    ∙ ap (λ ys. ys ++ closed_item n p (fed ++ more) all q ∷ []) (labels-split (ranked_item s.closed xs (rank_in ranks)) 0 h (L - h))
    ∙ ap (λ i. (ranked_items s.closed xs (rank_in ranks) 0 h ++ ranked_items s.closed xs (rank_in ranks) i (L - h)) ++ closed_item n p (fed ++ more) all q ∷ []) zero-h
    ∙ append_assoc (ranked_items s.closed xs (rank_in ranks) 0 h) (ranked_items s.closed xs (rank_in ranks) h (L - h)) (closed_item n p (fed ++ more) all q ∷ [])
    ∙ ap (λ es. ranked_items s.closed xs (rank_in ranks) 0 h ++ (ranked_items s.closed xs (rank_in ranks) h (L - h) ++ Closed q (edge_ids es) ∷ [])) route
    ∙ ap (λ v. ranked_items s.closed xs (rank_in ranks) 0 h ++ (ranked_items s.closed xs (rank_in ranks) h (L - h) ++ Closed v (edge_ids (route_of n p xs (as_ranks ranks) (whole_piece (length ranks) c))) ∷ [])) is
    ∙ ap (λ k. ranked_items s.closed xs (rank_in ranks) 0 h ++ (ranked_items s.closed xs (rank_in ranks) h (L - h) ++ Closed (counted_piece s.closed L c) (edge_ids (route_of n p xs (as_ranks ranks) (whole_piece k c))) ∷ [])) count

-- what was handed out before is the part before h

pub handed-before : (n : Net) (p : Params) (fed : List Layer) (s : Splits (trellis n p) 0 fed) (c : ℕ) (ranks : List ℕ) → IsBestOf (trellis n p) (drop s.closed fed) (length (drop s.closed fed)) c ranks
    → front (trellis n p) (drop s.closed fed) ≤ length (drop s.closed fed)
    → handed n p fed ≡ base n p fed s ++ ranked_items s.closed (drop s.closed fed) (rank_in ranks) 0 (front (trellis n p) (drop s.closed fed))
handed-before n p fed s c ranks best le =
    let t = trellis n p in
    let xs = drop s.closed fed in
    let z : s.closed ≡ s.closed + 0 = omega arith in
    handed-form n p fed s ∙ ap (λ i. base n p fed s ++ labels_between n p fed i (front t xs)) z
    ∙ ap (λ ys. base n p fed s ++ ys) (open-labels n p fed s (rank_in ranks) 0 (front t xs) (λ j ge lt. tail-rank t s.closed xs (length xs) c ranks j best (omega (arith, lt, le))))

-- the end of the trace

whole-best : (n : Net) (p : Params) (fed : List Layer) (s : Splits (trellis n p) 0 fed) (c : ℕ) (ranks : List ℕ) → IsBestOf (trellis n p) (drop s.closed fed) (length (drop s.closed fed)) c ranks
    → IsOver n p fed [] s c ranks
whole-best n p fed s c ranks best = record {
  some = best.some;
  best = subst (λ ys. IsBestOf (trellis n p) ys (length (drop s.closed fed)) c ranks) (sym (append-nil (drop s.closed fed))) best;
}

pub finished-items : (n : Net) (p : Params) (fed : List Layer) (s : Splits (trellis n p) 0 fed) (c : ℕ) (ranks : List ℕ) → IsBestOf (trellis n p) (drop s.closed fed) (length (drop s.closed fed)) c ranks
    → front (trellis n p) (drop s.closed fed) ≤ length (drop s.closed fed)
    → items_of n p fed ≡ handed n p fed ++ closing_of n p s.closed (drop s.closed fed) c ranks (front (trellis n p) (drop s.closed fed))
unfolding items_of
finished-items n p fed s c ranks best le =
    let t = trellis n p in
    let xs = drop s.closed fed in
    let L = length xs in
    let h = front t xs in
    let w = s.within in
    let some = best.some in
    let all : length fed ≡ s.closed + L = omega (arith, w, length-drop s.closed fed) in
    let q : Piece = record { first = s.closed; last = s.closed + L - 1; cost = (best_of t (take L xs)).cost } in
    let rest = from_point t (s.closed + L) (drop L xs) in
    let joined = from_joins t s.closed xs L some best.piece in
    let is : solution t fed ≡ _ = solution-now t fed s in
    let same = best-is t xs L c ranks best in
    let q-is : q ≡ counted_piece s.closed L c =
    (let e : s.closed + L - 1 ≡ s.closed + (L - 1) = omega (arith, some) in
    ap (λ k. let v : Piece = record { first = s.closed; last = k; cost = q.cost } in v) e ∙ ap (λ k. let v : Piece = record { first = s.closed; last = s.closed + (L - 1); cost = k } in v) same.0) in
    let ranks_are : (solution t fed).ranks ≡ ranks_to n p fed s ranks rest.ranks = ap (λ v. v.ranks) is ∙ ap (λ v. s.ranks ++ v.ranks) joined ∙ ap (λ r. s.ranks ++ (as_ranks r ++ rest.ranks)) same.1 in
    let pieces_are : (solution t fed).pieces ≡ s.pieces ++ q ∷ rest.pieces = ap (λ v. v.pieces) is ∙ ap (λ v. s.pieces ++ v.pieces) joined in
    let high : EndAfter (s.closed + L) rest.pieces = after t (length (drop L xs)) (s.closed + L) (drop L xs) in
    let nil = append-nil fed in
    ap (λ r. items_with n p fed r (solution t fed).pieces (length fed)) ranks_are
    ∙ ap (λ ps. items_with n p fed (ranks_to n p fed s ranks rest.ranks) ps (length fed)) pieces_are
    ∙ ap (items_with n p fed (ranks_to n p fed s ranks rest.ranks) (s.pieces ++ q ∷ rest.pieces)) all
    ∙ items-with n p fed fed s (as_ranks ranks ++ rest.ranks) (q ∷ rest.pieces) L (λ k lt. refl) (all-cons (λ (x : Piece). s.closed ≤ x.last) q rest.pieces (omega (arith, some)) (λ i d b. let z = high i d b in omega (arith, z)))
    ∙ ap (λ ys. base n p fed s ++ ys)
    (ap (λ layers. points_from (item_at layers (ranks_to n p fed s ranks rest.ranks)) (closed_at n p layers (ranks_to n p fed s ranks rest.ranks) (s.pieces ++ q ∷ rest.pieces)) s.closed L) (sym nil)
    ∙ over-points n p fed [] s c h ranks rest.ranks q rest.pieces (whole-best n p fed s c ranks best) le q-is high)
    ∙ sym (append_assoc (base n p fed s) (ranked_items s.closed xs (rank_in ranks) 0 h) (closing_of n p s.closed xs c ranks h))
    ∙ ap (λ ys. ys ++ closing_of n p s.closed xs c ranks h) (sym (handed-before n p fed s c ranks best le))

pub no-length : {X : Type 0} (xs : List X) → length xs ≡ 0 → xs ≡ []
no-length [] e = refl
no-length (x ∷ xs) e = absurd (omega (arith, e))

handed-is : (n : Net) (p : Params) (fed : List Layer)
    → handed n p fed ≡ items_with n p fed (solution (trellis n p) fed).ranks (closed_pieces (solution (trellis n p) fed).pieces (length fed)) (committed_of (trellis n p) fed)
unfolding handed
handed-is n p fed = refl

-- where no piece is open, all was handed out
pub finished-none : (n : Net) (p : Params) (fed : List Layer) (s : Splits (trellis n p) 0 fed) → length (drop s.closed fed) ≡ 0 → items_of n p fed ≡ handed n p fed ++ []
unfolding items_of
finished-none n p fed s none =
    let t = trellis n p in
    let w = s.within in
    let left = length-drop s.closed fed in
    let low = front-within t (drop s.closed fed) s.last in
    let committed = committed_split t fed s in
    let pieces : (solution t fed).pieces ≡ s.pieces = ap (λ v. v.pieces) (solution-now t fed s) ∙ ap (λ ys. s.pieces ++ (from_point t s.closed ys).pieces) (no-length (drop s.closed fed) none) ∙ append-nil s.pieces in
    let k : length fed ≡ committed_of t fed = omega (arith, w, left, low, committed, none) in
    ap (λ ps. items_with n p fed (solution t fed).ranks ps (length fed)) (pieces ∙ sym (closed_split t fed s))
    ∙ ap (λ m. items_with n p fed (solution t fed).ranks (closed_pieces (solution t fed).pieces (length fed)) m) k ∙ sym (handed-is n p fed) ∙ sym (append-nil (handed n p fed))
