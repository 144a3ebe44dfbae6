-- A match chooses at each point of a piece a candidate, and there is a route between neighbours.
use Rattle.std.proofs.Common.{◌≡◌, ℕ, zero, suc, ◌+◌, ◌-◌, ◌<◌, ◌≤◌, List, [], ◌∷◌, Option, Some, None, length, map, take, drop, reverse, get_or, option_map, refl, sym, ap, subst, ◌∙◌, arith, length-drop}
use Rattle.std.specs.Prelude.{slice_index_or, unwrap_or}
use Rattle.std.proofs.lemmas.List.{get_or-reverse, get_or-take, get_or-drop, length-reverse}
use Rattle.cost_model.specs.declared.params.Params.{Params}
use Rattle.cost_model.specs.Costs.{transition}
use Rattle.polyline_geometry.specs.Plane.{straight}
use Rattle.road_network.specs.declared.Candidate.{Candidate}
use Rattle.road_network.specs.Net.{Net, IsLawful}
use Rattle.matching.specs.declared.parts.Layer.{Layer}
use Rattle.matching.specs.declared.parts.Piece.{Piece}
use Rattle.matching.specs.Layers.{candidate_of_rank, no_candidate, trellis}
use Rattle.matching.specs.Match.{IsMatchedPiece, from_to}
use Rattle.matching.specs.Pieces.{ArePieces}
use Rattle.matching.specs.RouteLength.{IsShortest, length_of_route}
use Rattle.matching.specs.Routes.{Route, IsRoute}
use Rattle.matching.specs.Sequences.{Trellis, cost}
use Rattle.matching.proofs.Costs.{cost-in_range, cost-length, cost-parts}
use Rattle.matching.proofs.Lists.{at_some, length-map_some}
use Rattle.matching.proofs.RouteLengths.{route_lengths_least}
use Rattle.route_rebuild.specs.Chosen.{IsSolved}
use Rattle.route_rebuild.specs.inside.ChosenRuns.{IsChosenRun}
use Rattle.route_rebuild.specs.Routes.{no_layer, piece_at}
use Rattle.trellis.specs.declared.parts.Solved.{Solved}

-- each rank of a sequence is below the number of its layer's candidates
rank_below : {L : Type 0} (t : Trellis L) (layers : List L) (ranks : List ℕ) (m : ℕ) (d : L) (e : ℕ) {c : ℕ} → cost t layers ranks ≡ Some c → m < length layers → get_or ranks m e < t.width (get_or layers m d)
rank_below t [] ranks m d e h lt = absurd (omega (arith, lt))
rank_below t (l ∷ layers) [] m d e h lt = absurd (cc)
rank_below t (l ∷ layers) (j ∷ ranks) zero d e {c} h lt = cost-in_range t l layers j ranks c h
rank_below t (l ∷ []) (j ∷ ranks) (suc m) d e h lt = absurd (omega (arith, lt))
rank_below t (l ∷ h1 ∷ layers) (j ∷ []) (suc m) d e {c} h lt = absurd (let len = cost-length t (l ∷ h1 ∷ layers) (j ∷ []) c h in omega (arith, len))
rank_below t (l ∷ h1 ∷ layers) (j ∷ a ∷ ranks) (suc m) d e {c} h lt =
    let p = cost-parts t h1 layers a ranks l j c h in
    rank_below t (h1 ∷ layers) (a ∷ ranks) m d e p.before-is (omega (arith, lt))

-- each neighbouring pair has a transition
pair_moves : {L : Type 0} (t : Trellis L) (layers : List L) (ranks : List ℕ) (m : ℕ) (d : L) (e : ℕ) {c : ℕ} → cost t layers ranks ≡ Some c → m + 1 < length layers
    → (w : ℕ) × (t.transition (get_or layers (suc m) d) (get_or ranks (suc m) e) (get_or layers m d) (get_or ranks m e) ≡ Some w)
pair_moves t [] ranks m d e h lt = absurd (omega (arith, lt))
pair_moves t (l ∷ []) ranks m d e h lt = absurd (omega (arith, lt))
pair_moves t (l ∷ h1 ∷ layers) [] m d e h lt = absurd (cc)
pair_moves t (l ∷ h1 ∷ layers) (j ∷ []) m d e {c} h lt = absurd (let len = cost-length t (l ∷ h1 ∷ layers) (j ∷ []) c h in omega (arith, len))
pair_moves t (l ∷ h1 ∷ layers) (j ∷ a ∷ ranks) zero d e {c} h lt = let p = cost-parts t h1 layers a ranks l j c h in (p.move, p.move-is)
pair_moves t (l ∷ h1 ∷ layers) (j ∷ a ∷ ranks) (suc m) d e {c} h lt =
    let p = cost-parts t h1 layers a ranks l j c h in
    pair_moves t (h1 ∷ layers) (a ∷ ranks) m d e p.before-is (omega (arith, lt))

get_or-map_some : (xs : List ℕ) (k e : ℕ) → k < length xs → get_or (map (λ r. Some r) xs) k None ≡ Some (get_or xs k e)
get_or-map_some [] k e lt = absurd (omega (arith, lt))
get_or-map_some (x ∷ xs) zero e lt = refl
get_or-map_some (x ∷ xs) (suc k) e lt = get_or-map_some xs k e (omega (arith, lt))

-- an element between two places, by its place in the whole list
pub between : {X : Type 0} (xs : List X) (first last k : ℕ) (d : X) → k < last + 1 - first → get_or (from_to first last xs) k d ≡ get_or xs (first + k) d
between xs first last k d lt = get_or-take (last + 1 - first) (drop first xs) k d lt ∙ get_or-drop first xs k d

-- a piece lies within the points
pub record IsWithin (layers_count : ℕ) (p : Piece) : Type 0 where
  pub some : p.first ≤ p.last
  pub inside : p.last < layers_count

pub pieces_within : {L : Type 0} (t : Trellis L) (layers : List L) (i : ℕ) (pieces : List Piece) (k : ℕ) (d : Piece) → ArePieces t layers i pieces → k < length pieces → IsWithin (length layers) (slice_index_or pieces k d)
pieces_within t layers i [] k d are lt = absurd (omega (arith, lt))
pieces_within t layers i (p ∷ pieces) zero d are lt = record { some = are.2; inside = omega (arith, are.2, are.3.within, length-drop p.first layers) }
pieces_within t layers i (p ∷ pieces) (suc k) d are lt = pieces_within t layers (p.last + 1) pieces k d are.4 (omega (arith, lt))

pub length_between : {X : Type 0} (xs : List X) (first last : ℕ) → first ≤ last → last < length xs → length (from_to first last xs) ≡ last + 1 - first
length_between xs first last le lt = let d = length-drop first xs in length-take-of (last + 1 - first) (drop first xs) (omega (arith, d, le, lt))
  where
    length-take-of : {X : Type 0} (n : ℕ) (ys : List X) → n ≤ length ys → length (take n ys) ≡ n
    length-take-of zero ys le = refl
    length-take-of (suc n) [] le = absurd (omega (arith, le))
    length-take-of (suc n) (y ∷ ys) le = ap suc (length-take-of n ys (omega (arith, le)))

mirrored : {X : Type 0} (xs : List X) (k q : ℕ) (d : X) → k < length xs → q ≡ length xs - 1 - k → get_or (reverse xs) q d ≡ get_or xs k d
mirrored xs k q d lt is =
    let inside : q < length xs = omega (arith, lt, is) in
    let back : length xs - 1 - q ≡ k = omega (arith, lt, is) in
    get_or-reverse xs q d inside ∙ ap (λ (i : ℕ). get_or xs i d) back

-- j is a point from `first` to `last`, of `count` points
pub record IsInPiece (first last count j : ℕ) : Type 0 where
  pub from_first : first ≤ j
  pub to_last : j ≤ last
  pub inside : last < count

-- point j of the piece, counted from its last point back
point_layer : {X : Type 0} (xs : List X) (first last j : ℕ) (d : X) → IsInPiece first last (length xs) j → get_or (reverse (from_to first last xs)) (last - j) d ≡ get_or xs j d
point_layer xs first last j d place =
    let from_first = place.from_first in
    let to_last = place.to_last in
    let len = length_between xs first last (omega (arith, from_first, to_last)) place.inside in
    let at : first + (j - first) ≡ j = omega (arith, from_first) in
    mirrored (from_to first last xs) (j - first) (last - j) d (omega (arith, len, from_first, to_last)) (omega (arith, len, from_first, to_last))
    ∙ (between xs first last (j - first) d (omega (arith, from_first, to_last)) ∙ ap (λ (i : ℕ). get_or xs i d) at)

-- the rank of point j of the piece
pub point_chosen : (ranks : List (Option ℕ)) (chosen : List ℕ) (first last j : ℕ) → from_to first last ranks ≡ map (λ r. Some r) chosen → IsInPiece first last (length ranks) j
    → (length chosen ≡ last + 1 - first) × (get_or ranks j None ≡ Some (get_or chosen (j - first) 0))
point_chosen ranks chosen first last j are place =
    let from_first = place.from_first in
    let to_last = place.to_last in
    let len : length chosen ≡ last + 1 - first = sym (length-map_some chosen) ∙ (ap length (sym are) ∙ length_between ranks first last (omega (arith, from_first, to_last)) place.inside) in
    let k : ℕ = j - first in
    let lt : k < length chosen = omega (arith, len, from_first, to_last) in
    let at : first + k ≡ j = omega (arith, from_first) in (
      len,
      ap (λ (i : ℕ). get_or ranks i None) (sym at)
          ∙ (sym (between ranks first last k None (omega (arith, from_first, to_last)))
          ∙ (ap (λ (l : List (Option ℕ)). get_or l k None) are ∙ get_or-map_some chosen k 0 lt)),
    )

pub point_rank : (ranks : List (Option ℕ)) (chosen : List ℕ) (first last j : ℕ) → from_to first last ranks ≡ map (λ r. Some r) chosen → IsInPiece first last (length ranks) j → get_or (reverse chosen) (last - j) 0 ≡ unwrap_or (get_or ranks j None) 0
point_rank ranks chosen first last j are place =
    let from_first = place.from_first in
    let to_last = place.to_last in
    let there = point_chosen ranks chosen first last j are place in
    let len = there.0 in
    mirrored chosen (j - first) (last - j) 0 (omega (arith, len, from_first, to_last)) (omega (arith, len, from_first, to_last)) ∙ sym (ap (λ (o : Option ℕ). unwrap_or o 0) there.1)

some_of : {A B : Type 0} (f : A → B) (o : Option A) (w : B) → option_map f o ≡ Some w → (x : A) × (o ≡ Some x)
some_of f None w h = absurd (cc)
some_of f (Some x) w h = (x, refl)

-- where the trellis moves from candidate to candidate, there is a route
route_there : (n : Net) (p : Params) (m l : Layer) (a b w : ℕ) → IsLawful n → (trellis n p).transition m a l b ≡ Some w
    → (r : Route) × IsRoute n p.bound p.back (candidate_of_rank m a) (candidate_of_rank l b) r
route_there n p m l a b w lawful moves =
    let from : Candidate = candidate_of_rank m a in
    let to : Candidate = candidate_of_rank l b in
    let len = some_of (λ (route : ℕ). transition p route (straight m.point l.point)) (length_of_route n p.bound p.back from to) w moves in
    let short : IsShortest n p.bound p.back from to len.0 = at_some ((r : Route) → IsRoute n p.bound p.back from to r → ⊥) (IsShortest n p.bound p.back from to) (length_of_route n p.bound p.back from to) len.0 len.1 (route_lengths_least n p.bound p.back from to lawful) in
    (short.route, short.is)

-- one piece of the match, from its last point back: its layers and its ranks are those of its points
record IsPieceBack (n : Net) (p : Params) (layers : List Layer) (s : Solved) (piece : Piece) : Type 0 where
  back : List Layer
  ranks : List ℕ
  count : length back ≡ piece.last + 1 - piece.first
  costs : cost (trellis n p) back ranks ≡ Some piece.cost
  layer-is : (j : ℕ) → piece.first ≤ j → j ≤ piece.last → get_or back (piece.last - j) no_layer ≡ get_or layers j no_layer
  rank-is : (j : ℕ) → piece.first ≤ j → j ≤ piece.last → get_or ranks (piece.last - j) 0 ≡ unwrap_or (get_or s.ranks j None) 0

piece_back : (n : Net) (p : Params) (layers : List Layer) (s : Solved) (piece : Piece) → IsWithin (length layers) piece → length s.ranks ≡ length layers
    → IsMatchedPiece (trellis n p) layers s.ranks s.tables piece → IsPieceBack n p layers s piece
piece_back n p layers s piece within count m =
    let first : ℕ = piece.first in
    let last : ℕ = piece.last in
    let below = within.inside in
    let inside : last < length s.ranks = omega (arith, below, count) in
    record {
      back = reverse (from_to first last layers);
      ranks = reverse m.chosen;
      count = length-reverse (from_to first last layers) ∙ length_between layers first last within.some within.inside;
      costs = m.best.costs;
      layer-is = λ j ge le. point_layer layers first last j no_layer (record { from_first = ge; to_last = le; inside = below });
      rank-is = λ j ge le. point_rank s.ranks m.chosen first last j m.ranks_are (record { from_first = ge; to_last = le; inside = inside });
    }

among : (n : Net) (p : Params) (layers : List Layer) (s : Solved) (piece : Piece) (j : ℕ) → IsPieceBack n p layers s piece → piece.first ≤ j → j ≤ piece.last
    → unwrap_or (get_or s.ranks j None) 0 < length (get_or layers j no_layer).candidates
among n p layers s piece j b ge le =
    let count = b.count in
    let below = rank_below (trellis n p) b.back b.ranks (piece.last - j) no_layer 0 b.costs (omega (arith, count, ge, le)) in
    subst (λ (r : ℕ). r < length (get_or layers j no_layer).candidates) (b.rank-is j ge le) (subst (λ (l : Layer). get_or b.ranks (piece.last - j) 0 < length l.candidates) (b.layer-is j ge le) below)

moved : (n : Net) (p : Params) (layers : List Layer) (s : Solved) (piece : Piece) (j : ℕ) → IsPieceBack n p layers s piece → piece.first ≤ j → j < piece.last
    → (w : ℕ) × ((trellis n p).transition (get_or layers j no_layer) (unwrap_or (get_or s.ranks j None) 0) (get_or layers (j + 1) no_layer) (unwrap_or (get_or s.ranks (j + 1) None) 0) ≡ Some w)
moved n p layers s piece j b ge less =
    let t : Trellis Layer = trellis n p in
    let le : j ≤ piece.last = omega (arith, less) in
    let ge2 : piece.first ≤ j + 1 = omega (arith, ge) in
    let le2 : j + 1 ≤ piece.last = omega (arith, less) in
    let q : ℕ = piece.last - (j + 1) in
    let before : suc q ≡ piece.last - j = omega (arith, less) in
    let count = b.count in
    let move = pair_moves t b.back b.ranks q no_layer 0 b.costs (omega (arith, count, ge, less)) in
    let from-is : get_or b.back (suc q) no_layer ≡ get_or layers j no_layer = ap (λ (k : ℕ). get_or b.back k no_layer) before ∙ b.layer-is j ge le in
    let from-rank : get_or b.ranks (suc q) 0 ≡ unwrap_or (get_or s.ranks j None) 0 = ap (λ (k : ℕ). get_or b.ranks k 0) before ∙ b.rank-is j ge le in
    let to-is : get_or b.back q no_layer ≡ get_or layers (j + 1) no_layer = b.layer-is (j + 1) ge2 le2 in
    let to-rank : get_or b.ranks q 0 ≡ unwrap_or (get_or s.ranks (j + 1) None) 0 = b.rank-is (j + 1) ge2 le2 in (
      move.0,
      subst (λ l. t.transition l (unwrap_or (get_or s.ranks j None) 0) (get_or layers (j + 1) no_layer) (unwrap_or (get_or s.ranks (j + 1) None) 0) ≡ Some move.0) from-is
          (subst (λ (r : ℕ). t.transition (get_or b.back (suc q) no_layer) r (get_or layers (j + 1) no_layer) (unwrap_or (get_or s.ranks (j + 1) None) 0) ≡ Some move.0) from-rank
          (subst (λ l. t.transition (get_or b.back (suc q) no_layer) (get_or b.ranks (suc q) 0) l (unwrap_or (get_or s.ranks (j + 1) None) 0) ≡ Some move.0) to-is
          (subst (λ (r : ℕ). t.transition (get_or b.back (suc q) no_layer) (get_or b.ranks (suc q) 0) (get_or b.back q no_layer) r ≡ Some move.0) to-rank move.1))),
    )

pub chosen_run : (n : Net) (p : Params) (layers : List Layer) (s : Solved) (k : ℕ) → IsLawful n → IsSolved n p layers s → k < length s.pieces → IsChosenRun n p layers s.ranks (piece_at s.pieces k)
chosen_run n p layers s k lawful is lt =
    let t : Trellis Layer = trellis n p in
    let piece : Piece = piece_at s.pieces k in
    let none : Piece = record { first = 0; last = 0; cost = 0 } in
    let within : IsWithin (length layers) piece = pieces_within t layers 0 s.pieces k none is.matched.pieces_are lt in
    let below = within.inside in
    let count = is.matched.ranks_count in
    let b = piece_back n p layers s piece within count (is.matched.each k none lt) in
    record {
      options = is.trace.options;
      some = within.some;
      points = λ j ge le. record { layer = omega (arith, le, below); rank = omega (arith, le, below, count); among = among n p layers s piece j b ge le };
      candidates = λ j ge le. (is.trace.are.each j no_layer (omega (arith, le, below))).candidates (unwrap_or (get_or s.ranks j None) 0) no_candidate (among n p layers s piece j b ge le);
      routes = λ j ge less.
          let move = moved n p layers s piece j b ge less in
          let there = route_there n p (get_or layers j no_layer) (get_or layers (j + 1) no_layer) (unwrap_or (get_or s.ranks j None) 0) (unwrap_or (get_or s.ranks (j + 1) None) 0) move.0 lawful move.1 in
          λ none. none there.0 there.1;
    }
