-- The match of a trace is lawful.
use Rattle.std.proofs.Common.{◌≡◌, ℕ, zero, suc, ◌+◌, ◌<◌, ◌≤◌, ◌≢◌, inl, inr, List, [], ◌∷◌, Option, Some, None, refl, ap, ◌∙◌, arith, length, map, get_or, ⊎_elim}
use Rattle.std.specs.List.{AllByRecursion}
use Rattle.cost_model.specs.declared.params.Params.{Params}
use Rattle.road_network.specs.Net.{Net}
use Rattle.matching.specs.declared.parts.Layer.{Layer}
use Rattle.matching.specs.declared.parts.Piece.{Piece}
use Rattle.matching.specs.Layers.{trellis}
use Rattle.matching.specs.Match.{IsMatch}
use Rattle.matching.specs.Pieces.{ArePieces}
use Rattle.matching.specs.Value.{Solution, solution}
use Rattle.matching.proofs.Lists.{element}
use Rattle.matching.proofs.SolutionMatches.{solution_is_a_match}
use Rattle.route_rebuild.specs.Routes.{route_of}
use Rattle.match_text.specs.declared.matched.Routed.{Routed}
use Rattle.match_text.specs.MatchText.{IsCovered, IsLawful, IsMatched, IsOn, IsRising}
use Rattle.std.proofs.lemmas.List.{length-map}
use Rattle.trellis.specs.declared.parts.Solved.{Solved}
use Rattle.trace_match.specs.Laws.{MatchesAreLawful}
use Rattle.trace_match.specs.Match.{label_of_rank, labels_of, layer_of, layers_of, match_of, matched_of, routed_of}
use Rattle.trace_match.specs.inside.Solved.{as_solution}
use Rattle.trace_match.proofs.Points.{LiesIn, lies_below, lies_earlier, lies_later, pieces_count, rank_there, ranked_lies}

-- ---- labels

pub labels_length : (n : Net) (layers : List Layer) (ranks : List (Option ℕ)) → length (labels_of n layers ranks) ≤ length layers
labels_length n [] ranks = omega arith
labels_length n (l ∷ layers) [] = omega arith
labels_length n (l ∷ layers) (rank ∷ ranks) = let h = labels_length n layers ranks in omega (arith, h)

pub labels_all : (n : Net) (layers : List Layer) (ranks : List (Option ℕ)) → length ranks ≡ length layers → length (labels_of n layers ranks) ≡ length layers
labels_all n [] ranks e = refl
labels_all n (l ∷ layers) [] e = absurd (omega (arith, e))
labels_all n (l ∷ layers) (rank ∷ ranks) e = ap suc (labels_all n layers ranks (omega (arith, e)))

on_if : (n : Net) (l : Layer) (rank : Option ℕ) (r : ℕ) → rank ≡ Some r → IsOn (label_of_rank n l rank)
on_if n l None r e = absurd (cc)
on_if n l (Some s) r e = tt

some_if : (n : Net) (l : Layer) (rank : Option ℕ) → IsOn (label_of_rank n l rank) → (r : ℕ) × (rank ≡ Some r)
some_if n l None h = absurd h
some_if n l (Some r) h = (r, refl)

matched_if : (n : Net) (layers : List Layer) (ranks : List (Option ℕ)) (i r : ℕ) → i < length layers → get_or ranks i None ≡ Some r → IsMatched (labels_of n layers ranks) i
matched_if n [] ranks i r lt e = absurd (omega (arith, lt))
matched_if n (l ∷ layers) [] i r lt e = absurd (cc)
matched_if n (l ∷ layers) (rank ∷ ranks) zero r lt e = on_if n l rank r e
matched_if n (l ∷ layers) (rank ∷ ranks) (suc i) r lt e = matched_if n layers ranks i r (omega (arith, lt)) e

-- a point with a rank
record HasRank (layers : List Layer) (ranks : List (Option ℕ)) (i : ℕ) : Type 0 where
  below : i < length layers
  rank : ℕ
  is : get_or ranks i None ≡ Some rank

ranked_if : (n : Net) (layers : List Layer) (ranks : List (Option ℕ)) (i : ℕ) → IsMatched (labels_of n layers ranks) i → HasRank layers ranks i
ranked_if n [] ranks i h = absurd h
ranked_if n (l ∷ layers) [] i h = absurd h
ranked_if n (l ∷ layers) (rank ∷ ranks) zero h = let r = some_if n l rank h in record { below = omega arith; rank = r.0; is = r.1 }
ranked_if n (l ∷ layers) (rank ∷ ranks) (suc i) h =
    let later = ranked_if n layers ranks i h in
    let lt = later.below in
    record { below = omega (arith, lt); rank = later.rank; is = later.is }

-- ---- pieces

rising : (n : Net) (p : Params) (layers : List Layer) (ranks : List (Option ℕ)) (at : ℕ) (pieces : List Piece)
    → ArePieces (trellis n p) layers at pieces → IsRising at (map (routed_of n p layers ranks) pieces)
rising n p layers ranks at [] are = tt
rising n p layers ranks at (q ∷ pieces) are = (are.0, are.2, rising n p layers ranks (q.last + 1) pieces are.4)

covered_if : (n : Net) (p : Params) (layers : List Layer) (ranks : List (Option ℕ)) (pieces : List Piece) (i k : ℕ)
    → LiesIn pieces i k → IsCovered (map (routed_of n p layers ranks) pieces) i
covered_if n p layers ranks [] i k h = absurd (let lt = h.below in omega (arith, lt))
covered_if n p layers ranks (q ∷ pieces) i zero h = inl (h.after_first, h.to_last)
covered_if n p layers ranks (q ∷ pieces) i (suc k) h = inr (covered_if n p layers ranks pieces i k (lies_earlier q pieces i k h))

lies_if : (n : Net) (p : Params) (layers : List Layer) (ranks : List (Option ℕ)) (pieces : List Piece) (i : ℕ)
    → IsCovered (map (routed_of n p layers ranks) pieces) i → (k : ℕ) × LiesIn pieces i k
lies_if n p layers ranks [] i h = absurd h
lies_if n p layers ranks (q ∷ pieces) i h =
    ⊎_elim
    (λ here. (0, record { below = omega arith; after_first = here.0; to_last = here.1 }))
    (λ behind. let later = lies_if n p layers ranks pieces i behind in (suc later.0, lies_later q pieces i later.0 later.1))
    h

routed_some : (n : Net) (p : Params) (layers : List Layer) (ranks : List (Option ℕ)) (piece : Piece) → (routed_of n p layers ranks piece).route ≢ []
unfolding route_of
routed_some n p layers ranks piece none = absurd (cc)

routes : (n : Net) (p : Params) (layers : List Layer) (ranks : List (Option ℕ)) (pieces : List Piece)
    → AllByRecursion (λ (piece : Routed). piece.route ≢ []) (map (routed_of n p layers ranks) pieces)
routes n p layers ranks [] = tt
routes n p layers ranks (q ∷ pieces) = (routed_some n p layers ranks q, routes n p layers ranks pieces)

-- ---- the match

lawful_found : (n : Net) (p : Params) (id : ℕ) (layers : List Layer) (s : Solved)
    → length layers ≤ 100_000 → IsMatch (trellis n p) layers s.ranks s.pieces s.tables
    → IsLawful (matched_of n p id layers (as_solution s))
lawful_found n p id layers s short is = record {
  rising = rising n p layers s.ranks 0 s.pieces is.pieces_are;
  covers = λ i. (
    (λ matched.
        let h = ranked_if n layers s.ranks i matched in
        let l = element layers i h.below in
        let lies = ranked_lies (trellis n p) layers s i h.rank l.0 is l.1 h.is in
        covered_if n p layers s.ranks s.pieces i lies.0 lies.1),
    (λ covered.
        let lies = lies_if n p layers s.ranks s.pieces i covered in
        let r = rank_there (trellis n p) layers s i lies.0 is lies.1 in
        matched_if n layers s.ranks i r.0 (lies_below (trellis n p) layers s.pieces i lies.0 is.pieces_are lies.1) r.1),
  );
  routes = routes n p layers s.ranks s.pieces;
  few = omega (arith, short, labels_length n layers s.ranks);
}

abbrev solved_of : Solution → Solved
solved_of s = record { ranks = s.ranks; pieces = s.pieces; tables = s.tables }

pub match_lawful : MatchesAreLawful
unfolding match_of
match_lawful n p trace accepted lawful =
    let layers = layers_of n p trace in
    let s = solved_of (solution (trellis n p) layers) in
    let is = solution_is_a_match (trellis n p) layers in
    let count : length layers ≡ length trace.fixes = length-map trace.fixes (layer_of n p) in
    let few = lawful.few in
    record {
      lawful = lawful_found n p trace.id layers s (omega (arith, count, few)) is;
      labels_count = labels_all n layers s.ranks is.ranks_count ∙ count;
      pieces_few =
          let pieces = pieces_count (trellis n p) layers 0 s.pieces is.pieces_are in
          omega (arith, pieces, count, length-map s.pieces (routed_of n p layers s.ranks));
    }
