-- Whether the latest point of a trace has a candidate, and where its open piece begins.
use Rattle.std.proofs.Common.{◌≡◌, ⊎_elim, ℕ, zero, suc, ◌+◌, ◌-◌, ◌<◌, true, false, eqb, List, [], ◌∷◌, arith, length, drop, get_or, subst}
use Rattle.std.proofs.lemmas.Bool.{cases_lt}
use Rattle.std.proofs.lemmas.Bool.Decides.{nat_tests}
use Rattle.std.proofs.lemmas.List.{get_or_default, length-drop}
use Rattle.cost_model.specs.declared.params.Params.{Params}
use Rattle.road_network.specs.Net.{Net}
use Rattle.matching.specs.declared.parts.Layer.{Layer}
use Rattle.matching.specs.declared.parts.Piece.{Piece}
use Rattle.matching.specs.CommittedValue.{committed_of, open_first}
use Rattle.matching.specs.Layers.{trellis}
use Rattle.matching.specs.Pieces.{ArePieces}
use Rattle.matching.specs.Places.{IsAt}
use Rattle.matching.specs.Sequences.{Trellis}
use Rattle.matching.specs.Value.{solution}
use Rattle.matching.proofs.CommittedValues.{committed_split, front-within, whole}
use Rattle.matching.proofs.Ends.{piece_filled}
use Rattle.matching.proofs.Lists.{at-drop}
use Rattle.matching.proofs.SolutionMatches.{solution_is_a_match}
use Rattle.matching.proofs.Splits.{Splits}
use Rattle.trace_match.proofs.Points.{LiesIn, lies_earlier, point_lies}
use Rattle.trace_sessions.specs.CommonLabels.{LatestIsNear}

-- a piece that has the latest point is the open one

open-below : {L : Type 0} (t : Trellis L) (layers : List L) (at : ℕ) (pieces : List Piece) (k : ℕ)
    → ArePieces t layers at pieces → LiesIn pieces (length layers - 1) k → open_first pieces (length layers) < length layers
open-below t layers at [] k are lies = absurd (let lt = lies.below in omega (arith, lt))
open-below t layers at (p ∷ pieces) zero are lies =
    let first_to_last = are.2 in
    let within = are.3.within in
    let to_last = lies.to_last in
    let ends : p.last + 1 ≡ length layers = omega (arith, within, first_to_last, to_last, length-drop p.first layers) in
    let e : eqb (p.last + 1) (length layers) ≡ true = grind (arith, nat_tests) in
    rw e (omega (arith, first_to_last, ends))
open-below t layers at (p ∷ pieces) (suc k) are lies =
    let first_to_last = are.2 in
    let within = are.3.within in
    let later = open-below t layers (p.last + 1) pieces k are.4 (lies_earlier p pieces (length layers - 1) k lies) in
    let cases = cases_lt (p.last + 1) (length layers) in
    ⊎_elim
    (λ lt. let e : eqb (p.last + 1) (length layers) ≡ false = grind (arith, nat_tests) in rw e later)
    (λ ge. let ends : p.last + 1 ≡ length layers = omega (arith, within, first_to_last, ge, length-drop p.first layers) in
    let e : eqb (p.last + 1) (length layers) ≡ true = grind (arith, nat_tests) in
    rw e (omega (arith, first_to_last, ends)))
    cases

-- the latest point is there

some-latest : (n : Net) (p : Params) (layers : List Layer) → LatestIsNear layers → (l : Layer) × IsAt layers (length layers - 1) l × (0 < (trellis n p).width l)
some-latest n p [] near = absurd (let lt = near.below in omega (arith, lt))
some-latest n p (d ∷ rest) near =
    let layers = d ∷ rest in
    let i = length layers - 1 in
    let l = get_or layers i d in
    let is : l ≡ get_or layers i l = get_or_default layers i d l (omega arith) in
    (l, record { below = omega arith; is = is }, near.some l is)

pub latest-open : (n : Net) (p : Params) (layers : List Layer) → LatestIsNear layers → open_first (solution (trellis n p) layers).pieces (length layers) < length layers
latest-open n p layers near =
    let t = trellis n p in
    let latest = some-latest n p layers near in
    let l = latest.0 in
    let lt = near.below in
    let are = (solution_is_a_match t layers).pieces_are in
    let lies = point_lies t layers 0 (solution t layers).pieces (length layers - 1) l are (omega arith) lt (subst (λ x. 0 < t.width x) latest.1.is latest.2) in
    open-below t layers 0 (solution t layers).pieces lies.0 are lies.1

-- where a piece is open, the latest point has a candidate

near-latest : (n : Net) (p : Params) (layers : List Layer) (s : Splits (trellis n p) 0 layers) → 0 < length (drop s.closed layers) → LatestIsNear layers
near-latest n p layers s some =
    let t = trellis n p in
    let xs = drop s.closed layers in
    let i = length layers - 1 in
    let left = length-drop s.closed layers in
    let inside : i < length layers = omega (arith, some, left) in
    record {
      below = inside;
      some = λ l is.
          let there : IsAt xs (i - s.closed) l = at-drop layers s.closed i l (omega (arith, some, left)) (record { below = inside; is = is }) in
          ⊎_elim
          (λ yes. yes)
          (λ few. absurd (piece_filled t xs (length xs) (i - s.closed) l (s.last some) (omega (arith, some, left)) there (omega (arith, few))))
          (cases_lt 0 (t.width l));
    }

pub far-committed : (n : Net) (p : Params) (layers : List Layer) → ¬ LatestIsNear layers → committed_of (trellis n p) layers ≡ length layers
far-committed n p layers far =
    let t = trellis n p in
    let s = whole t layers in
    let w = s.within in
    let left = length-drop s.closed layers in
    let low = front-within t (drop s.closed layers) s.last in
    let value = committed_split t layers s in
    ⊎_elim
    (λ some. absurd (far (near-latest n p layers s some)))
    (λ few. omega (arith, value, low, few, left, w))
    (cases_lt 0 (length (drop s.closed layers)))
