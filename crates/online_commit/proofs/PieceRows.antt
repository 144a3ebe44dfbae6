-- Which rows a piece asks for at a point. In this file layers stand in the order of the points.
use Rattle.std.proofs.Common.{◌≡◌, ℕ, zero, suc, ◌+◌, ◌-◌, ◌<◌, ◌≤◌, List, [], ◌∷◌, ◌++◌, Some, refl, sym, ap, ◌∙◌, subst, arith, length, take, drop, reverse, slice_get}
use Rattle.std.proofs.lemmas.List.{drop-append-le, length-drop, take-append-le}
use Rattle.std.proofs.lemmas.Option.{slice_get_within}
use Rattle.cost_model.specs.declared.params.Params.{Params}
use Rattle.road_network.specs.Net.{Net}
use Rattle.matching.specs.declared.parts.Layer.{Layer}
use Rattle.matching.specs.declared.parts.Piece.{Piece}
use Rattle.matching.specs.Asked.{IsAskedNodeAt}
use Rattle.matching.specs.Layers.{end_of, trellis}
use Rattle.matching.specs.Sequences.{IsRankReached}

pub slice-left : {X : Type 0} (xs ys : List X) (i : ℕ) → i < length xs → slice_get (xs ++ ys) i ≡ slice_get xs i
slice-left [] ys i lt = absurd (omega (arith, lt))
slice-left (x ∷ xs) ys zero lt = refl
slice-left (x ∷ xs) ys (suc i) lt = slice-left xs ys i (omega (arith, lt))

pub slice-seam : {X : Type 0} (xs : List X) (y : X) → slice_get (xs ++ y ∷ []) (length xs) ≡ Some y
slice-seam [] y = refl
slice-seam (x ∷ xs) y = slice-seam xs y

-- the first i points from `first` on
pub points-same : (fed more : List Layer) (first i : ℕ) → first ≤ i + 1 → i + 1 ≤ length fed → take (i + 1 - first) (drop first (fed ++ more)) ≡ take (i + 1 - first) (drop first fed)
points-same fed more first i le lt =
    ap (take (i + 1 - first)) (drop-append-le first fed more (omega (arith, le, lt)))
    ∙ take-append-le (i + 1 - first) (drop first fed) more (omega (arith, le, lt, length-drop first fed))

-- a piece asks at a point, of which only the piece's first point matters
abbrev AsksFrom : Net → Params → List Layer → ℕ → ℕ → ℕ → Type 0
AsksFrom n p layers first i v =
    (q : Piece) → q.first ≡ first → i ≤ q.last → IsAskedNodeAt (trellis n p) (end_of n) layers q i v

pub at-more : (n : Net) (p : Params) (fed more : List Layer) (q : Piece) (i v : ℕ) → IsAskedNodeAt (trellis n p) (end_of n) fed q i v → AsksFrom n p (fed ++ more) q.first i v
at-more n p fed more q i v h r first last =
    let t = trellis n p in
    let lt = slice_get_within fed (i + 1) h.next h.next_is in
    let ge = h.after_first in
    let same = points-same fed more r.first i (omega (arith, ge, first)) (omega (arith, lt)) in
    record {
      after_first = omega (arith, ge, first);
      to_last = last;
      here = h.here;
      next = h.next;
      rank = h.rank;
      here_is = slice-left fed more i (omega (arith, lt)) ∙ h.here_is;
      next_is = slice-left fed more (i + 1) lt ∙ h.next_is;
      next_some = h.next_some;
      near = h.near;
      reached = subst (λ ys. IsRankReached t (reverse ys) h.rank) (sym same)
          (subst (λ k. IsRankReached t (reverse (take (i + 1 - k) (drop k fed))) h.rank) (sym first) h.reached);
      node_is = h.node_is;
    }

pub at-fewer : (n : Net) (p : Params) (fed more : List Layer) (q : Piece) (i v : ℕ) → i + 1 < length fed → IsAskedNodeAt (trellis n p) (end_of n) (fed ++ more) q i v → AsksFrom n p fed q.first i v
at-fewer n p fed more q i v lt h r first last =
    let t = trellis n p in
    let ge = h.after_first in
    let same = points-same fed more r.first i (omega (arith, ge, first)) (omega (arith, lt)) in
    record {
      after_first = omega (arith, ge, first);
      to_last = last;
      here = h.here;
      next = h.next;
      rank = h.rank;
      here_is = sym (slice-left fed more i (omega (arith, lt))) ∙ h.here_is;
      next_is = sym (slice-left fed more (i + 1) lt) ∙ h.next_is;
      next_some = h.next_some;
      near = h.near;
      reached = subst (λ ys. IsRankReached t (reverse ys) h.rank) same
          (subst (λ k. IsRankReached t (reverse (take (i + 1 - k) (drop k (fed ++ more)))) h.rank) (sym first) h.reached);
      node_is = h.node_is;
    }

pub at-itself : (n : Net) (p : Params) (fed : List Layer) (q : Piece) (i v : ℕ) → IsAskedNodeAt (trellis n p) (end_of n) fed q i v → AsksFrom n p fed q.first i v
at-itself n p fed q i v h r first last = record {
  after_first = subst (λ k. k ≤ i) (sym first) h.after_first;
  to_last = last;
  here = h.here;
  next = h.next;
  rank = h.rank;
  here_is = h.here_is;
  next_is = h.next_is;
  next_some = h.next_some;
  near = h.near;
  reached = subst (λ k. IsRankReached (trellis n p) (reverse (take (i + 1 - k) (drop k fed))) h.rank) (sym first) h.reached;
  node_is = h.node_is;
}
