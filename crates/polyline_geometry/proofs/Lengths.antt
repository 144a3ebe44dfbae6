-- The length of a line, point by point.
use Rattle.std.proofs.Common.{◌≡◌, ℕ, zero, suc, ◌+◌, ◌-◌, ◌*◌, ◌<◌, ◌≤◌, List, [], ◌∷◌, ◌++◌, length, get_or, take, All, sym, ap, ◌∙◌, arith, pos, length-append, ⊎_elim}
use Rattle.std.proofs.lemmas.Bool.{cases_lt}
use Rattle.std.proofs.lemmas.List.{get_or_append_left, get_or_default, get_or_push}
use Rattle.std.proofs.lemmas.List.Elements.{All-push}
use Rattle.std.specs.List.{AllAdjacentBelow}
use Rattle.polyline_geometry.specs.declared.plane.Point.{Point}
use Rattle.polyline_geometry.specs.Plane.{InRange, IsLine, straight, length_from, line_length, point_at}
use Rattle.polyline_geometry.proofs.Distances.{straight-le, straight-some}

length_from_take : (c : Point) (rest : List Point) (i : ℕ) → i < length rest
    → length_from c (take (suc i) rest) ≡ length_from c (take i rest) + straight (point_at (c ∷ rest) i) (point_at rest i)
length_from_take c [] i h = absurd (omega (arith, h))
length_from_take c (b ∷ rest) zero h = omega arith
length_from_take c (b ∷ rest) (suc i) h =
    let e = length_from_take b rest i (omega (arith, h)) in
    omega (arith, e)

-- one more point of a line adds the distance to the point before
pub line_length_take : (line : List Point) (i : ℕ) → 1 ≤ i → i < length line
    → line_length (take (i + 1) line) ≡ line_length (take i line) + straight (point_at line (i - 1)) (point_at line i)
line_length_take [] i h k = absurd (omega (arith, k))
line_length_take (c ∷ rest) zero h k = absurd (omega (arith, h))
line_length_take (c ∷ rest) (suc i) h k =
    let e : suc i + 1 ≡ suc (suc i) = omega arith in
    let b : suc i - 1 ≡ i = omega arith in
    ap (λ n. line_length (take n (c ∷ rest))) e ∙ length_from_take c rest i (omega (arith, k))
    ∙ ap (λ n. line_length (take (suc i) (c ∷ rest)) + straight (point_at (c ∷ rest) n) (point_at (c ∷ rest) (suc i))) (sym b)

-- one more segment of a line adds its straight length
pub line_length_next : (line : List Point) (i : ℕ) → i + 1 < length line
    → line_length (take (i + 1 + 1) line) ≡ line_length (take (i + 1) line) + straight (point_at line i) (point_at line (i + 1))
line_length_next line i h =
    let e : i + 1 - 1 ≡ i = omega arith in
    line_length_take line (i + 1) (omega arith) h ∙ ap (λ k. line_length (take (i + 1) line) + straight (point_at line k) (point_at line (i + 1))) e

length_from_push : (c : Point) (line : List Point) (a b : Point)
    → length_from c ((line ++ a ∷ []) ++ b ∷ []) ≡ length_from c (line ++ a ∷ []) + straight a b
length_from_push c [] a b = omega arith
length_from_push c (d ∷ line) a b = let e = length_from_push d line a b in omega (arith, e)

-- a line of one point has no length, and one more point at its end adds the distance from the point before
pub line_length_push : (line : List Point) (a b : Point)
    → line_length ((line ++ a ∷ []) ++ b ∷ []) ≡ line_length (line ++ a ∷ []) + straight a b
line_length_push [] a b = omega arith
line_length_push (c ∷ line) a b = length_from_push c line a b

length_from_small : (c : Point) (rest : List Point) → InRange c → All InRange rest → length_from c rest ≤ 2_828_427_124 * length rest
length_from_small c [] h k = omega arith
length_from_small c (b ∷ rest) h k =
    let s = straight-le c b h (k 0 b (omega arith)) in
    let r = length_from_small b rest (k 0 b (omega arith)) (λ i d lt. k (suc i) d (omega (arith, lt))) in
    omega (arith, s, r)

pub line_length_small : (line : List Point) → All InRange line → line_length line ≤ 2_828_427_124 * length line
line_length_small [] h = omega arith
line_length_small (c ∷ rest) h =
    let r = length_from_small c rest (h 0 c (omega arith)) (λ i d lt. h (suc i) d (omega (arith, lt))) in
    omega (arith, r)

length_from_front : (c : Point) (rest : List Point) (n : ℕ) → length_from c (take n rest) ≤ length_from c rest
length_from_front c rest zero = omega arith
length_from_front c [] (suc n) = omega arith
length_from_front c (b ∷ rest) (suc n) = let h = length_from_front b rest n in omega (arith, h)

-- the front of a line is no longer than the line
pub line_length_front : (line : List Point) (n : ℕ) → line_length (take n line) ≤ line_length line
line_length_front line zero = omega arith
line_length_front [] (suc n) = omega arith
line_length_front (c ∷ rest) (suc n) = length_from_front c rest n

-- a lawful line has a length of at least 1
pub line_length_some : (line : List Point) → IsLine line → 1 ≤ line_length line
line_length_some [] lawful = absurd (omega (arith, lawful.two))
line_length_some (a ∷ []) lawful = absurd (omega (arith, lawful.two))
line_length_some (a ∷ b ∷ rest) lawful =
    let differ : a ≡ b → ⊥ = lawful.differ 0 a (omega arith) in
    let s = straight-some a b differ in
    omega (arith, s)

-- a line that is lawful but for its last point, which differs from the one before
pub line_push : (line : List Point) (a b : Point) → 1 ≤ length line → All InRange line → AllAdjacentBelow (λ a b. a ≡ b → ⊥) line (length line)
    → point_at line (length line - 1) ≡ a → InRange b → (a ≡ b → ⊥) → IsLine (line ++ b ∷ [])
line_push line a b some in_range differ last b_in apart =
    let n = length-append line (b ∷ []) in
    let before = λ (k : ℕ) (d : Point) (lt : k < length line). get_or_append_left line (b ∷ []) d k lt in
    record {
      two = omega (arith, n);
      in_range = All-push InRange line b in_range b_in;
      differ = λ k d lt e.
          ⊎_elim
          (λ h. differ k d h (sym (before k d (omega (arith, h))) ∙ e ∙ before (k + 1) d h))
          (λ h.
          let here : get_or line k d ≡ a
          = get_or_default line k d (record { x = pos 0; y = pos 0 }) (omega (arith, n, lt, h))
          ∙ ap (λ i. point_at line i) (omega (arith, n, lt, h)) ∙ last
          in
          apart (sym here ∙ sym (before k d (omega (arith, n, lt, h))) ∙ e ∙ get_or_push line b d (k + 1) (omega (arith, n, lt, h))))
          (cases_lt (k + 1) (length line));
    }
