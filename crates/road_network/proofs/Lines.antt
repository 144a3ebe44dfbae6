-- Points that repeat the one before them, and lines that have none.
use Rattle.std.proofs.Common.{◌≡◌, ℕ, zero, suc, ◌+◌, ◌-◌, ◌<◌, ◌≤◌, true, false, cond, List, [], ◌∷◌, None, Some, refl, ◌∙◌, arith, add-one, length, get_or, drop, drop-cons, drop_of_length-le, pos, ℤ, inl, inr}
use Rattle.std.proofs.lemmas.Bool.{cases_Bool}
use Rattle.std.proofs.lemmas.Bool.Decides.{Decides-int_eq}
use Rattle.std.specs.List.{AllAdjacentBelow}
use Rattle.std.specs.Ordering.{int_eq}
use Rattle.polyline_geometry.specs.declared.plane.Point.{Point}
use Rattle.polyline_geometry.specs.Plane.{point_at}
use Rattle.road_network.specs.NetworkFile.{is_same, repeated_after, repeated_point}

pub repeated-first : (line : List Point) → repeated_point line ≡ repeated_after 1 (point_at line 0) (drop 1 line)
repeated-first [] = refl
repeated-first (a ∷ line) = refl

-- one point further
repeated-next : (line : List Point) (i : ℕ) (a : Point) → i < length line
    → repeated_after i a (drop i line) ≡ cond (is_same (point_at line i) a) (Some (i + 1)) (repeated_after (i + 1) (point_at line i) (drop (i + 1) line))
repeated-next line i a lt = rw (drop-cons line i (record { x = pos 0; y = pos 0 }) lt, add-one i) refl

pub repeated-here : (line : List Point) (i : ℕ) (a : Point) → i < length line → is_same (point_at line i) a ≡ true → repeated_after i a (drop i line) ≡ Some (i + 1)
repeated-here line i a lt same = repeated-next line i a lt ∙ rw same refl

pub repeated-later : (line : List Point) (i : ℕ) (a : Point) → i < length line → is_same (point_at line i) a ≡ false
    → repeated_after i a (drop i line) ≡ repeated_after (i + 1) (point_at line (i + 1 - 1)) (drop (i + 1) line)
repeated-later line i a lt differ =
    let back : i + 1 - 1 ≡ i = omega arith in
    rw back (repeated-next line i a lt ∙ rw differ refl)

pub repeated-none : (line : List Point) (i : ℕ) (a : Point) → length line ≤ i → repeated_after i a (drop i line) ≡ None
repeated-none line i a le = rw (drop_of_length-le line le) refl

int-is : (x : ℤ) → int_eq x x ≡ true
int-is x = (Decides-int_eq x x).1 refl

same-is : (a b : Point) → a ≡ b → is_same b a ≡ true
same-is a b e = rw e (rw (int-is b.x, int-is b.y) refl)

-- no point after a equals the one before it
apart-after : (i : ℕ) (a : Point) (rest : List Point) → repeated_after i a rest ≡ None → (k : ℕ) (d : Point) → k < length rest → get_or (a ∷ rest) k d ≡ get_or rest k d → ⊥
apart-after i a [] h k d lt e = omega (arith, lt)
apart-after i a (b ∷ rest) h zero d lt e =
    let no : Some (i + 1) ≡ None = rw (same-is a b e) at h in cc
apart-after i a (b ∷ rest) h (suc k) d lt e =
    elim (cases_Bool (is_same b a)) [
      | inl t ↦ let no : Some (i + 1) ≡ None = rw t at h in cc
      | inr f ↦ apart-after (i + 1) b rest (rw f at h) k d (omega (arith, lt)) e
    ]

-- neighbouring points of a line that repeats none differ
pub line-apart : (line : List Point) → repeated_point line ≡ None → AllAdjacentBelow (λ a b. a ≡ b → ⊥) line (length line)
line-apart [] h k d lt = absurd (omega (arith, lt))
line-apart (a ∷ rest) h k d lt = rw (add-one k) (apart-after 1 a rest h k d (omega (arith, lt)))
