-- Corners that are neighbours, and the lines between them.
use Rattle.std.proofs.Common.{◌≡◌, ℕ, ◌+◌, ◌*◌, ◌≤◌, ◌&&◌, Bool, true, false, ℤ, pos, refl, ap, ap₂, ◌∙◌, inl, inr, arith, ◌-ℤ◌}
use Rattle.std.specs.Int.RustNames.{unsigned_abs}
use Rattle.std.specs.Ordering.{int_eq}
use Rattle.std.proofs.lemmas.Bool.{cases_Bool}
use Rattle.std.proofs.lemmas.Bool.Decides.{Decides-int_eq}
use Rattle.std.proofs.lemmas.Int.{ints}
use Rattle.polyline_geometry.specs.declared.plane.Point.{Point}
use Rattle.polyline_geometry.specs.Plane.{distance2, square, straight}
use Rattle.polyline_geometry.proofs.Roots.{root-is}
use Rattle.road_network.specs.NetworkFile.{is_same}
use Rattle.town.specs.declared.corner.Corner.{Corner}
use Rattle.town.specs.Network.{place_of}
use Rattle.town.proofs.Fields.{IsNear}

-- two corners that are in range, one street from each other
pub record AreJoined (a b : Corner) : Type 0 where
  pub first : IsNear a
  pub second : IsNear b
  pub apart : distance2 (place_of a) (place_of b) ≡ 100_000_000
  pub back : distance2 (place_of b) (place_of a) ≡ 100_000_000

pub joined_back : (a b : Corner) → AreJoined a b → AreJoined b a
joined_back a b h = record { first = h.second; second = h.first; apart = h.back; back = h.apart }

none : (x : ℕ) → square (pos x -ℤ pos x) ≡ 0
none x = let e : unsigned_abs (pos x -ℤ pos x) ≡ 0 = omega (arith, ints) in ap₂ (λ p q. p * q) e e

up : (x y : ℕ) → x + 10_000 ≡ y → square (pos x -ℤ pos y) ≡ 100_000_000
up x y h = let e : unsigned_abs (pos x -ℤ pos y) ≡ 10_000 = omega (arith, ints, h) in ap₂ (λ p q. p * q) e e

down : (x y : ℕ) → x + 10_000 ≡ y → square (pos y -ℤ pos x) ≡ 100_000_000
down x y h = let e : unsigned_abs (pos y -ℤ pos x) ≡ 10_000 = omega (arith, ints, h) in ap₂ (λ p q. p * q) e e

pub joined_east : (c d : Corner) → c.row ≤ 9_999 → c.column ≤ 9_999 → d.row ≡ c.row → d.column ≡ c.column + 1 → AreJoined c d
joined_east c d row column same next =
    let x : 10_000 * c.column + 10_000 ≡ 10_000 * d.column = omega (arith, next) in
    let y : square (pos (10_000 * c.row) -ℤ pos (10_000 * d.row)) ≡ 0 = ap (λ r. square (pos (10_000 * c.row) -ℤ pos (10_000 * r))) same ∙ none (10_000 * c.row) in
    let z : square (pos (10_000 * d.row) -ℤ pos (10_000 * c.row)) ≡ 0 = ap (λ r. square (pos (10_000 * r) -ℤ pos (10_000 * c.row))) same ∙ none (10_000 * c.row) in
    record {
      first = record { row_low = omega (arith, row); column_low = omega (arith, column) };
      second = record { row_low = omega (arith, row, same); column_low = omega (arith, column, next) };
      apart = ap₂ (λ p q. p + q) (up (10_000 * c.column) (10_000 * d.column) x) y;
      back = ap₂ (λ p q. p + q) (down (10_000 * c.column) (10_000 * d.column) x) z;
    }

pub joined_north : (c d : Corner) → c.row ≤ 9_999 → c.column ≤ 9_999 → d.row ≡ c.row + 1 → d.column ≡ c.column → AreJoined c d
joined_north c d row column next same =
    let y : 10_000 * c.row + 10_000 ≡ 10_000 * d.row = omega (arith, next) in
    let x : square (pos (10_000 * c.column) -ℤ pos (10_000 * d.column)) ≡ 0 = ap (λ r. square (pos (10_000 * c.column) -ℤ pos (10_000 * r))) same ∙ none (10_000 * c.column) in
    let z : square (pos (10_000 * d.column) -ℤ pos (10_000 * c.column)) ≡ 0 = ap (λ r. square (pos (10_000 * r) -ℤ pos (10_000 * c.column))) same ∙ none (10_000 * c.column) in
    record {
      first = record { row_low = omega (arith, row); column_low = omega (arith, column) };
      second = record { row_low = omega (arith, row, next); column_low = omega (arith, column, same) };
      apart = ap₂ (λ p q. p + q) x (up (10_000 * c.row) (10_000 * d.row) y);
      back = ap₂ (λ p q. p + q) z (down (10_000 * c.row) (10_000 * d.row) y);
    }

pub straight_is : (a b : Corner) → AreJoined a b → straight (place_of a) (place_of b) ≡ 10_000
straight_is a b h =
    let apart = h.apart in
    root-is (distance2 (place_of a) (place_of b)) 10_000 (omega (arith, apart)) (omega (arith, apart))

same_points : (p q : Point) → is_same q p ≡ true → distance2 p q ≡ 0
same_points p q same =
    let xs : int_eq q.x p.x ≡ true = both_true (int_eq q.x p.x) (int_eq q.y p.y) same in
    let ys : int_eq q.y p.y ≡ true = second_true (int_eq q.x p.x) (int_eq q.y p.y) same in
    let x : q.x ≡ p.x = (Decides-int_eq q.x p.x).0 xs in
    let y : q.y ≡ p.y = (Decides-int_eq q.y p.y).0 ys in
    ap₂ (λ a b. square (p.x -ℤ a) + square (p.y -ℤ b)) x y ∙ ap₂ (λ a b. a + b) (zero_square p.x) (zero_square p.y)
  where
    both_true : (a b : Bool) → (a && b) ≡ true → a ≡ true
    both_true true b h = refl
    both_true false b h = cc

    second_true : (a b : Bool) → (a && b) ≡ true → b ≡ true
    second_true true b h = h
    second_true false b h = cc

    zero_square : (z : ℤ) → square (z -ℤ z) ≡ 0
    zero_square z = let e : unsigned_abs (z -ℤ z) ≡ 0 = omega (arith, ints) in ap₂ (λ p q. p * q) e e

pub differ : (a b : Corner) → AreJoined a b → is_same (place_of b) (place_of a) ≡ false
differ a b h =
    elim (cases_Bool (is_same (place_of b) (place_of a))) [
      | inl t ↦ let zero_is = same_points (place_of a) (place_of b) t in let apart = h.apart in absurd (omega (arith, zero_is, apart))
      | inr f ↦ f
    ]
