-- How far apart two points in range are.
use Rattle.std.proofs.Common.{◌≡◌, ℕ, zero, suc, ◌+◌, ◌*◌, ◌<◌, ◌≤◌, refl, sym, ap, ◌∙◌, arith, mul-le-mul, ℤ, pos, negsuc, ◌-ℤ◌, ⊎_elim}
use Rattle.std.proofs.lemmas.Int.{ints}
use Rattle.std.proofs.lemmas.Bool.{cases_lt}
use Rattle.std.specs.Int.RustNames.{unsigned_abs}
use Rattle.polyline_geometry.specs.declared.plane.Point.{Point}
use Rattle.polyline_geometry.specs.Plane.{InRange, distance2, straight}
use Rattle.polyline_geometry.proofs.Roots.{root-below, root-reaches}

pub gap-le : (a b : ℤ) (m n : ℕ) → unsigned_abs a ≤ m → unsigned_abs b ≤ n → unsigned_abs (a -ℤ b) ≤ m + n
gap-le (pos a) (pos b) m n h k = omega (arith, ints)
gap-le (pos a) (negsuc b) m n h k = omega (arith, ints)
gap-le (negsuc a) (pos b) m n h k = omega (arith, ints)
gap-le (negsuc a) (negsuc b) m n h k = omega (arith, ints)

pub squares_small : (x y : ℕ) → x ≤ 2_000_000_000 → y ≤ 2_000_000_000 → x * x + y * y ≤ 8_000_000_000_000_000_000
squares_small x y h k =
    let xx : x * x ≤ 2_000_000_000 * 2_000_000_000 = mul-le-mul h h in
    let yy : y * y ≤ 2_000_000_000 * 2_000_000_000 = mul-le-mul k k in
    omega (arith, xx, yy)

pub distance2-le : (a b : Point) → InRange a → InRange b → distance2 a b ≤ 8_000_000_000_000_000_000
distance2-le a b h k =
    let x = gap-le a.x b.x 1_000_000_000 1_000_000_000 h.x_abs k.x_abs in
    let y = gap-le a.y b.y 1_000_000_000 1_000_000_000 h.y_abs k.y_abs in
    squares_small (unsigned_abs (a.x -ℤ b.x)) (unsigned_abs (a.y -ℤ b.y)) x y

pub straight-le : (a b : Point) → InRange a → InRange b → straight a b ≤ 2_828_427_124
straight-le a b h k =
    let d = distance2-le a b h k in
    let r = root-below (distance2 a b) 2_828_427_125 (omega (arith, d)) in
    omega (arith, r)

-- a place whose coordinates are no farther is no farther
pub closer : (p q r : Point) → unsigned_abs (p.x -ℤ q.x) ≤ unsigned_abs (p.x -ℤ r.x) → unsigned_abs (p.y -ℤ q.y) ≤ unsigned_abs (p.y -ℤ r.y)
    → distance2 p q ≤ distance2 p r
closer p q r h k =
    let xx : unsigned_abs (p.x -ℤ q.x) * unsigned_abs (p.x -ℤ q.x) ≤ unsigned_abs (p.x -ℤ r.x) * unsigned_abs (p.x -ℤ r.x) = mul-le-mul h h in
    let yy : unsigned_abs (p.y -ℤ q.y) * unsigned_abs (p.y -ℤ q.y) ≤ unsigned_abs (p.y -ℤ r.y) * unsigned_abs (p.y -ℤ r.y) = mul-le-mul k k in
    omega (arith, xx, yy)

apart : (a b : ℤ) → unsigned_abs (a -ℤ b) ≡ 0 → a ≡ b
apart (pos a) (pos b) h = omega (arith, ints)
apart (pos a) (negsuc b) h = omega (arith, ints)
apart (negsuc a) (pos b) h = omega (arith, ints)
apart (negsuc a) (negsuc b) h = omega (arith, ints)

no_square : (x : ℕ) → x * x ≡ 0 → x ≡ 0
no_square zero h = refl
no_square (suc x) h = absurd (let m : suc x * 1 ≤ suc x * suc x = mul-le-mul (omega arith) (omega arith) in omega (arith, h, m))

-- points that differ are apart
pub differ_apart : (a b : Point) → (a ≡ b → ⊥) → 0 < distance2 b a
differ_apart a b h =
    ⊎_elim (λ lt. lt)
    (λ le.
    let x = no_square (unsigned_abs (b.x -ℤ a.x)) (omega (arith, le)) in
    let y = no_square (unsigned_abs (b.y -ℤ a.y)) (omega (arith, le)) in
    let ex = apart b.x a.x x in
    let ey = apart b.y a.y y in
    absurd (h (sym (ap (λ v. let p : Point = record { x = v; y = b.y } in p) ex ∙ ap (λ v. let p : Point = record { x = a.x; y = v } in p) ey))))
    (cases_lt 0 (distance2 b a))

-- points that differ have a straight distance of at least 1
pub straight-some : (a b : Point) → (a ≡ b → ⊥) → 1 ≤ straight a b
straight-some a b h =
    let d = differ_apart b a (λ e. h (sym e)) in
    ⊎_elim (λ lt. let r = root-reaches (distance2 a b) 1 (omega (arith, d)) in r) (λ le. le) (cases_lt (straight a b) 1)
