-- No part of a segment is its first end, and the whole of it its last.
use Rattle.std.proofs.Common.{◌≡◌, ℕ, zero, suc, ◌+◌, ◌*◌, ◌/◌, ◌<◌, ◌≤◌, sym, ap, ◌∙◌, arith, ℤ, pos, negsuc, ◌+ℤ◌, ◌-ℤ◌, ◌*ℤ◌, neg_ℤ}
use Rattle.std.proofs.Math.Nat.{mul-div_cancel, div-lt_iff_lt-mul, le-div_iff_mul-le}
use Rattle.std.proofs.Math.IntN.{+ℤ_comm, +ℤ_idr, -ℤ-+ℤ_cancel}
use Rattle.std.specs.Int.{int_div_euclid}
use Rattle.polyline_geometry.specs.declared.plane.Point.{Point}
use Rattle.polyline_geometry.specs.Plane.{along, snapped}

none_of : (z : ℤ) (n : ℕ) → int_div_euclid (z *ℤ pos 0) (pos n) ≡ pos 0
none_of (pos k) n = let e : k * 0 / n ≡ 0 = omega arith in ap pos e
none_of (negsuc k) n =
    let e : suc k * 0 ≡ 0 = omega arith in
    let z : 0 / n ≡ 0 = omega arith in
    ap (λ v. int_div_euclid (neg_ℤ (pos v)) (pos n)) e ∙ ap pos z

-- the last whole part below k + 1 times n
last_part : (k m n : ℕ) → 0 < n → suc m ≡ (k + 1) * n → m / n ≡ k
last_part k m n h e =
    let lt : m / n < k + 1 = (div-lt_iff_lt-mul h).1 (omega (arith, e)) in
    let ge : k ≤ m / n = (le-div_iff_mul-le h).1 (omega (arith, e)) in
    omega (arith, lt, ge)

below_zero : (k m n : ℕ) → 0 < n → m ≡ (k + 1) * n → int_div_euclid (neg_ℤ (pos m)) (pos n) ≡ negsuc k
below_zero k zero n h e = absurd (omega (arith, h, e))
below_zero k (suc m) n h e = ap negsuc (last_part k m n h e)

all_of : (z : ℤ) (n : ℕ) → 0 < n → int_div_euclid (z *ℤ pos n) (pos n) ≡ z
all_of (pos k) n h = ap pos (mul-div_cancel k h)
all_of (negsuc k) n h =
    let e : suc k ≡ k + 1 = omega arith in
    below_zero k (suc k * n) n h (ap (λ v. v * n) e)

along_none : (a b : ℤ) (n : ℕ) → along a b 0 n ≡ a
along_none a b n = ap (λ z. a +ℤ z) (none_of (b -ℤ a) n) ∙ +ℤ_idr a

along_all : (a b : ℤ) (n : ℕ) → 0 < n → along a b n n ≡ b
along_all a b n h = ap (λ z. a +ℤ z) (all_of (b -ℤ a) n h) ∙ +ℤ_comm a (b -ℤ a) ∙ -ℤ-+ℤ_cancel b a

pub first_end : (a b : Point) (t n : ℕ) → t ≡ 0 → a ≡ snapped a b t n
first_end a b t n e =
    let x : a.x ≡ along a.x b.x t n = sym (ap (λ v. along a.x b.x v n) e ∙ along_none a.x b.x n) in
    let y : a.y ≡ along a.y b.y t n = sym (ap (λ v. along a.y b.y v n) e ∙ along_none a.y b.y n) in
    ap (λ v. let p : Point = record { x = v; y = a.y } in p) x ∙ ap (λ v. let p : Point = record { x = along a.x b.x t n; y = v } in p) y

pub last_end : (a b : Point) (t n : ℕ) → t ≡ n → 0 < n → b ≡ snapped a b t n
last_end a b t n e h =
    let x : b.x ≡ along a.x b.x t n = sym (ap (λ v. along a.x b.x v n) e ∙ along_all a.x b.x n h) in
    let y : b.y ≡ along a.y b.y t n = sym (ap (λ v. along a.y b.y v n) e ∙ along_all a.y b.y n h) in
    ap (λ v. let p : Point = record { x = v; y = b.y } in p) x ∙ ap (λ v. let p : Point = record { x = along a.x b.x t n; y = v } in p) y
