-- A part of a signed number, rounded down.
use Rattle.std.proofs.Common.{◌≡◌, ℕ, zero, suc, ◌+◌, ◌*◌, ◌/◌, ◌<◌, ◌≤◌, inl, inr, ◌-◌, ap, ◌∙◌, subst, arith, mul-le-mul, ℤ, pos, negsuc, ◌*ℤ◌, ◌≤ℤ◌, neg_ℤ, ⊎_elim}
use Rattle.std.proofs.Math.Nat.{div-le_of_le-mul, div-lt_iff_lt-mul, le-div_iff_mul-le, mul_comm}
use Rattle.std.proofs.lemmas.Int.{ints}
use Rattle.std.specs.Int.{int_div_euclid}
use Rattle.std.specs.Int.RustNames.{unsigned_abs}
use Rattle.polyline_geometry.specs.inside.Parts.{IsPartOf}

pub div_le : (k t n : ℕ) → t ≤ n → k * t / n ≤ k
div_le k t n le =
    let m : k * t ≤ k * n = mul-le-mul (omega arith) le in
    div-le_of_le-mul n (omega (arith, m, mul_comm k n))

-- the quotient is the number whose product is at most m, and no farther below it than n
pub is_quotient : (m n q : ℕ) → q * n ≤ m → m - q * n < n → q ≡ m / n
is_quotient m n q low high =
    let some : 0 < n = omega (arith, high) in
    let up : q ≤ m / n = (le-div_iff_mul-le some).1 low in
    let down : m / n < q + 1 = (div-lt_iff_lt-mul some).1 (omega (arith, low, high)) in
    omega (arith, up, down)

pub floor_above : (x : ℤ) (n q : ℕ) → pos 0 ≤ℤ x → q ≡ unsigned_abs x / n → pos q ≡ int_div_euclid x (pos n)
floor_above (pos m) n q h e = ap pos e
floor_above (negsuc k) n q h e = absurd (omega (arith, ints, h))

pub floor_below : (x : ℤ) (n q : ℕ) → x ≤ℤ negsuc 0 → q ≡ (unsigned_abs x - 1) / n → negsuc q ≡ int_div_euclid x (pos n)
floor_below (pos m) n q h e = absurd (omega (arith, ints, h))
floor_below (negsuc k) n q h e =
    let s : unsigned_abs (negsuc k) - 1 ≡ k = omega arith in
    ap negsuc (e ∙ ap (λ v. v / n) s)

-- the quotient of what is below 0, by how far it is below
below_zero : (k m n : ℕ) → 0 < n → m ≤ (k + 1) * n → (negsuc k ≤ℤ int_div_euclid (neg_ℤ (pos m)) (pos n)) × (int_div_euclid (neg_ℤ (pos m)) (pos n) ≤ℤ pos 0)
below_zero k zero n h le = let z : 0 / n ≡ 0 = omega arith in (omega (arith, ints, z), omega (arith, ints, z))
below_zero k (suc m) n h le =
    let q : m / n < k + 1 = (div-lt_iff_lt-mul h).1 (omega (arith, le)) in
    (omega (arith, ints, q), omega (arith, ints, q))

pub part_between : (z : ℤ) (t n : ℕ) → 0 < n → t ≤ n → IsPartOf z (int_div_euclid (z *ℤ pos t) (pos n))
part_between (pos k) t n h le = let q = div_le k t n le in inl (omega (arith, ints), omega (arith, ints, q))
part_between (negsuc k) t n h le =
    let m : suc k * t ≤ suc k * n = mul-le-mul (omega arith) le in
    let e : suc k ≡ k + 1 = omega arith in
    inr (below_zero k (suc k * t) n h (subst (λ v. suc k * t ≤ v * n) e m))

between_small : (z q : ℤ) (b : ℕ) → unsigned_abs z ≤ b → IsPartOf z q → unsigned_abs q ≤ b
between_small (pos a) (pos c) b h k = ⊎_elim (λ l. omega (arith, ints, l.1)) (λ r. omega (arith, ints, r.1)) k
between_small (pos a) (negsuc c) b h k = ⊎_elim (λ l. absurd (omega (arith, ints, l.0))) (λ r. absurd (omega (arith, ints, r.0))) k
between_small (negsuc a) (pos c) b h k = ⊎_elim (λ l. absurd (omega (arith, ints, l.0, l.1))) (λ r. omega (arith, ints, r.1)) k
between_small (negsuc a) (negsuc c) b h k = ⊎_elim (λ l. absurd (omega (arith, ints, l.0))) (λ r. omega (arith, ints, r.0)) k

pub part_small : (z : ℤ) (t n b : ℕ) → 0 < n → t ≤ n → unsigned_abs z ≤ b → unsigned_abs (int_div_euclid (z *ℤ pos t) (pos n)) ≤ b
part_small z t n b h le k = between_small z (int_div_euclid (z *ℤ pos t) (pos n)) b k (part_between z t n h le)
