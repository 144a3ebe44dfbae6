-- Bits of a mask of 32 bits.
use Rattle.std.proofs.Common.{◌≡◌, ◌≢◌, ◌↔◌, ◌⊎◌, inl, inr, ⊎_elim, ℕ, zero, suc, ◌*◌, ◌%◌, ◌^◌, ◌<◌, sym, ap, ◌∙◌, subst, arith, w32}
use Rattle.std.specs.Prelude.{bit_or}
use Rattle.std.specs.Int.{bit_at, trailing_zeros}
use Rattle.std.proofs.Math.Nat.{mod-eq_of_lt}
use Rattle.std.proofs.Math.Pow.{pow-lt}
use Rattle.std.proofs.lemmas.Bool.{cases_lt}
use Rattle.std.proofs.lemmas.Nat.Bits.{bit_at-lt, bit_at-pow_other, bit_at-pow_same, bit_at-trailing_zeros, bit_at-zero, bit_at_set_other, bit_at_set_same, same_from_bits_below}
use Rattle.online_commit.specs.inside.Masks.{HasBit, IsNotOne, IsOnlyRank}

pub same-or-not : (a b : ℕ) → (a ≡ b) ⊎ (a ≢ b)
same-or-not a b =
    ⊎_elim (λ lt. inr (λ e. omega (arith, lt, e))) (λ ge. ⊎_elim (λ gt. inr (λ e. omega (arith, gt, e))) (λ le. inl (omega (arith, ge, le))) (cases_lt b a)) (cases_lt a b)

pub set-bit : (mask k r : ℕ) → k < 32 → HasBit (bit_or mask (1 * 2 ^ k % 2 ^ 32)) r ↔ HasBit mask r ⊎ (r ≡ k)
set-bit mask k r lt =
    let same : bit_at (bit_or mask (1 * 2 ^ k % 2 ^ 32)) k ≡ 1 = bit_at_set_same w32 mask k lt in (
      λ h. ⊎_elim (λ e. inr e) (λ not. inl (sym (bit_at_set_other w32 mask k lt r not) ∙ h)) (same-or-not r k),
      λ h. ⊎_elim (λ old. ⊎_elim (λ e. subst (λ i. HasBit (bit_or mask (1 * 2 ^ k % 2 ^ 32)) i) (sym e) same) (λ not. bit_at_set_other w32 mask k lt r not ∙ old) (same-or-not r k))
          (λ e. subst (λ i. HasBit (bit_or mask (1 * 2 ^ k % 2 ^ 32)) i) (sym e) same) h,
    )

pub no-bit : (r : ℕ) → HasBit 0 r → ⊥
no-bit r h = let z = bit_at-zero r in omega (arith, h, z)

pub none-set : IsNotOne 0
none-set = inl (λ r h. no-bit r h)

power-low : (k : ℕ) → k < 32 → 2 ^ k < 2 ^ 32
power-low k lt = pow-lt {i = k} {j = 32} lt

-- of two numbers, some bit below w differs, or none does
differs : (a b w : ℕ) → ((i : ℕ) → i < w → bit_at a i ≡ bit_at b i) ⊎ ((i : ℕ) × (bit_at a i ≢ bit_at b i))
differs a b zero = inl (λ i lt. absurd (omega (arith, lt)))
differs a b (suc w) =
    ⊎_elim
    (λ low. ⊎_elim
    (λ e. inl (λ i lt. ⊎_elim (λ less. low i less) (λ ge. let s : i ≡ w = omega (arith, lt, ge) in subst (λ j. bit_at a j ≡ bit_at b j) (sym s) e) (cases_lt i w)))
    (λ not. inr (w, not))
    (same-or-not (bit_at a w) (bit_at b w)))
    (λ some. inr some)
    (differs a b w)

-- one bit alone
pub only-power : (mask k : ℕ) → mask ≡ 2 ^ k → IsOnlyRank mask k
only-power mask k e = (
  subst (λ m. HasBit m k) (sym e) (bit_at-pow_same k),
  λ a h. ⊎_elim (λ s. s) (λ not. absurd (let z = bit_at-pow_other k a not in let g : HasBit (2 ^ k) a = subst (λ m. HasBit m a) e h in omega (arith, z, g))) (same-or-not a k),
)

pub not-power : (mask k : ℕ) → mask < 2 ^ 32 → k < 32 → HasBit mask k → mask ≢ 2 ^ k → IsNotOne mask
not-power mask k fits lt has not =
    ⊎_elim
    (λ same. absurd (not (same_from_bits_below 32 mask (2 ^ k) fits (power-low k lt) same)))
    (λ other.
    let i = other.0 in
    let ne : i ≢ k = λ e. other.1 (subst (λ j. bit_at mask j ≡ bit_at (2 ^ k) j) (sym e) (has ∙ sym (bit_at-pow_same k))) in
    let z = bit_at-pow_other k i ne in
    let low = bit_at-lt mask i in
    let d : bit_at mask i ≢ 0 = λ e. other.1 (e ∙ sym z) in
    let one : bit_at mask i ≡ 1 = omega (arith, low, d) in
    inr (k, i, has, one, λ e. ne (sym e)))
    (differs mask (2 ^ k) 32)

-- by the place of the lowest bit

power-mod : (k : ℕ) → k < 32 → 1 * 2 ^ k % 2 ^ 32 ≡ 2 ^ k
power-mod k lt = let low = power-low k lt in let e : 1 * 2 ^ k ≡ 2 ^ k = omega arith in ap (λ m. m % 2 ^ 32) e ∙ mod-eq_of_lt low

positive : (mask : ℕ) → mask ≢ 0 → 0 < mask
positive mask ne = omega (arith, ne)

pub only-told : (mask : ℕ) → mask ≢ 0 → mask < 2 ^ 32 → mask ≡ 1 * 2 ^ trailing_zeros w32 mask % 2 ^ 32 → IsOnlyRank mask (trailing_zeros w32 mask)
only-told mask ne fits e =
    let told = bit_at-trailing_zeros w32 mask (positive mask ne) fits in
    only-power mask (trailing_zeros w32 mask) (e ∙ power-mod (trailing_zeros w32 mask) told.0)

pub not-told : (mask : ℕ) → mask ≢ 0 → mask < 2 ^ 32 → mask ≢ 1 * 2 ^ trailing_zeros w32 mask % 2 ^ 32 → IsNotOne mask
not-told mask ne fits not =
    let told = bit_at-trailing_zeros w32 mask (positive mask ne) fits in
    not-power mask (trailing_zeros w32 mask) fits told.0 told.1 (λ e. not (e ∙ sym (power-mod (trailing_zeros w32 mask) told.0)))
