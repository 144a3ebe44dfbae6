-- The greatest number whose square is at most n is the one between whose square and the next n lies.
use Rattle.std.proofs.Common.{◌≡◌, ℕ, zero, suc, ◌+◌, ◌*◌, ◌<◌, ◌≤◌, Bool, true, false, cond, leb, refl, sym, ap, ◌∙◌, subst, arith, ⊎_elim, mul-le-mul}
use Rattle.std.proofs.lemmas.Bool.{cases_lt}
use Rattle.std.proofs.lemmas.Bool.Decides.{nat_tests}
use Rattle.polyline_geometry.specs.Plane.{root_up_to, root}

step : (n k : ℕ) (b : Bool) → leb (suc k * suc k) n ≡ b → root_up_to n (suc k) ≡ cond b (suc k) (root_up_to n k)
step n k b e = ap (λ v. cond v (suc k) (root_up_to n k)) e

root_up_to-is : (n k r : ℕ) → r ≤ k → r * r ≤ n → n < (r + 1) * (r + 1) → root_up_to n k ≡ r
root_up_to-is n zero r le low high = omega (arith, le)
root_up_to-is n (suc k) r le low high =
    ⊎_elim
    (λ lt. let sq : (r + 1) * (r + 1) ≤ suc k * suc k = mul-le-mul (omega (arith, lt)) (omega (arith, lt)) in
    let b : leb (suc k * suc k) n ≡ false = grind (arith, nat_tests) in
    step n k false b ∙ root_up_to-is n k r (omega (arith, lt)) low high)
    (λ ge. let same : r ≡ suc k = omega (arith, le, ge) in
    let b : leb (suc k * suc k) n ≡ true = subst (λ v. leb (v * v) n ≡ true) same (grind (arith, nat_tests)) in
    step n k true b ∙ sym same)
    (cases_lt r (suc k))

-- r is the root of n
pub root-is : (n r : ℕ) → r * r ≤ n → n < (r + 1) * (r + 1) → root n ≡ r
unfolding root
root-is n r low high =
    let le : r ≤ n = ⊎_elim (λ lt. omega (arith, lt)) (λ ge. let m : r * 1 ≤ r * r = mul-le-mul (omega arith) (omega (arith, ge)) in omega (arith, m, low)) (cases_lt r 1) in
    root_up_to-is n n r le low high

root_up_to-square : (n k : ℕ) → root_up_to n k * root_up_to n k ≤ n
root_up_to-square n zero = omega arith
root_up_to-square n (suc k) =
    let both : (b : Bool) → leb (suc k * suc k) n ≡ b → root_up_to n (suc k) * root_up_to n (suc k) ≤ n = λ b.
    elim b as (λ v. leb (suc k * suc k) n ≡ v → root_up_to n (suc k) * root_up_to n (suc k) ≤ n) [
      | true ↦ λ e. subst (λ r. r * r ≤ n) (sym (step n k true e)) (grind (arith, nat_tests))
      | false ↦ λ e. subst (λ r. r * r ≤ n) (sym (step n k false e)) (root_up_to-square n k)
    ]
    in both (leb (suc k * suc k) n) refl

pub root-square : (n : ℕ) → root n * root n ≤ n
unfolding root
root-square n = root_up_to-square n n

-- what bounds the root: a number whose square is above n
pub root-below : (n b : ℕ) → n < b * b → root n < b
root-below n b h =
    ⊎_elim (λ lt. lt) (λ ge. let sq : b * b ≤ root n * root n = mul-le-mul ge ge in let r = root-square n in absurd (omega (arith, sq, r, h))) (cases_lt (root n) b)

pub is_root : (n r : ℕ) → r * r ≤ n → n < (r + 1) * (r + 1) → r ≡ root n
is_root n r low high = sym (root-is n r low high)

root_up_to-next : (n k : ℕ) (r : ℕ) → r ≤ k → r * r ≤ n → r ≤ root_up_to n k
root_up_to-next n zero r le h = omega (arith, le)
root_up_to-next n (suc k) r le h =
    let both : (b : Bool) → leb (suc k * suc k) n ≡ b → r ≤ root_up_to n (suc k) = λ b.
    elim b as (λ v. leb (suc k * suc k) n ≡ v → r ≤ root_up_to n (suc k)) [
      | true ↦ λ e. subst (λ v. r ≤ v) (sym (step n k true e)) le
      | false ↦ λ e. subst (λ v. r ≤ v) (sym (step n k false e)) (root_up_to-next n k r
          (⊎_elim (λ lt. omega (arith, lt))
          (λ ge. let same : r ≡ suc k = omega (arith, le, ge) in
          let fits : suc k * suc k ≤ n = subst (λ v. v * v ≤ n) same h in
          absurd (grind (arith, nat_tests))) (cases_lt r (suc k))) h)
    ]
    in both (leb (suc k * suc k) n) refl

-- what the root reaches: each number whose square is at most n
pub root-reaches : (n r : ℕ) → r * r ≤ n → r ≤ root n
unfolding root
root-reaches n r h =
    let le : r ≤ n = ⊎_elim (λ lt. omega (arith, lt)) (λ ge. let m : r * 1 ≤ r * r = mul-le-mul (omega arith) (omega (arith, ge)) in omega (arith, m, h)) (cases_lt r 1) in
    root_up_to-next n n r le h
