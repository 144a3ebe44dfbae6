-- A signed number that is read is within its range.
use Rattle.std.proofs.Common.{◌≡◌, ℕ, ◌≤◌, Bool, true, false, cond, List, ℤ, pos, nat_abs, suc, zero, drop, Result, Ok, Err, refl, ap, arith}
use Rattle.std.specs.Prelude.{neg_ℤ}
use Rattle.std.specs.Result.{result_map_both}
use Rattle.std.specs.Str.Parse.{starts_with_minus}
use Rattle.decimal_text.specs.declared.number.NumberFault.{NumberFault}
use Rattle.decimal_text.specs.Number.{unsigned_within, signed_within}
use Rattle.decimal_text.proofs.Laws.{Spells-unsigned_within}

abs_of_sign : (f : ℕ → ℤ) (keeps : (n : ℕ) → nat_abs (f n) ≡ n) (most : ℕ) (read : Result ℕ NumberFault) (z : ℤ) → ((n : ℕ) → read ≡ Ok n → n ≤ most)
    → result_map_both f (λ fault. fault) read ≡ Ok z → nat_abs z ≤ most
abs_of_sign f keeps most (Ok n) z small is =
    let same : f n ≡ z = cc is in
    omega (arith, small n refl, keeps n, ap nat_abs same)
abs_of_sign f keeps most (Err fault) z small is = absurd (cc is)

abs-negative : (n : ℕ) → nat_abs (neg_ℤ (pos n)) ≡ n
abs-negative zero = refl
abs-negative (suc n) = refl

abs_by_minus : (minus : Bool) (most : ℕ) (z : ℤ) (text : List ℕ)
    → cond minus (result_map_both (λ n. neg_ℤ (pos n)) (λ fault. fault) (unsigned_within most (drop 1 text))) (result_map_both pos (λ fault. fault) (unsigned_within most text)) ≡ Ok z
    → nat_abs z ≤ most
abs_by_minus true most z text read =
    abs_of_sign (λ n. neg_ℤ (pos n)) abs-negative most (unsigned_within most (drop 1 text)) z (λ n e. (Spells-unsigned_within most n (drop 1 text) e).small) read
abs_by_minus false most z text read =
    abs_of_sign pos (λ n. refl) most (unsigned_within most text) z (λ n e. (Spells-unsigned_within most n text e).small) read

pub abs-signed_within : (most : ℕ) (z : ℤ) (text : List ℕ) → signed_within most text ≡ Ok z → nat_abs z ≤ most
unfolding signed_within
abs-signed_within most z text read = abs_by_minus (starts_with_minus text) most z text read
