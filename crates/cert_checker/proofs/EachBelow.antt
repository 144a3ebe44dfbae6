-- Tests of each number below another.
use Rattle.std.proofs.Common.{◌≡◌, ◌<◌, ℕ, zero, suc, ◌+◌, Bool, true, false, List, [], ◌∷◌, ◌++◌, length, get_or, refl, ◌∙◌, ap, arith}
use Rattle.std.specs.Prelude.{◌&&◌, ◌||◌}
use Rattle.std.specs.List.{list_all, list_any, range_with_len}
use Rattle.std.proofs.lemmas.List.Folds.{list_all-append, list_all_at, list_any-append}
use Rattle.std.proofs.lemmas.List.FromFn.{get_or-range_with_len, length-range_with_len}
use Rattle.cert_checker.proofs.RightRows.{both_true}
use Rattle.cert_checker.specs.Verdicts.{each_below}

and_true : (b : Bool) → (b && true) ≡ b
and_true true = refl
and_true false = refl

or_false : (b : Bool) → (b || false) ≡ b
or_false true = refl
or_false false = refl

range_more : (a n : ℕ) → range_with_len a (suc n) ≡ range_with_len a n ++ (a + n) ∷ []
range_more a zero = let e : a ≡ a + 0 = omega arith in ap (λ (k : ℕ). k ∷ []) e
range_more a (suc n) =
    let e : a + 1 + n ≡ a + suc n = omega arith in
    ap (λ (xs : List ℕ). a ∷ xs) (range_more (a + 1) n ∙ ap (λ (k : ℕ). range_with_len (a + 1) n ++ k ∷ []) e)

below_more : (n : ℕ) → range_with_len 0 (n + 1) ≡ range_with_len 0 n ++ n ∷ []
below_more n =
    let e : n + 1 ≡ suc n = omega arith in
    let z : 0 + n ≡ n = omega arith in
    ap (range_with_len 0) e ∙ range_more 0 n ∙ ap (λ (k : ℕ). range_with_len 0 n ++ k ∷ []) z

pub each_more : (test : ℕ → Bool) (n : ℕ) → each_below (n + 1) test ≡ (each_below n test && test n)
each_more test n =
    ap (list_all test) (below_more n) ∙ list_all-append test (range_with_len 0 n) (n ∷ [])
    ∙ ap (λ (b : Bool). list_all test (range_with_len 0 n) && b) (and_true (test n))

pub any_more : (test : ℕ → Bool) (n : ℕ) → list_any test (range_with_len 0 (n + 1)) ≡ (list_any test (range_with_len 0 n) || test n)
any_more test n =
    ap (list_any test) (below_more n) ∙ list_any-append test (range_with_len 0 n) (n ∷ [])
    ∙ ap (λ (b : Bool). list_any test (range_with_len 0 n) || b) (or_false (test n))

pub one_more : (test : ℕ → Bool) (n : ℕ) → each_below n test ≡ true → test n ≡ true → each_below (n + 1) test ≡ true
one_more test n all here = each_more test n ∙ ap (λ (b : Bool). b && test n) all ∙ here

-- one number fails
pub one_fails : (test : ℕ → Bool) (n k : ℕ) → k < n → test k ≡ false → each_below n test ≡ false
one_fails test n k lt fails =
    let inside : k < length (range_with_len 0 n) = let e = length-range_with_len 0 n in omega (arith, e) in
    let at : get_or (range_with_len 0 n) k 0 ≡ k = let e = get_or-range_with_len 0 n k 0 lt in omega (arith, e) in
    list_all_at test (range_with_len 0 n) k 0 inside (ap test at ∙ fails)

each_from : (test : ℕ → Bool) (a n k : ℕ) → list_all test (range_with_len a n) ≡ true → k < n → test (a + k) ≡ true
each_from test a zero k all lt = absurd (omega (arith, lt))
each_from test a (suc n) zero all lt =
    let e : a + 0 ≡ a = omega arith in
    ap test e ∙ (both_true (test a) _ all).0
each_from test a (suc n) (suc k) all lt =
    let e : a + suc k ≡ a + 1 + k = omega arith in
    ap test e ∙ each_from test (a + 1) n k (both_true (test a) _ all).1 (omega (arith, lt))

-- each number passes
pub each_at : (test : ℕ → Bool) (n k : ℕ) → each_below n test ≡ true → k < n → test k ≡ true
each_at test n k all lt =
    let e : k ≡ 0 + k = omega arith in
    ap test e ∙ each_from test 0 n k all lt
