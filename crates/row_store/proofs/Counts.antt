-- How many of the first nodes pass a test.
use Rattle.std.proofs.Common.{◌≡◌, ℕ, zero, suc, ◌+◌, Bool, cond, refl, ap, ◌∙◌, arith, ◌≤◌, false, true}
use Rattle.std.specs.List.{count_by, range_with_len}
use Rattle.std.proofs.lemmas.List.Sums.{sum_by-cons, count_by-le-length}
use Rattle.std.proofs.lemmas.List.FromFn.{length-range_with_len}

-- the first number counts where it passes
first : (test : ℕ → Bool) (k a : ℕ) → count_by test (range_with_len a (suc k)) ≡ cond (test a) 1 0 + count_by test (range_with_len (a + 1) k)
first test k a = sum_by-cons (λ (x : ℕ). cond (test x) 1 0) a (range_with_len (a + 1) k)

none : (test : ℕ → Bool) (a : ℕ) → count_by test (range_with_len a 0) ≡ 0
none test a = refl

-- and so does the last
last : (test : ℕ → Bool) (k a n : ℕ) → a + k ≡ n → count_by test (range_with_len a (suc k)) ≡ count_by test (range_with_len a k) + cond (test n) 1 0
last test zero a n is =
    let at : a ≡ n = omega (arith, is) in
    let x : ℕ = cond (test a) 1 0 in
    let y : ℕ = cond (test n) 1 0 in
    let same : x ≡ y = ap (λ v. cond (test v) 1 0) at in
    omega (arith, first test 0 a, none test (a + 1), none test a, same)
last test (suc k) a n is =
    omega (arith, last test k (a + 1) n (omega (arith, is)), first test (suc k) a, first test k a)

more : (test : ℕ → Bool) (n : ℕ) (b : Bool) → test n ≡ b → count_by test (range_with_len 0 (n + 1)) ≡ count_by test (range_with_len 0 n) + cond b 1 0
more test n b is =
    let next : n + 1 ≡ suc n = omega arith in
    ap (λ k. count_by test (range_with_len 0 k)) next ∙ last test n 0 n (omega arith) ∙ ap (λ b. count_by test (range_with_len 0 n) + cond b 1 0) is

pub count_yes : (test : ℕ → Bool) (n : ℕ) → test n ≡ true → count_by test (range_with_len 0 (n + 1)) ≡ count_by test (range_with_len 0 n) + 1
count_yes test n is = more test n true is

pub count_no : (test : ℕ → Bool) (n : ℕ) → test n ≡ false → count_by test (range_with_len 0 (n + 1)) ≡ count_by test (range_with_len 0 n)
count_no test n is = let one = more test n false is in omega (arith, one)

pub count_few : (test : ℕ → Bool) (n : ℕ) → count_by test (range_with_len 0 n) ≤ n
count_few test n = omega (arith, count_by-le-length test (range_with_len 0 n), length-range_with_len 0 n)
