-- How many numbers a rising list has: as many as pass the test of being listed.
use Rattle.std.proofs.Common.{◌≡◌, ◌↔◌, inl, inr, ℕ, zero, suc, ◌+◌, ◌<◌, ◌≤◌, Bool, false, true, cond, List, [], ◌∷◌, length, Contains, refl, sym, ap, ◌∙◌, subst, arith}
use Rattle.std.proofs.lemmas.Bool.{cases_eq, false_from_ne_true}
use Rattle.std.proofs.lemmas.List.Sums.{sum_by-cons}
use Rattle.std.specs.List.{count_by, range_with_len}
use Rattle.bounded_table.specs.Known.{Rises}
use Rattle.bounded_table.proofs.KnownNodes.{in_head, in_tail, head_or_tail}

-- what is listed is at least the number from which the list rises
pub rising_from : (b : ℕ) (xs : List ℕ) (v : ℕ) → Rises b xs → Contains xs v → b ≤ v
rising_from b [] v rising c = absurd (let lt = c.1 in omega arith)
rising_from b (x ∷ xs) v rising c =
    let first = rising.0 in
    elim (head_or_tail x v xs c) [
      | inl e ↦ omega (arith, e)
      | inr d ↦ let rest = rising_from (x + 1) xs v rising.1 d in omega arith
    ]

-- where a test holds exactly of what is listed
abbrev Tells : ℕ → ℕ → List ℕ → (ℕ → Bool) → Type 0
Tells a b known test = (v : ℕ) → a ≤ v → v < b → Contains known v ↔ (test v ≡ true)

-- the first number counts where it passes
count_first : (k a : ℕ) (test : ℕ → Bool) → count_by test (range_with_len a (suc k)) ≡ cond (test a) 1 0 + count_by test (range_with_len (a + 1) k)
count_first k a test = sum_by-cons (λ (x : ℕ). cond (test x) 1 0) a (range_with_len (a + 1) k)

count_yes : (k a : ℕ) (test : ℕ → Bool) → test a ≡ true → count_by test (range_with_len a (suc k)) ≡ 1 + count_by test (range_with_len (a + 1) k)
count_yes k a test is = count_first k a test ∙ ap (λ (b : Bool). cond b 1 0 + count_by test (range_with_len (a + 1) k)) is

count_no : (k a : ℕ) (test : ℕ → Bool) → test a ≡ false → count_by test (range_with_len a (suc k)) ≡ count_by test (range_with_len (a + 1) k)
count_no k a test not =
    let rest : ℕ = count_by test (range_with_len (a + 1) k) in
    let none : 0 + rest ≡ rest = omega arith in
    count_first k a test ∙ ap (λ (b : Bool). cond b 1 0 + rest) not ∙ none

count_from : (k a : ℕ) (known : List ℕ) (test : ℕ → Bool) → Rises a known → ((v : ℕ) → Contains known v → v < a + k) → Tells a (a + k) known test → length known ≡ count_by test (range_with_len a k)
count_from zero a [] test rising inside tells = refl
count_from zero a (x ∷ xs) test rising inside tells = absurd (let low = rising.0 in let high = inside x (in_head x x xs refl) in omega arith)
count_from (suc k) a [] test rising inside tells =
    let not : test a ≡ false = false_from_ne_true (test a) (λ is. let c = (tells a (omega arith) (omega arith)).1 is in let lt = c.1 in omega arith) in
    let rest = count_from k (a + 1) [] test tt (λ v c. let lt = inside v c in omega arith) (λ v low high. tells v (omega arith) (omega arith)) in
    rest ∙ sym (count_no k a test not)
count_from (suc k) a (x ∷ xs) test rising inside tells =
    let low = rising.0 in
    elim (cases_eq x a) [
      | inl e ↦
          let is : test a ≡ true = (tells a (omega arith) (omega arith)).0 (in_head x a xs e) in
          let rest : length xs ≡ count_by test (range_with_len (a + 1) k) = count_from k (a + 1) xs test (subst (λ (b : ℕ). Rises (b + 1) xs) e rising.1)
          (λ v c. let lt = inside v (in_tail x v xs c) in omega arith)
          (λ v from to. (
            λ c. (tells v (omega arith) (omega arith)).0 (in_tail x v xs c),
            λ yes. elim (head_or_tail x v xs ((tells v (omega arith) (omega arith)).1 yes)) [ inl same ↦ absurd (omega (arith, same, e)) | inr c ↦ c ],
          )) in
          let first : count_by test (range_with_len a (suc k)) ≡ 1 + count_by test (range_with_len (a + 1) k) = count_yes k a test is in
          omega (arith, rest, first)
      | inr apart ↦
          let not : test a ≡ false = false_from_ne_true (test a) (λ is. elim (head_or_tail x a xs ((tells a (omega arith) (omega arith)).1 is)) [
            | inl same ↦ apart same
            | inr c ↦ let above = rising_from (x + 1) xs a rising.1 c in omega arith
          ]) in
          let rest = count_from k (a + 1) (x ∷ xs) test (omega arith, rising.1) (λ v c. let lt = inside v c in omega arith) (λ v from to. tells v (omega arith) (omega arith)) in
          rest ∙ sym (count_no k a test not)
    ]

-- a rising list of numbers below n is as long as there are numbers below n that pass the test of being listed
pub count_listed : (n : ℕ) (known : List ℕ) (test : ℕ → Bool) → Rises 0 known → ((v : ℕ) → Contains known v → v < n) → ((v : ℕ) → v < n → Contains known v ↔ (test v ≡ true)) → length known ≡ count_by test (range_with_len 0 n)
count_listed n known test rising inside tells = count_from n 0 known test rising (λ v c. let lt = inside v c in omega arith) (λ v low high. tells v (omega arith))
