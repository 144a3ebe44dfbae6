-- The first of some conditions that fails.
use Rattle.std.proofs.Common.{◌≡◌, Bool, true, false, cond, List, [], ◌∷◌, ◌++◌, Option, Some, None, refl, sym, ◌∙◌}
use Rattle.std.proofs.lemmas.Bool.{cond-false, cond-true}
use Rattle.cert_checker.specs.declared.verdict.Condition.{Condition}
use Rattle.cert_checker.specs.Verdicts.{first_failing}

pub fails_here : (test : Condition → Bool) (x : Condition) (xs : List Condition) → test x ≡ false → Some x ≡ first_failing test (x ∷ xs)
fails_here test x xs h = sym (cond-false (test x) (first_failing test xs) (Some x) h)

pub fails_later : (test : Condition → Bool) (x : Condition) (xs : List Condition) (found : Option Condition) → test x ≡ true → found ≡ first_failing test xs → found ≡ first_failing test (x ∷ xs)
fails_later test x xs found h is = is ∙ sym (cond-true (test x) (first_failing test xs) (Some x) h)

passed_first : (b : Bool) (x : Condition) (rest : Option Condition) → None ≡ cond b rest (Some x) → (b ≡ true) × (None ≡ rest)
passed_first true x rest h = (refl, h)
passed_first false x rest h = absurd (cc)

-- where the first all hold, the others decide
pub fails_behind : (test : Condition → Bool) (xs ys : List Condition) → None ≡ first_failing test xs → first_failing test ys ≡ first_failing test (xs ++ ys)
fails_behind test [] ys h = refl
fails_behind test (x ∷ xs) ys h =
    let p = passed_first (test x) x (first_failing test xs) h in
    fails_later test x (xs ++ ys) (first_failing test ys) p.0 (fails_behind test xs ys p.1)

-- and each of them holds
pub passed : (test : Condition → Bool) (xs : List Condition) (x : Condition) (ys : List Condition) → None ≡ first_failing test (xs ++ x ∷ ys) → test x ≡ true
passed test [] x ys h = (passed_first (test x) x (first_failing test ys) h).0
passed test (y ∷ xs) x ys h = passed test xs x ys (passed_first (test y) y (first_failing test (xs ++ x ∷ ys)) h).1

-- what fails first of the first ones fails first of all
pub fails_front : (test : Condition → Bool) (xs ys : List Condition) (x : Condition) → Some x ≡ first_failing test xs → Some x ≡ first_failing test (xs ++ ys)
fails_front test [] ys x h = absurd (cc)
fails_front test (y ∷ xs) ys x h = first_of (test y) y x (first_failing test xs) (first_failing test (xs ++ ys)) h (fails_front test xs ys x)
  where
    first_of : (b : Bool) (y x : Condition) (few all : Option Condition) → Some x ≡ cond b few (Some y) → (Some x ≡ few → Some x ≡ all) → Some x ≡ cond b all (Some y)
    first_of true y x few all h more = more h
    first_of false y x few all h more = h
