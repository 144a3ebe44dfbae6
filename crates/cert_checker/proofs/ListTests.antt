-- What tests of lists and numbers tell.
use Rattle.std.proofs.Common.{◌≡◌, ◌<◌, ◌≤◌, ℕ, zero, suc, ◌+◌, Bool, true, false, leb, List, [], ◌∷◌, length, get_or, map, Option, Some, None, refl, sym, ◌∙◌, ap, subst, arith, ⊎_elim}
use Rattle.std.specs.Prelude.{◌==◌, ◌||◌, not}
use Rattle.std.specs.Bool.{Decides}
use Rattle.std.specs.Option.{is_some, option_eq}
use Rattle.std.specs.List.{list_all, list_any, range_with_len}
use Rattle.std.proofs.lemmas.Bool.{and_from, and_parts, cases_lt, eq-eqb, eqb-true, false≢true, le-leb, leb-true, or_cases, or_left, or_right}
use Rattle.std.proofs.lemmas.List.FromFn.{get_or-map-range_with_len, get_or-range_with_len, length-map-range_with_len, length-range_with_len}

pub itself : (b : Bool) → Decides b (b ≡ true)
itself b = (λ e. e, λ e. e)

pub implied : {P Q : Type 0} (a b : Bool) → Decides a P → Decides b Q → Decides (not a || b) (P → Q)
implied true b h k = (λ e p. k.0 e, λ f. k.1 (f (h.0 refl)))
implied false b h k = (λ e p. absurd (false≢true (h.1 p)), λ f. refl)

pub at_most : (a b : ℕ) → Decides (leb a b) (a ≤ b)
at_most a b = (leb-true a b, le-leb a b)

-- a test of each number
each_number : (P : ℕ → Type 0) (test : ℕ → Bool) (from n : ℕ) → ((k : ℕ) → Decides (test k) (P k))
    → Decides (list_all test (range_with_len from n)) ((k : ℕ) → from ≤ k → k < from + n → P k)
each_number P test from zero each = (λ e k ge lt. absurd (omega (arith, ge, lt)), λ f. refl)
each_number P test from (suc n) each =
    let rest = each_number P test (from + 1) n each in (
      λ e k ge lt.
          let parts = and_parts (test from) (list_all test (range_with_len (from + 1) n)) e in
          ⊎_elim (λ low. let same : from ≡ k = omega (arith, ge, low) in subst P same ((each from).0 parts.0))
          (λ high. rest.0 parts.1 k high (omega (arith, lt)))
          (cases_lt k (from + 1)),
      λ f. and_from (test from) (list_all test (range_with_len (from + 1) n)) ((each from).1 (f from (omega arith) (omega arith)))
          (rest.1 (λ k ge lt. f k (omega (arith, ge)) (omega (arith, lt)))),
    )

-- a test of each number below n
pub each_below_n : (P : ℕ → Type 0) (test : ℕ → Bool) (n : ℕ) → ((k : ℕ) → Decides (test k) (P k))
    → Decides (list_all test (range_with_len 0 n)) ((k : ℕ) → k < n → P k)
each_below_n P test n each =
    let d = each_number P test 0 n each in
    (λ e k lt. d.0 e k (omega arith) (omega (arith, lt)), λ f. d.1 (λ k ge lt. f k (omega (arith, lt))))

some_at : {X : Type 0} (P : X → Type 0) (test : X → Bool) (d x : X) (xs : List X) (k : ℕ) → Decides (test x) (P x)
    → Decides (list_any test xs) ((i : ℕ) × (i < length xs) × P (get_or xs i d))
    → k < length (x ∷ xs) → P (get_or (x ∷ xs) k d) → list_any test (x ∷ xs) ≡ true
some_at P test d x xs zero here rest lt h = or_left (test x) (list_any test xs) (here.1 h)
some_at P test d x xs (suc k) here rest lt h = or_right (test x) (list_any test xs) (rest.1 (k, omega (arith, lt), h))

-- some element of a list passes a test
pub some_element : {X : Type 0} (P : X → Type 0) (test : X → Bool) (d : X) (xs : List X) → ((x : X) → Decides (test x) (P x))
    → Decides (list_any test xs) ((k : ℕ) × (k < length xs) × P (get_or xs k d))
some_element P test d [] each = (λ e. absurd (false≢true e), λ f. let lt = f.1 in absurd (omega (arith, lt)))
some_element P test d (x ∷ xs) each =
    let rest = some_element P test d xs each in (
      λ e. ⊎_elim (λ here. (0, omega arith, (each x).0 here)) (λ later. let r = rest.0 later in let lt = r.1 in (suc r.0, omega (arith, lt), r.2))
          (or_cases (test x) (list_any test xs) e),
      λ f. some_at P test d x xs f.0 (each x) rest f.1 f.2,
    )

-- some number below n passes a test
pub some_below_n : (P : ℕ → Type 0) (test : ℕ → Bool) (n : ℕ) → ((k : ℕ) → Decides (test k) (P k))
    → Decides (list_any test (range_with_len 0 n)) ((k : ℕ) × (k < n) × P k)
some_below_n P test n each =
    let d = some_element P test 0 (range_with_len 0 n) each in
    let len = length-range_with_len 0 n in
    let at = λ (k : ℕ) (lt : k < n). let z : 0 + k ≡ k = omega arith in get_or-range_with_len 0 n k 0 lt ∙ z in (
      λ e. let r = d.0 e in let below = r.1 in let lt : r.0 < n = omega (arith, below, len) in (r.0, lt, subst P (at r.0 lt) r.2),
      λ f. let below = f.1 in d.1 (f.0, omega (arith, below, len), subst P (sym (at f.0 f.1)) f.2),
    )

-- there is the number
abbrev pub IsThere : Option ℕ → Type 0
IsThere o = (s : ℕ) × (o ≡ Some s)

pub there : (o : Option ℕ) → Decides (is_some o) (IsThere o)
there None = (λ e. absurd (false≢true e), λ f. absurd (let e = f.1 in cc))
there (Some s) = (λ e. (s, refl), λ f. refl)

-- some of the first n ways is there
pub some_way : (ways : ℕ → Option ℕ) (n : ℕ) → Decides (list_any is_some (map ways (range_with_len 0 n))) ((a : ℕ) × (a < n) × IsThere (ways a))
some_way ways n =
    let d = some_element IsThere is_some None (map ways (range_with_len 0 n)) there in
    let len = length-map-range_with_len ways 0 n in
    let at = λ (k : ℕ) (lt : k < n). get_or-map-range_with_len ways 0 n k k None lt (omega arith) in (
      λ e. let r = d.0 e in let below = r.1 in let lt : r.0 < n = omega (arith, below, len) in (r.0, lt, subst IsThere (at r.0 lt) r.2),
      λ f. let below = f.1 in d.1 (f.0, omega (arith, below, len), subst IsThere (sym (at f.0 f.1)) f.2),
    )

-- options of numbers are the same
pub same_options : (x y : Option ℕ) → Decides (option_eq (λ (a b : ℕ). a == b) x y) (x ≡ y)
same_options None None = (λ e. refl, λ e. refl)
same_options None (Some b) = (λ e. absurd (false≢true e), λ e. absurd (cc))
same_options (Some a) None = (λ e. absurd (false≢true e), λ e. absurd (cc))
same_options (Some a) (Some b) =
    (λ e. ap (λ v. let o : Option ℕ = Some v in o) (eqb-true a b e), λ e. let same : a ≡ b = cc in eq-eqb a b same)

all_told : {X : Type 0} (P : X → Type 0) (test : X → Bool) (d : X) (xs : List X) → ((x : X) → Decides (test x) (P x))
    → list_all test xs ≡ true → (k : ℕ) → k < length xs → P (get_or xs k d)
all_told P test d [] each e k lt = absurd (omega (arith, lt))
all_told P test d (x ∷ xs) each e zero lt = (each x).0 (and_parts (test x) (list_all test xs) e).0
all_told P test d (x ∷ xs) each e (suc k) lt = all_told P test d xs each (and_parts (test x) (list_all test xs) e).1 k (omega (arith, lt))

told_all : {X : Type 0} (P : X → Type 0) (test : X → Bool) (d : X) (xs : List X) → ((x : X) → Decides (test x) (P x))
    → ((k : ℕ) → k < length xs → P (get_or xs k d)) → list_all test xs ≡ true
told_all P test d [] each f = refl
told_all P test d (x ∷ xs) each f =
    and_from (test x) (list_all test xs) ((each x).1 (f 0 (omega arith))) (told_all P test d xs each (λ k lt. f (suc k) (omega (arith, lt))))

-- each element of a list passes a test
pub each_element : {X : Type 0} (P : X → Type 0) (test : X → Bool) (d : X) (xs : List X) → ((x : X) → Decides (test x) (P x))
    → Decides (list_all test xs) ((k : ℕ) → k < length xs → P (get_or xs k d))
each_element P test d xs each =
    (λ e k lt. all_told P test d xs each e k lt, λ f. told_all P test d xs each f)
