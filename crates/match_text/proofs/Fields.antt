-- What is read at the front of a text is what was written there.
use Rattle.std.proofs.Common.{◌≡◌, ℕ, zero, suc, ◌-◌, ◌^◌, ◌<◌, ◌≤◌, get_or, eq-eqb, Bool, true, false, cond, eqb, ◌&&◌, nat_eq, nat_lt, List, [], ◌∷◌, ◌++◌, length, take, drop, Option, Some, None, Result, Ok, Err, refl, sym, ap, ◌∙◌, arith}
use Rattle.std.specs.List.{starts_with, prefix_len, list_all}
use Rattle.std.specs.Option.{option_map}
use Rattle.std.specs.Result.{result_ok}
use Rattle.std.specs.Cmp.Lexicographic.{pointwise}
use Rattle.std.proofs.lemmas.List.{take_rest, take_at, drop_at, take-append-drop}
use Rattle.std.proofs.lemmas.Bool.{eqb-true, ne_eqb, and_right, lt-ltb}
use Rattle.std.proofs.lemmas.Option.{some_pair_parts}
use Rattle.std.proofs.lemmas.Fmt.{decimal_digit}
use Rattle.std.specs.Char.{is_ascii_digit}
use Rattle.decimal_text.specs.Number.{decimal, has_leading_zero, unsigned_within}
use Rattle.decimal_text.specs.declared.number.NumberFault.{NumberFault}
use Rattle.decimal_text.proofs.Laws.{Spells-unsigned_within, decimal-unsigned_within, unsigned_within-decimal, all_digits-decimal, no_leading_zero-decimal}
use Rattle.match_text.specs.Reading.{◌>>=◌, after_bytes, number_of, number_at, number_after}

starts_after : (bytes text : List ℕ) → true ≡ pointwise nat_eq bytes (take (length bytes) text) → after_bytes bytes text ≡ Some (drop (length bytes) text)
starts_after [] text h = refl
starts_after (c ∷ cs) [] h = absurd cc
starts_after (c ∷ cs) (b ∷ bs) h =
    let P : Bool → Type 0 = λ v. true ≡ v && pointwise nat_eq cs (take (length cs) bs) → cond v (after_bytes cs bs) None ≡ Some (drop (length cs) bs) in
    let both : P (eqb c b) = elim (eqb c b) as P [ true ↦ λ h. starts_after cs bs h | false ↦ λ h. absurd cc ] in
    both h

pub after_yes : (bytes text : List ℕ) → true ≡ starts_with nat_eq text bytes → Some (take (length text - length bytes) (drop (length bytes) text)) ≡ after_bytes bytes text
after_yes bytes text h = ap (λ (t : List ℕ). Some t) (take_rest text (length bytes)) ∙ sym (starts_after bytes text h)

pub after_no : (bytes text : List ℕ) → false ≡ starts_with nat_eq text bytes → None ≡ after_bytes bytes text
after_no [] text h = absurd cc
after_no (c ∷ cs) [] h = refl
after_no (c ∷ cs) (b ∷ bs) h =
    let P : Bool → Type 0 = λ v. false ≡ v && pointwise nat_eq cs (take (length cs) bs) → None ≡ cond v (after_bytes cs bs) None in
    let both : P (eqb c b) = elim (eqb c b) as P [ true ↦ λ h. after_no cs bs h | false ↦ λ h. refl ] in
    both h

-- ---- steps

-- a step that found something
pub bind_some : {A B : Type 0} (r : Option A) (f : A → Option B) (x : A) → r ≡ Some x → (r >>= f) ≡ f x
bind_some {A = A} r f x e = ap (λ (o : Option A). o >>= f) e

-- what a step that found something had found before
pub bind_found : {A B : Type 0} (r : Option A) (f : A → Option B) (y : B) → (r >>= f) ≡ Some y → (x : A) × (r ≡ Some x) × (f x ≡ Some y)
bind_found (Some x) f y e = (x, refl, e)
bind_found None f y e = absurd cc

-- a test that passed
pub test_passed : {A : Type 0} (b : Bool) (r : Option A) (y : A) → cond b r None ≡ Some y → (b ≡ true) × (r ≡ Some y)
test_passed true r y e = (refl, e)
test_passed false r y e = absurd cc

-- ---- bytes

pub after_takes : (bytes text rest : List ℕ) → after_bytes bytes text ≡ Some rest → text ≡ bytes ++ rest
after_takes [] text rest e = cc
after_takes (c ∷ cs) [] rest e = absurd cc
after_takes (c ∷ cs) (b ∷ bs) rest e =
    let t = test_passed (eqb c b) (after_bytes cs bs) rest e in
    let same : c ≡ b = eqb-true c b t.0 in
    let more : bs ≡ cs ++ rest = after_takes cs bs rest t.1 in
    cc

pub after_again : (bytes rest : List ℕ) → after_bytes bytes (bytes ++ rest) ≡ Some rest
after_again [] rest = refl
after_again (c ∷ cs) rest = rw (eq-eqb c c refl) (after_again cs rest)

-- ---- numbers

-- the text does not begin with a digit
abbrev pub EndsDigits : List ℕ → Type 0
EndsDigits rest = is_ascii_digit (get_or rest 0 0) ≡ false

number_found : (b : Bool) (r : Result ℕ NumberFault) (n : ℕ) (after rest : List ℕ) → cond {A = Option (ℕ × List ℕ)} b None (option_map (λ m. (m, after)) (result_ok r)) ≡ Some (n, rest) → (b ≡ false) × (r ≡ Ok n) × (after ≡ rest)
number_found true r n after rest e = absurd cc
number_found false (Ok m) n after rest e = let parts = some_pair_parts m n after rest e in (refl, ap (λ (k : ℕ). Ok k) parts.0, parts.1)
number_found false (Err fault) n after rest e = absurd cc

one_zero : (digits : List ℕ) → has_leading_zero digits ≡ false → get_or digits 0 0 ≡ 48 → length digits ≡ 1
one_zero [] h first = absurd (omega (arith, first))
one_zero (d ∷ []) h first = refl
one_zero (d ∷ e ∷ ds) h first =
    let long : nat_lt 1 (length (d ∷ e ∷ ds)) ≡ true = lt-ltb 1 (length (d ∷ e ∷ ds)) (omega arith) in
    let first_is : eqb d 48 ≡ true = eq-eqb d 48 first in
    absurd (cc (rw (long, first_is) at h))

pub number_takes : (most n : ℕ) (text rest : List ℕ) → most < 2 ^ 64 → number_at most text ≡ Some (n, rest) → (text ≡ decimal n ++ rest) × (n ≤ most)
unfolding number_at
number_takes most n text rest fits e =
    let len = prefix_len is_ascii_digit text in
    let found = number_found (has_leading_zero (take len text)) (unsigned_within most (take len text)) n (drop len text) rest e in
    let digits : decimal n ≡ take len text = decimal-unsigned_within most n (take len text) fits found.1 (one_zero (take len text) found.0) in
    (rw (digits, ← found.2) (sym (take-append-drop len text)), (Spells-unsigned_within most n (take len text) found.1).small)

and_both : (a b : Bool) → a && b ≡ true → (a ≡ true) × (b ≡ true)
and_both true b h = (refl, h)
and_both false b h = absurd cc

prefix_len-digits : (digits rest : List ℕ) → list_all is_ascii_digit digits ≡ true → EndsDigits rest → prefix_len is_ascii_digit (digits ++ rest) ≡ length digits
prefix_len-digits [] [] h ends = refl
prefix_len-digits [] (b ∷ bs) h ends = rw ends refl
prefix_len-digits (d ∷ ds) rest h ends =
    let both = and_both (is_ascii_digit d) (list_all is_ascii_digit ds) h in
    rw both.0 (omega (arith, prefix_len-digits ds rest both.1 ends))

no_leading_zero : (n : ℕ) → n < 2 ^ 64 → has_leading_zero (decimal n) ≡ false
no_leading_zero zero fits = rw (decimal_digit 0 (omega arith)) refl
no_leading_zero (suc n) fits =
    let first : 48 < get_or (decimal (suc n)) 0 0 = no_leading_zero-decimal (suc n) fits (omega arith) in
    and_right (nat_lt 1 (length (decimal (suc n)))) (eqb (get_or (decimal (suc n)) 0 0) 48) (ne_eqb (get_or (decimal (suc n)) 0 0) 48 (omega arith))

pub number_again : (most n : ℕ) (rest : List ℕ) → n ≤ most → most < 2 ^ 64 → EndsDigits rest → number_at most (decimal n ++ rest) ≡ Some (n, rest)
unfolding number_at
number_again most n rest small fits ends =
    let len : prefix_len is_ascii_digit (decimal n ++ rest) ≡ length (decimal n) = prefix_len-digits (decimal n) rest (all_digits-decimal n (omega arith)) ends in
    let front : take (prefix_len is_ascii_digit (decimal n ++ rest)) (decimal n ++ rest) ≡ decimal n = rw len (take_at (decimal n) rest (length (decimal n)) refl) in
    let back : drop (prefix_len is_ascii_digit (decimal n ++ rest)) (decimal n ++ rest) ≡ rest = rw len (drop_at (decimal n) rest (length (decimal n)) refl) in
    let split : number_at most (decimal n ++ rest) ≡ number_of most (decimal n) rest = ap (λ (p : List ℕ × List ℕ). number_of most p.0 p.1) (λ i. (front i, back i)) in
    split ∙ rw (no_leading_zero n (omega arith), unsigned_within-decimal most n small fits) refl

pub number_after_takes : (bytes : List ℕ) (most n : ℕ) (text rest : List ℕ) → most < 2 ^ 64 → number_after bytes most text ≡ Some (n, rest) → (text ≡ bytes ++ (decimal n ++ rest)) × (n ≤ most)
unfolding number_after
number_after_takes bytes most n text rest fits e =
    let a = bind_found (after_bytes bytes text) (number_at most) (n, rest) e in
    let number = number_takes most n a.0 rest fits a.2 in
    (after_takes bytes text a.0 a.1 ∙ ap (λ (t : List ℕ). bytes ++ t) number.0, number.1)

pub number_after_again : (bytes : List ℕ) (most n : ℕ) (rest : List ℕ) → n ≤ most → most < 2 ^ 64 → EndsDigits rest → number_after bytes most (bytes ++ (decimal n ++ rest)) ≡ Some (n, rest)
unfolding number_after
number_after_again bytes most n rest small fits ends =
    bind_some (after_bytes bytes (bytes ++ (decimal n ++ rest))) (number_at most) (decimal n ++ rest) (after_again bytes (decimal n ++ rest)) ∙ number_again most n rest small fits ends
