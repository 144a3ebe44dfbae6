-- Words up to the end of a line, read one after the other.
use Rattle.std.proofs.Common.{◌≡◌, ℕ, zero, suc, ◌+◌, ◌<◌, ◌⊎◌, inl, inr, List, [], ◌∷◌, ◌++◌, length, map, Option, Some, None, refl, sym, ap, subst, ◌∙◌, append_assoc, arith, length-append}
use Rattle.std.specs.List.{AllByRecursion}
use Rattle.std.specs.Option.{option_map}
use Rattle.std.proofs.lemmas.List.{append-nil}
use Rattle.std.proofs.lemmas.Option.{none-some, some_pair_parts}
use Rattle.match_text.specs.MatchText.{words_after}
use Rattle.match_text.specs.Reading.{after_bytes}
use Rattle.match_text.proofs.Fields.{after_takes}
use Rattle.potential_certificate.specs.Reading.{all_words_at, words_at, words_behind}

-- a space or the end of a line comes
abbrev pub EndsWord : List ℕ → Type 0
EndsWord [] = ⊥
EndsWord (b ∷ bs) = (b ≡ 32) ⊎ (b ≡ 10)

-- what reads one word, with the space before it
pub record ReadsWord {A : Type 0} (word : List ℕ → Option (A × List ℕ)) (spelling : A → List ℕ) (IsIn : A → Type 0) : Type 0 where
  pub again : (a : A) (rest : List ℕ) → IsIn a → EndsWord rest → word (32 ∷ (spelling a ++ rest)) ≡ Some (a, rest)
  pub takes : (text : List ℕ) (a : A) (rest : List ℕ) → word text ≡ Some (a, rest) → IsIn a × (text ≡ 32 ∷ (spelling a ++ rest))
  pub stops : (rest : List ℕ) → word (10 ∷ rest) ≡ None

abbrev pub words_line : {A : Type 0} → (A → List ℕ) → List A → List ℕ
words_line spelling xs = words_after (map spelling xs)

ends_word : {A : Type 0} (spelling : A → List ℕ) (xs : List A) (rest : List ℕ) → EndsWord (words_line spelling xs ++ rest)
ends_word spelling [] rest = inr refl
ends_word spelling (x ∷ xs) rest = inl refl

first_word : {A : Type 0} (spelling : A → List ℕ) (x : A) (xs : List A) (rest : List ℕ) → words_line spelling (x ∷ xs) ++ rest ≡ 32 ∷ (spelling x ++ (words_line spelling xs ++ rest))
first_word spelling x xs rest = ap (λ (t : List ℕ). 32 ∷ t) (append_assoc (spelling x) (words_line spelling xs) rest)

pub words_again : {A : Type 0} (word : List ℕ → Option (A × List ℕ)) (spelling : A → List ℕ) (IsIn : A → Type 0) → ReadsWord word spelling IsIn → (xs : List A) (rest : List ℕ) (fuel : ℕ)
    → AllByRecursion IsIn xs → length (words_line spelling xs ++ rest) < fuel → words_at word fuel (words_line spelling xs ++ rest) ≡ Some (xs, rest)
words_again word spelling IsIn reads xs rest zero fits enough = absurd (omega (arith, enough))
words_again word spelling IsIn reads [] rest (suc fuel) fits enough = ap (words_behind (words_at word fuel) (10 ∷ rest)) (reads.stops rest)
words_again {A = A} word spelling IsIn reads (x ∷ xs) rest (suc fuel) fits enough =
    let text_is = first_word spelling x xs rest in
    let first = ap word text_is ∙ reads.again x (words_line spelling xs ++ rest) fits.0 (ends_word spelling xs rest) in
    let more = words_again word spelling IsIn reads xs rest fuel fits.1 (omega (arith, enough, ap length text_is, length-append (spelling x) (words_line spelling xs ++ rest))) in
    ap (words_behind (words_at word fuel) (words_line spelling (x ∷ xs) ++ rest)) first ∙ ap (option_map (λ (m : List A × List ℕ). (x ∷ m.0, m.1))) more

-- what was read of the words of a line
pub record WordsTaken {A : Type 0} (spelling : A → List ℕ) (IsIn : A → Type 0) (text : List ℕ) (xs : List A) (rest : List ℕ) : Type 0 where
  pub text_is : text ≡ words_line spelling xs ++ rest
  pub fit : AllByRecursion IsIn xs

pub words_take : {A : Type 0} (word : List ℕ → Option (A × List ℕ)) (spelling : A → List ℕ) (IsIn : A → Type 0) → ReadsWord word spelling IsIn → (fuel : ℕ) (text : List ℕ) (xs : List A) (rest : List ℕ)
    → words_at word fuel text ≡ Some (xs, rest) → WordsTaken spelling IsIn text xs rest
words_take word spelling IsIn reads zero text xs rest e = absurd (none-some (xs, rest) e)
words_take {A = A} word spelling IsIn reads (suc fuel) text xs rest e = by_word (λ next es r h. words_take word spelling IsIn reads fuel next es r h) (word text) refl e
  where
    by_end : (end : Option (List ℕ)) → after_bytes (10 ∷ []) text ≡ end → option_map (λ behind. let y : List A × List ℕ = ([], behind) in y) end ≡ Some (xs, rest) → WordsTaken spelling IsIn text xs rest
    by_end None is e = absurd (none-some (xs, rest) e)
    by_end (Some behind) is e =
        let parts = some_pair_parts [] xs behind rest e in
        subst (λ (y : List A × List ℕ). WordsTaken spelling IsIn text y.0 y.1) (λ i. (parts.0 i, parts.1 i))
        (record { text_is = after_takes (10 ∷ []) text behind is; fit = tt })

    by_more : ((next : List ℕ) (es : List A) (r : List ℕ) → words_at word fuel next ≡ Some (es, r) → WordsTaken spelling IsIn next es r) → (x : A) (next : List ℕ) → word text ≡ Some (x, next) → (more : Option (List A × List ℕ)) → words_at word fuel next ≡ more
        → option_map (λ m. let y : List A × List ℕ = (x ∷ m.0, m.1) in y) more ≡ Some (xs, rest) → WordsTaken spelling IsIn text xs rest
    by_more takes x next is None more_is e = absurd (none-some (xs, rest) e)
    by_more takes x next is (Some m) more_is e =
        let parts = some_pair_parts (x ∷ m.0) xs m.1 rest e in
        let first = reads.takes text x next is in
        let others = takes next m.0 m.1 more_is in
        subst (λ (y : List A × List ℕ). WordsTaken spelling IsIn text y.0 y.1) (λ i. (parts.0 i, parts.1 i))
        (record { text_is = first.1 ∙ ap (λ (t : List ℕ). 32 ∷ (spelling x ++ t)) others.text_is ∙ sym (first_word spelling x m.0 m.1); fit = (first.0, others.fit) })

    by_word : ((next : List ℕ) (es : List A) (r : List ℕ) → words_at word fuel next ≡ Some (es, r) → WordsTaken spelling IsIn next es r) → (read : Option (A × List ℕ)) → word text ≡ read → words_behind (words_at word fuel) text read ≡ Some (xs, rest) → WordsTaken spelling IsIn text xs rest
    by_word takes None is e = by_end (after_bytes (10 ∷ []) text) refl e
    by_word takes (Some x) is e = by_more takes x.0 x.1 is (words_at word fuel x.1) refl e

-- ---- the loop over the words

abbrev pub prepended : {A : Type 0} → List A → Option (List A × List ℕ) → Option (List A × List ℕ)
prepended front read = option_map (λ more. (front ++ more.0, more.1)) read

-- the words so far and those of what is left are those of all
pub record GoesOn {A : Type 0} (word : List ℕ → Option (A × List ℕ)) (text : List ℕ) (front : List A) (left : List ℕ) : Type 0 where
  pub fuel : ℕ
  pub enough : length left < fuel
  pub are : prepended front (words_at word fuel left) ≡ all_words_at word text

prepended_none : {A : Type 0} (read : Option (List A × List ℕ)) → prepended [] read ≡ read
prepended_none None = refl
prepended_none (Some m) = refl

prepended_more : {A : Type 0} (front : List A) (x : A) (read : Option (List A × List ℕ)) → prepended (front ++ x ∷ []) read ≡ prepended front (option_map (λ more. (x ∷ more.0, more.1)) read)
prepended_more front x None = refl
prepended_more {A = A} front x (Some m) = ap (λ (t : List A). let y : Option (List A × List ℕ) = Some (t, m.1) in y) (append_assoc front (x ∷ []) m.0)

pub begins : {A : Type 0} (word : List ℕ → Option (A × List ℕ)) (text : List ℕ) → GoesOn word text [] text
begins word text = record { fuel = length text + 1; enough = omega arith; are = prepended_none (all_words_at word text) }

pub goes_on : {A : Type 0} (word : List ℕ → Option (A × List ℕ)) (text : List ℕ) (front : List A) (left : List ℕ) (x : A) (next : List ℕ) → word left ≡ Some (x, next) → length next < length left → GoesOn word text front left → GoesOn word text (front ++ x ∷ []) next
goes_on word text front left x next first down so_far = by_fuel so_far.fuel so_far.enough so_far.are
  where
    by_fuel : (fuel : ℕ) → length left < fuel → prepended front (words_at word fuel left) ≡ all_words_at word text → GoesOn word text (front ++ x ∷ []) next
    by_fuel zero enough are = absurd (omega (arith, enough))
    by_fuel (suc fuel) enough are = record {
      fuel = fuel;
      enough = omega (arith, enough, down);
      are = prepended_more front x (words_at word fuel next) ∙ ap (prepended front) (sym (ap (words_behind (words_at word fuel) left) first)) ∙ are;
    }

pub ends : {A : Type 0} (word : List ℕ → Option (A × List ℕ)) (text : List ℕ) (front : List A) (left : List ℕ) → word left ≡ None → GoesOn word text front left
    → option_map (λ rest. let y : List A × List ℕ = (front, rest) in y) (after_bytes (10 ∷ []) left) ≡ all_words_at word text
ends {A = A} word text front left no_more so_far = by_fuel so_far.fuel so_far.enough so_far.are
  where
    by_end : (end : Option (List ℕ)) → option_map (λ rest. let y : List A × List ℕ = (front, rest) in y) end ≡ prepended front (option_map (λ rest. ([], rest)) end)
    by_end None = refl
    by_end (Some rest) = ap (λ (t : List A). let y : Option (List A × List ℕ) = Some (t, rest) in y) (sym (append-nil front))

    by_fuel : (fuel : ℕ) → length left < fuel → prepended front (words_at word fuel left) ≡ all_words_at word text
        → option_map (λ rest. let y : List A × List ℕ = (front, rest) in y) (after_bytes (10 ∷ []) left) ≡ all_words_at word text
    by_fuel zero enough are = absurd (omega (arith, enough))
    by_fuel (suc fuel) enough are = by_end (after_bytes (10 ∷ []) left) ∙ ap (prepended front) (sym (ap (words_behind (words_at word fuel) left) no_more)) ∙ are
