-- What the few digits at the front of a text spell.
use Rattle.std.proofs.Common.{◌≡◌, ℕ, ◌<◌, ◌≤◌, true, false, List, length, take, drop, Some, None, Ok, refl, ap, ◌∙◌, arith}
use Rattle.std.specs.List.{list_all, prefix_len}
use Rattle.std.specs.Char.{is_ascii_digit}
use Rattle.std.specs.Str.Parse.{digits_value}
use Rattle.std.proofs.lemmas.Grind.{common_steps}
use Rattle.decimal_text.specs.Number.{has_leading_zero, unsigned_within}
use Rattle.match_text.specs.Reading.{most32, number_at, number_of}

at_count : (text : List ℕ) (count : ℕ) → prefix_len is_ascii_digit text ≡ count → number_at most32 text ≡ number_of most32 (take count text) (drop count text)
unfolding number_at
at_count text count is = ap (λ n. number_of most32 (take n text) (drop n text)) is

pub no_digits : (text : List ℕ) → prefix_len is_ascii_digit text ≡ 0 → number_at most32 text ≡ None
unfolding unsigned_within
no_digits text is = at_count text 0 is ∙ refl

pub leading_zero : (text : List ℕ) (count : ℕ) → prefix_len is_ascii_digit text ≡ count → has_leading_zero (take count text) ≡ true → number_at most32 text ≡ None
leading_zero text count is leading = at_count text count is ∙ rw leading refl

within : (n : ℕ) (digits : List ℕ) → list_all is_ascii_digit digits ≡ true → 1 ≤ length digits → length digits ≤ 20 → n ≡ digits_value 10 digits → n ≤ most32 → unsigned_within most32 digits ≡ Ok n
unfolding unsigned_within
within n digits all some short value small = grind (arith, common_steps)

pub spelt : (text : List ℕ) (count n : ℕ) → prefix_len is_ascii_digit text ≡ count → has_leading_zero (take count text) ≡ false → list_all is_ascii_digit (take count text) ≡ true
    → 1 ≤ length (take count text) → length (take count text) ≤ 20 → n ≡ digits_value 10 (take count text) → n < 1000000000 → number_at most32 text ≡ Some (n, drop count text)
spelt text count n is leading all some short value small =
    at_count text count is ∙ rw (leading, within n (take count text) all some short value (omega (arith, small))) refl
