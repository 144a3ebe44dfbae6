-- The spelling of numbers: which texts are numbers, and within which range.
use Rattle.std.specs.Prelude.{ℕ, List, Bool, ◌&&◌, ◌==◌, length, drop, slice_index, nat_le, nat_lt, ℤ, pos, neg_ℤ, if◌then◌else◌}
use Rattle.std.specs.Prelude.{Result, Ok, Err}
use Rattle.std.specs.Result.{result_map_both}
use Rattle.std.specs.List.{list_all}
use Rattle.std.specs.Char.{is_ascii_digit}
use Rattle.std.specs.Str.Parse.{digits_value, starts_with_minus}
use Rattle.decimal_text.specs.declared.number.NumberFault.{NumberFault}
use Rattle.decimal_text.specs.declared.number.NumberFault.TheVariants.{Misspelt, OutOfRange}
-- the digits of n without leading zeros, and `-` before those of a negative number
pub use Rattle.std.specs.Fmt.{decimal, signed_decimal}

-- 1 to 20 decimal digits
abbrev pub is_unsigned : List ℕ → Bool
is_unsigned text = list_all is_ascii_digit text && nat_le 1 (length text) && nat_le (length text) 20

-- more than one digit, the first a 0
abbrev pub has_leading_zero : List ℕ → Bool
has_leading_zero digits = nat_lt 1 (length digits) && (slice_index digits 0 == 48)

-- the unsigned number that the text spells, if it is at most `most`
unfoldable pub unsigned_within : ℕ → List ℕ → Result ℕ NumberFault
unsigned_within most text =
    if is_unsigned text then
    (if nat_le (digits_value 10 text) most then Ok (digits_value 10 text) else Err OutOfRange)
    else Err Misspelt

-- the signed number that the text spells, with or without one leading '-', if it is in -most..=most
unfoldable pub signed_within : ℕ → List ℕ → Result ℤ NumberFault
signed_within most text =
    if starts_with_minus text
    then result_map_both (λ n. neg_ℤ (pos n)) (λ fault. fault) (unsigned_within most (drop 1 text))
    else result_map_both pos (λ fault. fault) (unsigned_within most text)
