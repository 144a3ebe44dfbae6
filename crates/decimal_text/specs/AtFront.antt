-- A number at the front of a text.
use Rattle.std.specs.Prelude.{◌≡◌, ℕ, ◌<◌, ◌≤◌, true, List, length, drop, if◌then◌else◌}
use Rattle.std.specs.List.{list_all}
use Rattle.std.specs.Char.{is_ascii_digit}
use Rattle.std.specs.Str.Parse.{digits_value, starts_with_minus}

-- the text without a leading '-'
abbrev pub behind_minus : List ℕ → List ℕ
behind_minus text = if starts_with_minus text then drop 1 text else text

-- 1 to 9 digits, and the number that they write
pub record IsPlain (field : List ℕ) (n : ℕ) : Type 0 where
  pub digits : list_all is_ascii_digit field ≡ true
  pub some : 1 ≤ length field
  pub short : length field ≤ 9
  pub value : n ≡ digits_value 10 field
  pub small : n < 1_000_000_000
