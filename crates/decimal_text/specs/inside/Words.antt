-- Words of eight bytes, the first byte the lowest.
use Rattle.std.specs.Prelude.{◌≡◌, ℕ, nat_le, if◌then◌else◌, List, length, bit_xor}
use Rattle.std.specs.Int.Digits.{AllBelowBase}

-- eight bytes, or with base 10 the values of eight digits
abbrev pub IsEight : ℕ → List ℕ → Type 0
IsEight base xs = (length xs ≡ 8) × AllBelowBase base xs

-- the value of a byte that is a digit, and at least 10 of any other
abbrev pub less_zero : ℕ → ℕ
less_zero x = bit_xor x 48

-- the high bit, where the byte is at least 10
abbrev pub flag_from_ten : ℕ → ℕ
flag_from_ten x = if nat_le 10 x then 128 else 0
