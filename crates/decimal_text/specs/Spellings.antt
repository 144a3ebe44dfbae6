-- Laws of numbers in texts: what is written reads back, and a number has one spelling without leading zeros.
use Rattle.std.specs.Prelude.{ℕ, ◌≡◌, ◌≢◌, ◌<◌, ◌≤◌, ◌^◌, true, false, List, length, slice_index, ℤ, Ok}
use Rattle.std.specs.Int.RustNames.{unsigned_abs}
use Rattle.std.specs.Str.Parse.{starts_with_minus}
use Rattle.decimal_text.specs.Number.{decimal, signed_decimal, signed_within, unsigned_within}

abbrev pub UnsignedReadsBack : Type 0
UnsignedReadsBack =
    (most n : ℕ) → n ≤ most → most < 2 ^ 64 → unsigned_within most (decimal n) ≡ Ok n

abbrev pub SignedReadsBack : Type 0
SignedReadsBack =
    (most : ℕ) (z : ℤ) → unsigned_abs z ≤ most → most < 2 ^ 31
    → signed_within most (signed_decimal z) ≡ Ok z

-- no zero leads, but in `0` alone
abbrev pub HasNoLeadingZero : List ℕ → Type 0
HasNoLeadingZero digits = slice_index digits 0 ≡ 48 → length digits ≡ 1

-- no zero leads, but in `0` alone; none follows a sign
pub record IsPlainSigned (text : List ℕ) : Type 0 where
  pub without : starts_with_minus text ≡ false → HasNoLeadingZero text
  pub signed : starts_with_minus text ≡ true → slice_index text 1 ≢ 48

abbrev pub UnsignedHasOneSpelling : Type 0
UnsignedHasOneSpelling =
    (most n : ℕ) (text : List ℕ) → most < 2 ^ 64 → unsigned_within most text ≡ Ok n
    → HasNoLeadingZero text → decimal n ≡ text

abbrev pub SignedHasOneSpelling : Type 0
SignedHasOneSpelling =
    (most : ℕ) (z : ℤ) (text : List ℕ) → most < 2 ^ 31 → signed_within most text ≡ Ok z
    → IsPlainSigned text → signed_decimal z ≡ text
