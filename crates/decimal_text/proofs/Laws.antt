-- What readers of texts need of the digits that are written.
use Rattle.std.proofs.Common.{zero, [], ◌∙◌, inl, inr, neg_ℤ, ◌==◌, Result, Err, ap, ◌≡◌, ℕ, ◌^◌, ◌<◌, ◌≤◌, true, List, length, get_or, ℤ, pos, negsuc, nat_abs, suc, ◌∷◌, false, Ok, refl, sym, arith, rules}
use Rattle.std.specs.List.{list_all}
use Rattle.std.specs.Result.{result_map_both}
use Rattle.std.proofs.lemmas.Bool.{cases_Bool}
use Rattle.decimal_text.specs.declared.number.NumberFault.{NumberFault}
use Rattle.decimal_text.specs.Spellings.{IsPlainSigned, SignedHasOneSpelling, SignedReadsBack, UnsignedHasOneSpelling, UnsignedReadsBack}
use Rattle.std.specs.Char.{is_ascii_digit}
use Rattle.std.specs.Int.{IsInRange}
use Rattle.std.specs.Str.Parse.{digits_value, starts_with_minus}
use Rattle.std.proofs.lemmas.Str.Parse.{IsNumeralModel, IsDigitsTest, numerals_by_value, digit_at}
use Rattle.std.proofs.lemmas.Fmt.{digits_decimal, digits_value-decimal, length-decimal-le, decimal_nonempty, decimal_injective, decimal_is_IsNumeral, decimal-digits_value, decimal_digit, first_decimal}
use Rattle.std.proofs.lemmas.Bool.{ne_eqb}
use Rattle.std.proofs.lemmas.Grind.{common_steps}
use Rattle.decimal_text.specs.Number.{decimal, signed_decimal, is_unsigned, unsigned_within, signed_within}
use Rattle.decimal_text.proofs.Spelling.{unsigned_ok, signed_minus_ok, signed_plain_ok}

digits_test : IsDigitsTest (λ ds. list_all is_ascii_digit ds ≡ true)
digits_test = search rules

digits_model : IsNumeralModel (λ ds. list_all is_ascii_digit ds ≡ true) (digits_value 10)
digits_model = numerals_by_value _ digits_test

-- `decimal n` has 1 to 20 bytes, and each is a digit
pub length-decimal : (n : ℕ) → n < 2 ^ 64 → (1 ≤ length (decimal n)) × (length (decimal n) ≤ 20)
length-decimal n h = (decimal_nonempty n h, length-decimal-le 20 n (omega arith) (omega arith) h)

pub all_digits-decimal : (n : ℕ) → n < 2 ^ 64 → list_all is_ascii_digit (decimal n) ≡ true
all_digits-decimal n h = digits_decimal digits_model n h

pub digit_in-decimal : (n i : ℕ) → n < 2 ^ 64 → i < length (decimal n) → IsInRange 48 57 (get_or (decimal n) i 0)
digit_in-decimal n i h below = digit_at (decimal n) i (decimal_is_IsNumeral n h).0.1 below

-- it has no leading zero but for 0 itself
pub no_leading_zero-decimal : (n : ℕ) → n < 2 ^ 64 → 0 < n → 48 < get_or (decimal n) 0 0
no_leading_zero-decimal n h some = first_decimal n some h

-- numbers of one spelling are equal
pub decimal_is_injective : (m n : ℕ) → m < 2 ^ 64 → n < 2 ^ 64 → decimal m ≡ decimal n → m ≡ n
decimal_is_injective m n h k e = decimal_injective m n h k e

is_unsigned-decimal : (n : ℕ) → n < 2 ^ 64 → is_unsigned (decimal n) ≡ true
is_unsigned-decimal n h =
    let all = all_digits-decimal n h in
    let short = length-decimal n h in
    grind arith

-- the digits of n read back as n
pub unsigned_within-decimal : (most n : ℕ) → n ≤ most → most < 2 ^ 64 → unsigned_within most (decimal n) ≡ Ok n
unsigned_within-decimal most n small fits =
    sym (unsigned_ok most n (decimal n) (is_unsigned-decimal n (omega arith)) (sym (digits_value-decimal digits_model n (omega arith))) small)

-- what a text that is read as n looks like
pub record Spells (most n : ℕ) (text : List ℕ) : Type 0 where
  pub digits : list_all is_ascii_digit text ≡ true
  pub some : 1 ≤ length text
  pub short : length text ≤ 20
  pub value : n ≡ digits_value 10 text
  pub small : n ≤ most

pub Spells-unsigned_within : (most n : ℕ) (text : List ℕ) → unsigned_within most text ≡ Ok n → Spells most n text
unfolding unsigned_within
Spells-unsigned_within most n text read = grind (arith, common_steps)

-- a text without a leading zero is what is written of the number that it spells
pub decimal-unsigned_within : (most n : ℕ) (text : List ℕ) → most < 2 ^ 64 → unsigned_within most text ≡ Ok n
    → (get_or text 0 0 ≡ 48 → length text ≡ 1) → decimal n ≡ text
decimal-unsigned_within most n text fits read leading =
    let spells = Spells-unsigned_within most n text read in
    rw spells.value (decimal-digits_value digits_model text spells.digits (omega arith) leading (rw (← spells.value) (omega arith)))

plain-decimal : (n : ℕ) → n < 2 ^ 64 → starts_with_minus (decimal n) ≡ false
plain-decimal n h =
    let first = digit_in-decimal n 0 h (length-decimal n h).0 in
    ne_eqb (get_or (decimal n) 0 0) 45 (λ (e : get_or (decimal n) 0 0 ≡ 45). grind arith)

-- a signed number reads back too
pub signed_within-signed_decimal : (most : ℕ) (z : ℤ) → nat_abs z ≤ most → most < 2 ^ 31 → signed_within most (signed_decimal z) ≡ Ok z
signed_within-signed_decimal most (pos n) small fits =
    sym (signed_plain_ok most n (decimal n) (decimal n) (plain-decimal n (omega arith)) (rw (plain-decimal n (omega arith))) (sym (unsigned_within-decimal most n small (omega arith))))
signed_within-signed_decimal most (negsuc n) small fits =
    sym (signed_minus_ok most (suc n) (45 ∷ decimal (suc n)) (decimal (suc n)) refl refl (sym (unsigned_within-decimal most (suc n) small (omega arith))))

-- a signed number with no leading zero is what is written of it
spelt-plain : (most : ℕ) (z : ℤ) (text : List ℕ) → most < 2 ^ 31 → (read : Result ℕ NumberFault) → unsigned_within most text ≡ read
    → result_map_both pos (λ fault. fault) read ≡ Ok z → (get_or text 0 0 ≡ 48 → length text ≡ 1) → signed_decimal z ≡ text
spelt-plain most z text fits (Err fault) is h leading = cc
spelt-plain most z text fits (Ok n) is h leading =
    let e : pos n ≡ z = cc in
    rw (← e) (decimal-unsigned_within most n text (omega arith) is leading)

spelt-minus : (most : ℕ) (z : ℤ) (digits : List ℕ) → most < 2 ^ 31 → (read : Result ℕ NumberFault) → unsigned_within most digits ≡ read
    → result_map_both (λ n. neg_ℤ (pos n)) (λ fault. fault) read ≡ Ok z → (get_or digits 0 0 ≡ 48 → ⊥) → signed_decimal z ≡ 45 ∷ digits
spelt-minus most z digits fits (Err fault) is h leading = cc
spelt-minus most z digits fits (Ok zero) is h leading =
    let zero-is : decimal 0 ≡ digits = decimal-unsigned_within most 0 digits (omega arith) is (λ e. absurd (leading e)) in
    absurd (leading (ap (λ k. get_or k 0 0) (sym zero-is ∙ decimal_digit 0 (omega arith))))
spelt-minus most z digits fits (Ok (suc n)) is h leading =
    let e : negsuc n ≡ z = cc in
    rw (← e) (ap (λ k. 45 ∷ k) (decimal-unsigned_within most (suc n) digits (omega arith) is (λ e. absurd (leading e))))

signed-spelt : (most : ℕ) (z : ℤ) (text : List ℕ) → most < 2 ^ 31 → signed_within most text ≡ Ok z → IsPlainSigned text → signed_decimal z ≡ text
unfolding signed_within
signed-spelt most z [] fits read plain = spelt-plain most z [] fits (unsigned_within most []) refl read (plain.without refl)
signed-spelt most z (c ∷ digits) fits read plain =
    elim (cases_Bool (c == 45)) [
      | inl minus ↦
          let sign : c ≡ 45 = grind arith in
          let h : result_map_both (λ n. neg_ℤ (pos n)) (λ fault. fault) (unsigned_within most digits) ≡ Ok z = rw minus at read in
          rw sign (spelt-minus most z digits fits (unsigned_within most digits) refl h (plain.signed minus))
      | inr other ↦
          let h : result_map_both pos (λ fault. fault) (unsigned_within most (c ∷ digits)) ≡ Ok z = rw other at read in
          spelt-plain most z (c ∷ digits) fits (unsigned_within most (c ∷ digits)) refl h (plain.without other)
    ]

pub unsigned_reads_back : UnsignedReadsBack
unsigned_reads_back most n small fits = unsigned_within-decimal most n small fits

pub signed_reads_back : SignedReadsBack
signed_reads_back most z small fits = signed_within-signed_decimal most z small fits

pub unsigned_has_one_spelling : UnsignedHasOneSpelling
unsigned_has_one_spelling most n text fits read leading = decimal-unsigned_within most n text fits read leading

pub signed_has_one_spelling : SignedHasOneSpelling
signed_has_one_spelling most z text fits read plain = signed-spelt most z text fits read plain
