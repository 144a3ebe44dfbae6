-- Numbers of few digits, alone and at the front of a text.
use Rattle.std.proofs.Common.{◌≡◌, ◌≢◌, ℕ, ◌+◌, ◌<◌, ◌≤◌, ◌==◌, Bool, true, false, List, [], ◌∷◌, length, take, drop, get_or, ℤ, pos, neg_ℤ, Result, Ok, Err, inl, inr, refl, sym, ap, ◌∙◌, add-one, length-take-le, arith}
use Rattle.std.specs.List.{list_all, prefix_len}
use Rattle.std.specs.Result.{result_map_both}
use Rattle.std.specs.Char.{is_ascii_digit}
use Rattle.std.specs.Str.Parse.{digits_value, starts_with_minus}
use Rattle.std.proofs.lemmas.Bool.{cases_Bool}
use Rattle.std.proofs.lemmas.Grind.{common_steps}
use Rattle.decimal_text.specs.declared.number.NumberFault.{NumberFault}
use Rattle.decimal_text.specs.AtFront.{IsPlain, behind_minus}
use Rattle.decimal_text.specs.Number.{unsigned_within, signed_within}
use Rattle.decimal_text.proofs.Laws.{Spells-unsigned_within}
use Rattle.decimal_text.proofs.FrontDigits.{other_after}
use Rattle.decimal_text.proofs.Trimmed.{and_both, and_of, weaker}

-- ---- what they spell

pub unsigned-plain : (most n : ℕ) (field : List ℕ) → 999_999_999 ≤ most → IsPlain field n → unsigned_within most field ≡ Ok n
unfolding unsigned_within
unsigned-plain most n field large plain =
    let digits = plain.digits in
    let some = plain.some in
    let short = plain.short in
    let value = plain.value in
    let small = plain.small in
    grind (arith, common_steps)

signed-plain : (most n : ℕ) (field : List ℕ) → 999_999_999 ≤ most → IsPlain field n → signed_within most field ≡ Ok (pos n)
unfolding signed_within
signed-plain most n [] large plain = absurd (omega (arith, plain.some))
signed-plain most n (c ∷ cs) large plain =
    let first = (and_both (is_ascii_digit c) (list_all is_ascii_digit cs) plain.digits).0 in
    let no_sign : (c == 45) ≡ false = grind arith in
    rw (no_sign, unsigned-plain most n (c ∷ cs) large plain) refl

-- what digits_at_front reads
pub record IsRead (text : List ℕ) (n count : ℕ) : Type 0 where
  pub few : (count ≤ length text) × (count ≤ 9)
  pub digits : list_all is_ascii_digit (take count text) ≡ true
  pub value : n ≡ digits_value 10 (take count text)
  pub small : n < 1_000_000_000
  pub all : count < 9 → prefix_len is_ascii_digit text ≡ count

pub plain-read : (text : List ℕ) (n count : ℕ) → count ≢ 0 → IsRead text n count → IsPlain (take count text) n
plain-read text n count some read =
    let long = length-take-le count text read.few.0 in
    record { digits = read.digits; some = omega (arith, long, some); short = omega (arith, long, read.few.1); value = read.value; small = read.small }

pub signed-read : (text : List ℕ) (n count : ℕ) → count ≢ 0 → IsRead text n count → (most : ℕ) → 999_999_999 ≤ most → signed_within most (take count text) ≡ Ok (pos n)
signed-read text n count some read most large = signed-plain most n (take count text) large (plain-read text n count some read)

pub minus-read : (text : List ℕ) (n count : ℕ) → starts_with_minus text ≡ true → count ≢ 0 → IsRead (drop 1 text) n count → (most : ℕ) → 999_999_999 ≤ most
    → signed_within most (take (count + 1) text) ≡ Ok (neg_ℤ (pos n))
unfolding signed_within
minus-read [] n count minus some read most large = absurd cc
minus-read (c ∷ cs) n count minus some read most large =
    let plain = plain-read cs n count some read in
    rw (add-one count, minus, unsigned-plain most n (take count cs) large plain) refl

pub none-read : (text : List ℕ) (n count : ℕ) → starts_with_minus text ≡ false → count ≡ 0 → IsRead text n count → prefix_len is_ascii_digit (behind_minus text) ≡ 0
none-read text n count plain none read = rw plain (read.all (omega (arith, none)) ∙ none)

pub none-minus : (text : List ℕ) (n count : ℕ) → starts_with_minus text ≡ true → count ≡ 0 → IsRead (drop 1 text) n count → prefix_len is_ascii_digit (behind_minus text) ≡ 0
none-minus text n count minus none read = rw minus (read.all (omega (arith, none)) ∙ none)

pub ends-read : (text : List ℕ) (n count : ℕ) → IsRead text n count → count < 9 → is_ascii_digit (get_or text count 0) ≡ false
ends-read text n count read short = ap (λ k. is_ascii_digit (get_or text k 0)) (sym (read.all short)) ∙ other_after text

pub ends-minus : (text : List ℕ) (n count : ℕ) → starts_with_minus text ≡ true → IsRead (drop 1 text) n count → count + 1 < 9 → is_ascii_digit (get_or text (count + 1) 0) ≡ false
ends-minus [] n count minus read short = absurd cc
ends-minus (c ∷ cs) n count minus read short = rw add-one (ends-read cs n count read (omega (arith, short)))

-- ---- their bytes

read-of : (f : ℕ → ℤ) (read : Result ℕ NumberFault) (z : ℤ) → result_map_both f (λ fault. fault) read ≡ Ok z → (n : ℕ) × (read ≡ Ok n)
read-of f (Ok n) z h = (n, refl)
read-of f (Err e) z h = absurd (cc h)

-- a signed number has at least one byte, and each is a digit or `-`
module _ (p : ℕ → Bool) (digit : (c : ℕ) → is_ascii_digit c ≡ true → p c ≡ true) (sign : p 45 ≡ true) where
  pub bytes-signed : (most : ℕ) (z : ℤ) (field : List ℕ) → signed_within most field ≡ Ok z → (list_all p field ≡ true) × (1 ≤ length field)
  unfolding signed_within
  bytes-signed most z [] h =
      let r = read-of pos (unsigned_within most []) z h in
      absurd (omega (arith, (Spells-unsigned_within most r.0 [] r.1).some))
  bytes-signed most z (c ∷ cs) h =
      elim (cases_Bool (c == 45)) [
        | inl minus ↦
            let is : c ≡ 45 = grind arith in
            let r = read-of (λ n. neg_ℤ (pos n)) (unsigned_within most cs) z (rw minus at h) in
            (and_of (p c) (list_all p cs) (ap p is ∙ sign) (weaker is_ascii_digit p digit cs (Spells-unsigned_within most r.0 cs r.1).digits), omega arith)
        | inr other ↦
            let r = read-of pos (unsigned_within most (c ∷ cs)) z (rw other at h) in
            (weaker is_ascii_digit p digit (c ∷ cs) (Spells-unsigned_within most r.0 (c ∷ cs) r.1).digits, omega arith)
      ]
