-- Short numbers without blanks are what their fields say.
use Rattle.std.proofs.Common.{◌≡◌, ℕ, ◌+◌, ◌<◌, ◌≤◌, ◌==◌, Bool, true, false, not, List, [], ◌∷◌, length, take, drop, get_or, ℤ, Ok, refl, sym, ap, ◌∙◌, ◌-◌, ◌^◌, eq-eqb, nat_abs, to_z, of_z, w32, arith}
use Rattle.std.specs.List.{list_all, position_or_len}
use Rattle.std.specs.Char.{is_ascii_digit}
use Rattle.std.proofs.lemmas.List.{take_all}
use Rattle.std.proofs.lemmas.List.Elements.{All-from_get_or}
use Rattle.std.proofs.lemmas.List.Splits.{slice_split_first, slice_split_none}
use Rattle.std.proofs.lemmas.List.Sums.{AllPass-from_list_all, position_or_len_is}
use Rattle.std.proofs.lemmas.List.{get_or-take, length-take}
use Rattle.decimal_text.specs.AtFront.{IsPlain}
use Rattle.decimal_text.specs.Number.{unsigned_within, signed_within}
use Rattle.decimal_text.proofs.AtFront.{bytes-signed, unsigned-plain}
use Rattle.decimal_text.proofs.Trimmed.{digit-solid, solid, trim-solid, weaker}
use Rattle.std.proofs.lemmas.Int.{ints}
use Rattle.trace_reader.proofs.Magnitudes.{abs-signed_within}
use Rattle.trace_reader.specs.inside.FirstField.{first_of, is_within_field}
use Rattle.trace_reader.specs.Row.{fields_of, u32_of, coordinate_of}

-- ---- numbers

digit-within : (c : ℕ) → is_ascii_digit c ≡ true → is_within_field c ≡ true
digit-within c h = grind arith

pub digits-within : (field : List ℕ) → list_all is_ascii_digit field ≡ true → list_all is_within_field field ≡ true
digits-within field digits = weaker is_ascii_digit is_within_field digit-within field digits

pub u32_of-plain : (field : List ℕ) (n : ℕ) → IsPlain field n → u32_of field ≡ Ok n
u32_of-plain field n plain =
    ap (unsigned_within (2 ^ 32 - 1)) (trim-solid field plain.some (weaker is_ascii_digit solid digit-solid field plain.digits)) ∙ unsigned-plain (2 ^ 32 - 1) n field (omega arith) plain

pub signed-within : (field : List ℕ) (z : ℤ) → signed_within 1_000_000_000 field ≡ Ok z → list_all is_within_field field ≡ true
signed-within field z read = (bytes-signed is_within_field digit-within refl 1_000_000_000 z field read).0

pub coordinate_of-plain : (field : List ℕ) (z : ℤ) → signed_within 1_000_000_000 field ≡ Ok z → coordinate_of field ≡ Ok z
coordinate_of-plain field z read =
    let bytes = bytes-signed solid digit-solid refl 1_000_000_000 z field read in
    ap (signed_within 1_000_000_000) (trim-solid field bytes.1 bytes.0) ∙ read

-- ---- fields

not-true : (b : Bool) → not b ≡ true → b ≡ false
not-true true h = absurd cc
not-true false h = refl

no-comma : (field : List ℕ) → list_all is_within_field field ≡ true → (k : ℕ) → k < length field → (get_or field k 0 == 44) ≡ false
no-comma field h k below = not-true _ (AllPass-from_list_all is_within_field field h k 0 below)

-- a text without a comma
pub first_whole : (text : List ℕ) → ((k : ℕ) → k < length text → (get_or text k 0 == 44) ≡ false) → first_of text ≡ text
first_whole text none =
    ap (λ n. take n text) (position_or_len_is (λ c. c == 44) text (length text) 0 (omega arith) none (λ h. absurd (omega (arith, h)))) ∙ take_all (length text) text (omega arith)

pub fields_whole : (text : List ℕ) → ((k : ℕ) → k < length text → (get_or text k 0 == 44) ≡ false) → fields_of text ≡ first_of text ∷ []
fields_whole text none = slice_split_none (λ c. c == 44) text (All-from_get_or (λ c. (c == 44) ≡ false) text 0 none) ∙ ap (λ t. t ∷ []) (sym (first_whole text none))

pub first-all : (text : List ℕ) (count : ℕ) → count ≡ length text → list_all is_within_field (take count text) ≡ true → first_of text ≡ take count text
first-all text count whole h =
    let all : take count text ≡ text = take_all count text (omega (arith, whole)) in
    first_whole text (no-comma text (rw all at h)) ∙ sym all

pub fields-all : (text : List ℕ) (count : ℕ) → count ≡ length text → list_all is_within_field (take count text) ≡ true → fields_of text ≡ first_of text ∷ []
fields-all text count whole h =
    let all : take count text ≡ text = take_all count text (omega (arith, whole)) in
    fields_whole text (no-comma text (rw all at h))

-- a comma behind the first bytes
comma_at : (text : List ℕ) (count : ℕ) → count < length text → list_all is_within_field (take count text) ≡ true → get_or text count 0 ≡ 44 → position_or_len (λ c. c == 44) text ≡ count
comma_at text count inside h comma =
    position_or_len_is (λ c. c == 44) text count 0 (omega (arith, inside))
    (λ k below. ap (λ c. c == 44) (sym (get_or-take count text k 0 below)) ∙ no-comma (take count text) h k (omega (arith, length-take count text, inside, below)))
    (λ _. eq-eqb (get_or text count 0) 44 comma)

pub first-comma : (text : List ℕ) (count : ℕ) → count < length text → list_all is_within_field (take count text) ≡ true → get_or text count 0 ≡ 44 → first_of text ≡ take count text
first-comma text count inside h comma = ap (λ n. take n text) (comma_at text count inside h comma)

pub fields-comma : (text : List ℕ) (count : ℕ) → count < length text → list_all is_within_field (take count text) ≡ true → get_or text count 0 ≡ 44 → fields_of text ≡ first_of text ∷ fields_of (drop (count + 1) text)
fields-comma text count inside h comma =
    let at = comma_at text count inside h comma in
    slice_split_first (λ c. c == 44) text 0 (omega (arith, at, inside)) ∙ ap (λ n. first_of text ∷ fields_of (drop (n + 1) text)) at

-- what 32 bits hold of a coordinate
pub held : (field : List ℕ) (z : ℤ) → signed_within 1_000_000_000 field ≡ Ok z → z ≡ to_z w32 (of_z w32 z)
held field z read =
    let small : nat_abs z ≤ 1_000_000_000 = abs-signed_within 1_000_000_000 z field read in
    grind (arith, ints)
