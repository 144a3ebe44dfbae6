-- The bytes of numbers.
use Rattle.std.proofs.Common.{◌≡◌, ◌⊎◌, ℕ, suc, ◌+◌, ◌-◌, ◌<◌, ◌≤◌, ◌^◌, ◌==◌, false, List, [], ◌∷◌, ◌++◌, All, length, take, drop, get_or, ℤ, pos, negsuc, nat_abs, reverse, refl, sym, ap, ◌∙◌, ⊎_elim, arith, length-append}
use Rattle.std.specs.Int.{IsInRange}
use Rattle.std.specs.List.{position_or_len, before_first, after_first}
use Rattle.std.proofs.Math.Seq.{get_or-append_seam, take-append_seam, drop-append-add}
use Rattle.std.proofs.lemmas.Bool.{ne_eqb}
use Rattle.std.proofs.lemmas.List.Sums.{position_or_len_is}
use Rattle.std.proofs.lemmas.List.{take_all, take_more, reverse-reverse, reverse-append, get_or_append_left, get_or-append-add}
use Rattle.std.proofs.lemmas.List.Elements.{All-cons, All-from_get_or, All-weaker}
use Rattle.decimal_text.specs.Blank.{is_blank, trim, trim_start, trim_end}
use Rattle.decimal_text.specs.Number.{decimal, signed_decimal}
use Rattle.decimal_text.proofs.Laws.{digit_in-decimal, length-decimal}

-- the bytes of numbers: digits and the sign
abbrev pub IsNumeralByte : ℕ → Type 0
IsNumeralByte b = IsInRange 45 57 b

pub in-decimal : (n : ℕ) → n < 2 ^ 64 → All IsNumeralByte (decimal n)
in-decimal n h = All-from_get_or IsNumeralByte (decimal n) 0 (λ i low. let digit = digit_in-decimal n i h low in (omega (arith, digit.0), digit.1))

pub in-signed : (z : ℤ) → nat_abs z < 2 ^ 64 → All IsNumeralByte (signed_decimal z)
in-signed (pos n) h = in-decimal n h
in-signed (negsuc n) h = All-cons IsNumeralByte 45 (decimal (suc n)) (omega arith, omega arith) (in-decimal (suc n) h)

pub length-signed : (z : ℤ) → nat_abs z < 2 ^ 64 → (1 ≤ length (signed_decimal z)) × (length (signed_decimal z) ≤ 21)
length-signed (pos n) h = let d = length-decimal n h in (d.0, omega (arith, d.1))
length-signed (negsuc n) h = let d = length-decimal (suc n) h in (omega arith, omega (arith, d.1))

-- no byte of a number is another one
pub none-is : (c : ℕ) → (c < 45) ⊎ (57 < c) → (text : List ℕ) → All IsNumeralByte text → All (λ b. (b == c) ≡ false) text
none-is c outside text all =
    All-weaker IsNumeralByte (λ b. (b == c) ≡ false) (λ b in_range. ne_eqb b c (λ e. ⊎_elim (λ low. omega (arith, in_range.0, low, e)) (λ high. omega (arith, in_range.1, high, e)) outside)) text all

solid : (b : ℕ) → IsNumeralByte b → is_blank b ≡ false
solid b in_range = rw (ne_eqb b 32 (λ e. omega (arith, in_range.0, e)), ne_eqb b 9 (λ e. omega (arith, in_range.0, e))) refl

pub solid-at : (text : List ℕ) (i : ℕ) → All IsNumeralByte text → i < length text → is_blank (get_or text i 0) ≡ false
solid-at text i all low = solid (get_or text i 0) (all i 0 low)

-- a text whose first and last bytes are no blanks is not trimmed
front-kept : (text : List ℕ) → 1 ≤ length text → is_blank (get_or text 0 0) ≡ false → trim_start text ≡ text
front-kept [] some first = absurd (omega (arith, some))
front-kept (c ∷ cs) some first = rw first refl

back-kept : (front : List ℕ) (last : ℕ) → is_blank last ≡ false → trim_end (front ++ last ∷ []) ≡ front ++ last ∷ []
back-kept front last solid_last =
    let turned : reverse (front ++ last ∷ []) ≡ last ∷ reverse front = reverse-append front (last ∷ []) in
    ap (λ t. reverse (trim_start t)) turned
    ∙ ap reverse (front-kept (last ∷ reverse front) (omega arith) solid_last)
    ∙ ap reverse (sym turned)
    ∙ reverse-reverse (front ++ last ∷ [])

last-apart : (text : List ℕ) → 1 ≤ length text → text ≡ take (length text - 1) text ++ get_or text (length text - 1) 0 ∷ []
last-apart text some =
    let all : take (length text - 1 + 1) text ≡ text = take_all (length text - 1 + 1) text (omega (arith, some)) in
    sym all ∙ take_more text (length text - 1) 0 (omega (arith, some))

pub trim-kept : (text : List ℕ) → 1 ≤ length text → is_blank (get_or text 0 0) ≡ false → is_blank (get_or text (length text - 1) 0) ≡ false → trim text ≡ text
unfolding trim
trim-kept text some first last =
    let apart = last-apart text some in
    ap trim_end (front-kept text some first)
    ∙ ap trim_end apart
    ∙ back-kept (take (length text - 1) text) (get_or text (length text - 1) 0) last
    ∙ sym apart

-- neither is a number, nor two numbers with a blank between them
pub trim-number : (text : List ℕ) → All IsNumeralByte text → 1 ≤ length text → trim text ≡ text
trim-number text all some =
    trim-kept text some (solid-at text 0 all (omega (arith, some))) (solid-at text (length text - 1) all (omega (arith, some)))

last-of-two : (x y : List ℕ) → 1 ≤ length y → get_or (x ++ 32 ∷ y) (length (x ++ 32 ∷ y) - 1) 0 ≡ get_or y (length y - 1) 0
last-of-two x [] some = absurd (omega (arith, some))
last-of-two x (c ∷ y) some =
    let place : length (x ++ 32 ∷ c ∷ y) - 1 ≡ length x + length (c ∷ y) = omega (arith, length-append x (32 ∷ c ∷ y)) in
    let same : length y ≡ length (c ∷ y) - 1 = omega arith in
    ap (λ i. get_or (x ++ 32 ∷ c ∷ y) i 0) place ∙ get_or-append-add x (32 ∷ c ∷ y) (length (c ∷ y)) 0 ∙ ap (λ i. get_or (c ∷ y) i 0) same

pub trim-two : (x y : List ℕ) → All IsNumeralByte x → 1 ≤ length x → All IsNumeralByte y → 1 ≤ length y → trim (x ++ 32 ∷ y) ≡ x ++ 32 ∷ y
trim-two x y all_x some_x all_y some_y =
    let first : get_or (x ++ 32 ∷ y) 0 0 ≡ get_or x 0 0 = get_or_append_left x (32 ∷ y) 0 0 (omega (arith, some_x)) in
    trim-kept (x ++ 32 ∷ y) (omega (arith, some_x, length-append x (32 ∷ y)))
    (ap is_blank first ∙ solid-at x 0 all_x (omega (arith, some_x)))
    (ap is_blank (last-of-two x y some_y) ∙ solid-at y (length y - 1) all_y (omega (arith, some_y)))

-- the first blank stands between them
blank-place : (x y : List ℕ) → All IsNumeralByte x → position_or_len is_blank (x ++ 32 ∷ y) ≡ length x
blank-place x y all =
    position_or_len_is is_blank (x ++ 32 ∷ y) (length x) 0 (omega (arith, length-append x (32 ∷ y)))
    (λ k low. ap is_blank (get_or_append_left x (32 ∷ y) 0 k low) ∙ solid-at x k all low)
    (λ _. ap is_blank (get_or-append_seam x 32 y 0))

pub before-blank : (x y : List ℕ) → All IsNumeralByte x → before_first is_blank (x ++ 32 ∷ y) ≡ x
before-blank x y all = ap (λ i. take i (x ++ 32 ∷ y)) (blank-place x y all) ∙ take-append_seam x (32 ∷ y)

pub after-blank : (x y : List ℕ) → All IsNumeralByte x → after_first is_blank (x ++ 32 ∷ y) ≡ y
after-blank x y all = ap (λ i. drop (i + 1) (x ++ 32 ∷ y)) (blank-place x y all) ∙ drop-append-add x (32 ∷ y) 1
