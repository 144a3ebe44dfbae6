-- What an operation on a word does to each of its bytes.
use Rattle.std.proofs.Common.{◌≡◌, ℕ, zero, suc, ◌+◌, ◌-◌, ◌*◌, ◌/◌, ◌%◌, ◌^◌, ◌<◌, ◌⊎◌, ◌&&◌, Bool, true, false, T, not, cond, eqb, nat_le, List, [], ◌∷◌, map, length, replicate, bit_and, bit_or, bit_xor, refl, sym, ap, subst, ◌∙◌, inl, inr, true≢false, eqb→eq, eq-zero-or-pos, pow-suc, arith}
use Rattle.std.specs.Char.{is_ascii_digit}
use Rattle.std.specs.Int.Count.{count_trailing_zeros, under}
use Rattle.std.specs.Int.Digits.{AllBelowBase}
use Rattle.std.specs.List.{prefix_len}
use Rattle.std.specs.Simd.Lanes.{number_l}
use Rattle.std.proofs.lemmas.Nat.{and_block, or_block, xor_block, and_le_r, or_lt}
use Rattle.decimal_text.specs.inside.Words.{IsEight, less_zero, flag_from_ten}

-- ---- facts of one byte, by trying each

abbrev each_below : ℕ → (ℕ → Bool) → Bool
each_below zero t = true
each_below (suc n) t = t n && each_below n t

pub tried : (n : ℕ) (t : ℕ → Bool) → each_below n t ≡ true → (b : ℕ) → b < n → t b ≡ true
tried zero t e b l = absurd (omega arith)
tried (suc n) t e b l = by (t n) refl e (tried n t)
  where
    by : (x : Bool) → t n ≡ x → (x && each_below n t) ≡ true → (each_below n t ≡ true → (c : ℕ) → c < n → t c ≡ true) → t b ≡ true
    by true p q rest = last (eq-zero-or-pos (n - b))
      where
        last : (n - b ≡ 0) ⊎ (0 < n - b) → t b ≡ true
        last (inl z) = let same : b ≡ n = omega arith in ap t same ∙ p
        last (inr z) = rest q b (omega arith)
    by false p q rest = absurd (true≢false (sym q))

pub same_tests : (n : ℕ) (f g : ℕ → ℕ) → each_below n (λ x. eqb (f x) (g x)) ≡ true → (b : ℕ) → b < n → f b ≡ g b
same_tests n f g e b l = eqb→eq _ _ (subst T (sym (tried n (λ x. eqb (f x) (g x)) e b l)) tt)

-- ---- each byte of a word

pub fits_each : (f : ℕ → ℕ) → ((x : ℕ) → x < 256 → f x < 256) → (xs : List ℕ) → AllBelowBase 256 xs → AllBelowBase 256 (map f xs)
fits_each f bound [] h = tt
fits_each f bound (x ∷ xs) h = (bound x h.0, fits_each f bound xs h.1)

same_each : (f g : ℕ → ℕ) → ((x : ℕ) → x < 256 → f x ≡ g x) → (xs : List ℕ) → AllBelowBase 256 xs → map f xs ≡ map g xs
same_each f g same [] h = refl
same_each f g same (x ∷ xs) h = λ i. same x h.0 i ∷ same_each f g same xs h.1 i

module _ (o : ℕ → ℕ → ℕ) (zeros : o 0 0 ≡ 0) (block : (k a b r s : ℕ) → r < 2 ^ k → s < 2 ^ k → o (a * 2 ^ k + r) (b * 2 ^ k + s) ≡ o a b * 2 ^ k + o r s) where
  by_byte : (f g : ℕ → ℕ) (xs : List ℕ) → AllBelowBase 256 (map f xs) → AllBelowBase 256 (map g xs) → o (number_l 256 (map f xs)) (number_l 256 (map g xs)) ≡ number_l 256 (map (λ x. o (f x) (g x)) xs)
  by_byte f g [] a b = zeros
  by_byte f g (x ∷ xs) a b =
      let p : f x + 256 * number_l 256 (map f xs) ≡ number_l 256 (map f xs) * 256 + f x = omega arith in
      let q : g x + 256 * number_l 256 (map g xs) ≡ number_l 256 (map g xs) * 256 + g x = omega arith in
      (λ i. o (p i) (q i)) ∙ block 8 _ _ _ _ a.0 b.0 ∙ omega (arith, by_byte f g xs a.1 b.1)

sum_each : (f g : ℕ → ℕ) (xs : List ℕ) → number_l 256 (map f xs) + number_l 256 (map g xs) ≡ number_l 256 (map (λ x. f x + g x) xs)
sum_each f g [] = refl
sum_each f g (x ∷ xs) = omega (arith, sum_each f g xs)

constant : (c : ℕ) (xs : List ℕ) → map (λ _. c) xs ≡ replicate (length xs) c
constant c [] = refl
constant c (x ∷ xs) = λ i. c ∷ constant c xs i

-- a word with the same byte eight times
spread : (c : ℕ) (xs : List ℕ) → length xs ≡ 8 → number_l 256 (replicate 8 c) ≡ number_l 256 (map (λ _. c) xs)
spread c xs long = ap (number_l 256) (sym (constant c xs ∙ ap (λ n. replicate n c) long))

itself : (xs : List ℕ) → map (λ x. x) xs ≡ xs
itself [] = refl
itself (x ∷ xs) = λ i. x ∷ itself xs i

pub lanes_are : (xs : List ℕ) (word : ℕ) → IsEight 256 xs → word ≡ number_l 256 xs → bit_xor word 0x3030_3030_3030_3030 ≡ number_l 256 (map less_zero xs)
lanes_are xs word eight is =
    let same = is ∙ ap (number_l 256) (sym (itself xs)) in
    (λ i. bit_xor (same i) (spread 48 xs eight.0 i))
    ∙ by_byte bit_xor refl xor_block (λ x. x) (λ _. 48) xs (fits_each (λ x. x) (λ x l. l) xs eight.1) (fits_each (λ _. 48) (λ _ _. omega arith) xs eight.1)

-- ---- which bytes are digits

abbrev low : ℕ → ℕ
low x = bit_and x 127

abbrev sum : ℕ → ℕ
sum x = low x + 118

abbrev either : ℕ → ℕ
either x = bit_or (sum x) x

low_fits : (x : ℕ) → low x < 256
low_fits x = omega (arith, and_le_r x 127)

sum_fits : (x : ℕ) → sum x < 256
sum_fits x = omega (arith, and_le_r x 127)

pub flags_are : (xs : List ℕ) (word : ℕ) → IsEight 256 xs → word ≡ number_l 256 xs
    → bit_and (bit_or (bit_and word 0x7f7f_7f7f_7f7f_7f7f + 0x7676_7676_7676_7676) word) 0x8080_8080_8080_8080 ≡ number_l 256 (map flag_from_ten xs)
flags_are xs word eight is =
    let bytes = eight.1 in
    let same = is ∙ ap (number_l 256) (sym (itself xs)) in
    let own = fits_each (λ x. x) (λ x l. l) xs bytes in
    let lows = (λ i. bit_and (same i) (spread 127 xs eight.0 i)) ∙ by_byte bit_and refl and_block (λ x. x) (λ _. 127) xs own (fits_each (λ _. 127) (λ _ _. omega arith) xs bytes) in
    let sums = (λ i. lows i + spread 118 xs eight.0 i) ∙ sum_each low (λ _. 118) xs in
    let eithers = (λ i. bit_or (sums i) (same i)) ∙ by_byte bit_or refl or_block sum (λ x. x) xs (fits_each sum (λ x _. sum_fits x) xs bytes) own in
    let highs = (λ i. bit_and (eithers i) (spread 128 xs eight.0 i))
    ∙ by_byte bit_and refl and_block either (λ _. 128) xs (fits_each either (λ x l. or_lt 8 (sum x) x (sum_fits x) l) xs bytes) (fits_each (λ _. 128) (λ _ _. omega arith) xs bytes) in
    highs ∙ ap (number_l 256) (same_each (λ x. bit_and (either x) 128) flag_from_ten (same_tests 256 (λ x. bit_and (either x) 128) flag_from_ten refl) xs bytes)

-- ---- the first byte with a flag

even : (k n : ℕ) → count_trailing_zeros (suc k) (2 * n) ≡ suc (count_trailing_zeros k n)
unfolding count_trailing_zeros
even k n =
    let none : 2 * n % 2 ≡ 0 = omega arith in
    let half : 2 * n / 2 ≡ n = omega arith in
    λ i. under (none i) (count_trailing_zeros k (half i))

odd : (k n : ℕ) → count_trailing_zeros (suc k) (1 + 2 * n) ≡ 0
unfolding count_trailing_zeros
odd k n =
    let one : (1 + 2 * n) % 2 ≡ 1 = omega arith in
    λ i. under (one i) (count_trailing_zeros k ((1 + 2 * n) / 2))

up : (j k n : ℕ) → count_trailing_zeros (j + k) (2 ^ j * n) ≡ j + count_trailing_zeros k n
up zero k n =
    let one : 2 ^ 0 * n ≡ n = omega arith in
    let all : 0 + k ≡ k = omega arith in
    (λ i. count_trailing_zeros (all i) (one i)) ∙ omega arith
up (suc j) k n =
    let twice : 2 ^ suc j * n ≡ 2 * (2 ^ j * n) = omega (arith, ap (λ p. p * n) (pow-suc 2 j)) in
    let bits : suc j + k ≡ suc (j + k) = omega arith in
    (λ i. count_trailing_zeros (bits i) (twice i)) ∙ even (j + k) (2 ^ j * n) ∙ omega (arith, up j k n)

abbrev below_ten : ℕ → Bool
below_ten x = not (nat_le 10 x)

pub no_flag : (xs : List ℕ) → number_l 256 (map flag_from_ten xs) ≡ 0 → prefix_len below_ten xs ≡ length xs
no_flag [] none = refl
no_flag (x ∷ xs) none = by (no_flag xs) (nat_le 10 x) none
  where
    by : (number_l 256 (map flag_from_ten xs) ≡ 0 → prefix_len below_ten xs ≡ length xs) → (b : Bool) → cond b 128 0 + 256 * number_l 256 (map flag_from_ten xs) ≡ 0 → cond (not b) (1 + prefix_len below_ten xs) 0 ≡ suc (length xs)
    by more true e = absurd (omega arith)
    by more false e = omega (arith, more (omega arith))

-- the lowest bit that is set is the high bit of the first byte that is at least ten
abbrev pub FirstFlag : List ℕ → ℕ → Type 0
FirstFlag xs flags = (count_trailing_zeros (8 * length xs) flags ≡ 8 * prefix_len below_ten xs + 7) × (prefix_len below_ten xs < length xs)

pub first_flag : (xs : List ℕ) → 0 < number_l 256 (map flag_from_ten xs) → FirstFlag xs (number_l 256 (map flag_from_ten xs))
first_flag [] some = absurd (omega arith)
first_flag (x ∷ xs) some = by (number_l 256 (map flag_from_ten xs)) (first_flag xs) (nat_le 10 x) some
  where
    by : (rest : ℕ) → (0 < rest → FirstFlag xs rest) → (b : Bool) → 0 < cond b 128 0 + 256 * rest
        → (count_trailing_zeros (8 * suc (length xs)) (cond b 128 0 + 256 * rest) ≡ 8 * cond (not b) (1 + prefix_len below_ten xs) 0 + 7) × (cond (not b) (1 + prefix_len below_ten xs) 0 < suc (length xs))
    by rest more true e =
        let parts : 128 + 256 * rest ≡ 2 ^ 7 * (1 + 2 * rest) = omega arith in
        let bits : 8 * suc (length xs) ≡ 7 + suc (8 * length xs) = omega arith in
        ((λ i. count_trailing_zeros (bits i) (parts i)) ∙ up 7 (suc (8 * length xs)) (1 + 2 * rest) ∙ ap (λ n. 7 + n) (odd (8 * length xs) rest), omega arith)
    by rest more false e =
        let parts : 0 + 256 * rest ≡ 2 ^ 8 * rest = omega arith in
        let bits : 8 * suc (length xs) ≡ 8 + 8 * length xs = omega arith in
        let m = more (omega arith) in
        ((λ i. count_trailing_zeros (bits i) (parts i)) ∙ up 8 (8 * length xs) rest ∙ omega (arith, m.0), omega (arith, m.1))

abbrev one : Bool → ℕ
one b = cond b 1 0

-- the bytes that are below ten with the digit 0 taken from each are the digits
pub below_ten_are : (xs : List ℕ) → AllBelowBase 256 xs → prefix_len below_ten (map less_zero xs) ≡ prefix_len is_ascii_digit xs
below_ten_are [] h = refl
below_ten_are (x ∷ xs) h =
    let same = same_tests 256 (λ y. one (below_ten (less_zero y))) (λ y. one (is_ascii_digit y)) refl x h.0 in
    by (below_ten_are xs h.1) (below_ten (less_zero x)) (is_ascii_digit x) same
  where
    by : prefix_len below_ten (map less_zero xs) ≡ prefix_len is_ascii_digit xs → (a b : Bool) → one a ≡ one b → cond a (1 + prefix_len below_ten (map less_zero xs)) 0 ≡ cond b (1 + prefix_len is_ascii_digit xs) 0
    by more true true e = omega (arith, more)
    by more false false e = refl
    by more true false e = absurd (omega arith)
    by more false true e = absurd (omega arith)
