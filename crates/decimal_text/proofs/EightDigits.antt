-- The number that eight digits in the bytes of a word write.
use Rattle.std.proofs.Common.{◌≡◌, ℕ, zero, suc, ◌+◌, ◌-◌, ◌*◌, ◌/◌, ◌%◌, ◌^◌, ◌<◌, ◌≤◌, Bool, true, false, cond, eqb, ltb, T, List, [], ◌∷◌, ◌++◌, map, length, get_or, take, replicate, bit_and, refl, sym, ap, subst, ◌∙◌, eqb→eq, ltb→lt, add-zero, mod-eq_of_lt, mul_assoc, mul-div_cancel, pow-suc, pow-add, length-append, length-take, mul-pos, w64, arith}
use Rattle.std.specs.Char.{is_ascii_digit, digit_value}
use Rattle.std.specs.Int.{from_le_bytes}
use Rattle.std.specs.Int.Count.{count_trailing_zeros}
use Rattle.std.specs.Int.Digits.{AllBelowBase, number_from_digits}
use Rattle.std.specs.List.{prefix_len, take-map}
use Rattle.std.specs.Simd.Lanes.{number_l}
use Rattle.std.specs.Str.Parse.{digits_value}
use Rattle.std.proofs.lemmas.Int.Digits.{digits_value_is, number_lt}
use Rattle.std.proofs.lemmas.List.{length-map, length-replicate}
use Rattle.std.proofs.lemmas.Nat.{and_block, and_mask, xor_lt}
use Rattle.std.proofs.Math.Arith.{digits_div, digits_mod, mod-mul}
use Rattle.std.proofs.Math.Nat.{mul-mod_left, pow-zero, zero-mod}
use Rattle.decimal_text.proofs.WordBytes.{tried, same_tests, fits_each, no_flag, first_flag, below_ten_are}
use Rattle.decimal_text.specs.inside.Words.{IsEight, less_zero, flag_from_ten}

-- the mask keeps bytes 0 and 4
masked : (x : ℕ) → bit_and x 0x0000_00ff_0000_00ff ≡ x / 2 ^ 32 % 256 * 2 ^ 32 + x % 2 ^ 32 % 256
masked x =
    let e : x ≡ x / 2 ^ 32 * 2 ^ 32 + x % 2 ^ 32 = omega arith in
    ap (λ y. bit_and y 0x0000_00ff_0000_00ff) e ∙ and_block 32 (x / 2 ^ 32) 255 (x % 2 ^ 32) 255 (omega arith) (omega arith)
    ∙ (λ i. and_mask (x / 2 ^ 32) 8 i * 2 ^ 32 + and_mask (x % 2 ^ 32) 8 i)

abbrev worth : ℕ → ℕ
worth word =
    let pairs = (word * 10 % 2 ^ 64 + word / 256) % 2 ^ 64 in
    (bit_and pairs 0x0000_00ff_0000_00ff * 4294967296000100 % 2 ^ 64 + bit_and (pairs / 65536) 0x0000_00ff_0000_00ff * 42949672960001 % 2 ^ 64) % 2 ^ 64 / 2 ^ 32

below : (x : ℕ) → x < 100 → x < 256
below x h = omega arith

first : (p r : ℕ) → p < 100 → r < 100 → (r * 2 ^ 32 + p) * 4294967296000100 % 2 ^ 64 ≡ (p * 1000000 + r * 100) * 2 ^ 32 + p * 100
first p r P R = omega arith

second : (q s : ℕ) → q < 100 → s < 100 → (s * 2 ^ 32 + q) * 42949672960001 % 2 ^ 64 ≡ (q * 10000 + s) * 2 ^ 32 + q
second q s Q S = omega arith

last : (p q r s : ℕ) → p < 100 → q < 100 → r < 100 → s < 100
    → ((p * 1000000 + r * 100) * 2 ^ 32 + p * 100 + ((q * 10000 + s) * 2 ^ 32 + q)) % 2 ^ 64 / 2 ^ 32 ≡ p * 1000000 + q * 10000 + r * 100 + s
last p q r s P Q R S =
    let sum = (p * 1000000 + r * 100) * 2 ^ 32 + p * 100 + ((q * 10000 + s) * 2 ^ 32 + q) in
    let small : sum < 2 ^ 64 = omega arith in
    let parts : sum ≡ (p * 1000000 + q * 10000 + r * 100 + s) * 2 ^ 32 + (p * 100 + q) = omega arith in
    let low : p * 100 + q < 2 ^ 32 = omega arith in
    ap (λ x. x / 2 ^ 32) (mod-eq_of_lt small ∙ parts) ∙ digits_div _ low

-- p, q, r and s are the four pairs of digits, and x, y, z and w the bytes between them
combined : (p q r s x y z w pairs : ℕ) → p < 100 → q < 100 → r < 100 → s < 100 → x < 100 → y < 100 → z < 100 → w < 100
    → pairs ≡ p + 2 ^ 8 * x + 2 ^ 16 * q + 2 ^ 24 * y + 2 ^ 32 * r + 2 ^ 40 * z + 2 ^ 48 * s + 2 ^ 56 * w
    → (bit_and pairs 0x0000_00ff_0000_00ff * 4294967296000100 % 2 ^ 64 + bit_and (pairs / 65536) 0x0000_00ff_0000_00ff * 42949672960001 % 2 ^ 64) % 2 ^ 64 / 2 ^ 32
    ≡ p * 1000000 + q * 10000 + r * 100 + s
combined p q r s x y z w pairs P Q R S X Y Z W e =
    let high : pairs / 2 ^ 32 ≡ (z + 2 ^ 8 * s + 2 ^ 16 * w) * 256 + r = omega arith in
    let low : pairs % 2 ^ 32 ≡ (x + 2 ^ 8 * q + 2 ^ 16 * y) * 256 + p = omega arith in
    let down : pairs / 65536 ≡ (((w * 256) + s) * 2 ^ 32) + ((y + 2 ^ 8 * r + 2 ^ 16 * z) * 256 + q) = omega arith in
    let a : pairs / 2 ^ 32 % 256 ≡ r = rw high (digits_mod _ (below r R)) in
    let b : pairs % 2 ^ 32 % 256 ≡ p = rw low (digits_mod _ (below p P)) in
    let part : (y + 2 ^ 8 * r + 2 ^ 16 * z) * 256 + q < 2 ^ 32 = omega arith in
    let c : pairs / 65536 / 2 ^ 32 % 256 ≡ s = rw (down, digits_div _ part) (digits_mod _ (below s S)) in
    let d : pairs / 65536 % 2 ^ 32 % 256 ≡ q = rw (down, digits_mod _ part) (digits_mod _ (below q Q)) in
    rw (masked pairs, masked (pairs / 65536), a, b, c, d, first p r P R, second q s Q S) (last p q r s P Q R S)

-- the three multiplications give the number that eight digits write
pub eight_is : (ds : List ℕ) (word : ℕ) → IsEight 10 ds → word ≡ number_l 256 ds → worth word ≡ number_from_digits 10 ds
eight_is [] word h e = absurd (omega arith)
eight_is (a ∷ []) word h e = absurd (omega arith)
eight_is (a ∷ b ∷ []) word h e = absurd (omega arith)
eight_is (a ∷ b ∷ c ∷ []) word h e = absurd (omega arith)
eight_is (a ∷ b ∷ c ∷ d ∷ []) word h e = absurd (omega arith)
eight_is (a ∷ b ∷ c ∷ d ∷ f ∷ []) word h e = absurd (omega arith)
eight_is (a ∷ b ∷ c ∷ d ∷ f ∷ g ∷ []) word h e = absurd (omega arith)
eight_is (a ∷ b ∷ c ∷ d ∷ f ∷ g ∷ i ∷ []) word h e = absurd (omega arith)
eight_is (a ∷ b ∷ c ∷ d ∷ f ∷ g ∷ i ∷ j ∷ k ∷ ds) word h e = absurd (omega arith)
eight_is (a ∷ b ∷ c ∷ d ∷ f ∷ g ∷ i ∷ j ∷ []) word h e =
    let rest = b + 256 * (c + 256 * (d + 256 * (f + 256 * (g + 256 * (i + 256 * (j + 256 * 0)))))) in
    let parts : word ≡ rest * 256 + a = omega arith in
    let small : a < 256 = omega arith in
    let shifted : word / 256 ≡ rest = ap (λ x. x / 256) parts ∙ digits_div rest small in
    let tens : word * 10 < 2 ^ 64 = omega arith in
    let sum : word * 10 + rest < 2 ^ 64 = omega arith in
    let pairs : (word * 10 % 2 ^ 64 + word / 256) % 2 ^ 64
    ≡ 10 * a + b + 2 ^ 8 * (10 * b + c) + 2 ^ 16 * (10 * c + d) + 2 ^ 24 * (10 * d + f) + 2 ^ 32 * (10 * f + g) + 2 ^ 40 * (10 * g + i) + 2 ^ 48 * (10 * i + j) + 2 ^ 56 * (10 * j) =
    rw (mod-eq_of_lt tens, shifted, mod-eq_of_lt sum) (omega arith) in
    combined _ _ _ _ _ _ _ _ _ (omega arith) (omega arith) (omega arith) (omega arith) (omega arith) (omega arith) (omega arith) (omega arith) pairs ∙ omega arith

digit : (x : ℕ) → x < 256 → is_ascii_digit x ≡ true → (less_zero x < 10) × (less_zero x ≡ digit_value x)
digit x byte e =
    let below = tried 256 (λ y. cond (is_ascii_digit y) (ltb (less_zero y) 10) true) refl x byte in
    let same = tried 256 (λ y. cond (is_ascii_digit y) (eqb (less_zero y) (digit_value y)) true) refl x byte in
    let small : ltb (less_zero x) 10 ≡ true = rw e at below in
    let value : eqb (less_zero x) (digit_value x) ≡ true = rw e at same in
    (ltb→lt _ _ (subst T (sym small) tt), eqb→eq _ _ (subst T (sym value) tt))

-- the first n bytes, as values of digits
abbrev AreValues : List ℕ → ℕ → Type 0
AreValues xs n = AllBelowBase 10 (map less_zero (take n xs)) × (map less_zero (take n xs) ≡ map digit_value (take n xs))

values : (xs : List ℕ) (n : ℕ) → AllBelowBase 256 xs → n ≤ prefix_len is_ascii_digit xs → AreValues xs n
values xs zero bytes h = (tt, refl)
values [] (suc n) bytes h = (tt, refl)
values (x ∷ xs) (suc n) bytes h = go (values xs n bytes.1) (is_ascii_digit x) refl h
  where
    go : (n ≤ prefix_len is_ascii_digit xs → AreValues xs n) → (b : Bool) → is_ascii_digit x ≡ b → suc n ≤ cond b (1 + prefix_len is_ascii_digit xs) 0 → AreValues (x ∷ xs) (suc n)
    go rest true e k =
        let r = rest (omega arith) in
        let d = digit x bytes.0 e in
        ((d.0, r.0), λ i. d.1 i ∷ r.1 i)
    go rest false e k = absurd (omega arith)

padded : (k : ℕ) (ds : List ℕ) → AllBelowBase 10 ds
    → AllBelowBase 10 (replicate k 0 ++ ds) × (number_l 256 (replicate k 0 ++ ds) ≡ number_l 256 ds * 256 ^ k) × (number_from_digits 10 (replicate k 0 ++ ds) ≡ number_from_digits 10 ds)
padded zero ds h = (h, omega arith, refl)
padded (suc k) ds h = let r = padded k ds h in ((omega arith, r.0), omega (arith, ap (λ x. number_l 256 ds * x) (pow-suc 256 k)), r.2)

power_pos : (b k : ℕ) → 0 < b → 0 < b ^ k
power_pos b zero p = rw pow-zero (omega arith)
power_pos b (suc k) p = rw pow-suc (mul-pos (power_pos b k p) p)

front : (xs : List ℕ) (n : ℕ) → AllBelowBase 256 xs → number_l 256 xs % 256 ^ n ≡ number_l 256 (take n xs)
front xs zero h = omega arith
front [] (suc n) h = zero-mod _
front (x ∷ xs) (suc n) h =
    let e : x + 256 * number_l 256 xs ≡ number_l 256 xs * 256 + x = omega arith in
    let byte : 0 < 256 = omega arith in
    rw (pow-suc, e, mod-mul _ (power_pos 256 n byte) byte, digits_div _ h.0, digits_mod _ h.0, front xs n h.1) (omega arith)

mod_scaled : (a m c : ℕ) → 0 < m → 0 < c → a * c % (m * c) ≡ a % m * c
mod_scaled a m c M C = rw (mod-mul _ M C, mul-div_cancel a C, mul-mod_left, add-zero)

-- the two shifts of `keep_first` are one
pub bytes_up : (word n : ℕ) → n < 8 → word * 2 ^ (56 - 8 * n) % 2 ^ 64 * 256 % 2 ^ 64 ≡ word * 256 ^ (8 - n) % 2 ^ 64
bytes_up word n h =
    let same : 2 ^ (56 - 8 * n) * 256 ≡ 256 ^ (8 - n) = same_tests 8 (λ k. 2 ^ (56 - 8 * k) * 256) (λ k. 256 ^ (8 - k)) refl n h in
    let whole : word * 2 ^ (56 - 8 * n) % 2 ^ 64 * 256 % 2 ^ 64 ≡ word * 2 ^ (56 - 8 * n) * 256 % 2 ^ 64 = omega arith in
    rw (whole, mul_assoc, same) refl

-- what a word of eight digits is, and the number that they write
pub record Spells (word value : ℕ) : Type 0 where
  pub ds : List ℕ
  pub eight : IsEight 10 ds
  pub word_is : word ≡ number_l 256 ds
  pub value_is : number_from_digits 10 ds ≡ value
  pub small : number_from_digits 10 ds < 100000000

-- Shifted up until the first n lanes are the last, the word has zeros and then the n digits.
pub shifted_is : (xs : List ℕ) (n word : ℕ) → IsEight 256 xs → n ≤ prefix_len is_ascii_digit xs → n ≤ 8 → word ≡ number_l 256 (map less_zero xs) * 256 ^ (8 - n) % 2 ^ 64
    → Spells word (digits_value 10 (take n xs))
shifted_is xs n word eight digits few e =
    let long = eight.0 in
    let v = values xs n eight.1 digits in
    let p = padded (8 - n) (map less_zero (take n xs)) v.0 in
    let ds = replicate (8 - n) 0 ++ map less_zero (take n xs) in
    let lanes = fits_each less_zero (λ x l. xor_lt 8 x 48 l (omega arith)) xs eight.1 in
    let all : 256 ^ n * 256 ^ (8 - n) ≡ 2 ^ 64 = sym (pow-add 256 n (8 - n)) ∙ ap (λ k. 256 ^ k) {y = 8} (omega arith) in
    let places : length ds ≡ 8 = omega (arith, length-append (replicate (8 - n) 0) (map less_zero (take n xs)), length-replicate {A = ℕ} (8 - n) 0, length-map (take n xs) less_zero, length-take n xs) in
    record {
      ds = ds;
      eight = (places, p.0);
      word_is = e ∙ rw (← all, mod_scaled _ _ _ (power_pos 256 n (omega arith)) (power_pos 256 (8 - n) (omega arith)), front _ n lanes, take-map) (sym p.1);
      value_is = p.2 ∙ ap (number_from_digits 10) v.1 ∙ sym (digits_value_is 10 (take n xs));
      small = rw places at (number_lt 10 ds p.0);
    }

-- the word that eight bytes are loaded as
pub loaded : (bs : List ℕ) → length bs ≡ 8 → from_le_bytes w64 bs ≡ number_l 256 bs
loaded [] h = absurd (omega arith)
loaded (a ∷ []) h = absurd (omega arith)
loaded (a ∷ b ∷ []) h = absurd (omega arith)
loaded (a ∷ b ∷ c ∷ []) h = absurd (omega arith)
loaded (a ∷ b ∷ c ∷ d ∷ []) h = absurd (omega arith)
loaded (a ∷ b ∷ c ∷ d ∷ f ∷ []) h = absurd (omega arith)
loaded (a ∷ b ∷ c ∷ d ∷ f ∷ g ∷ []) h = absurd (omega arith)
loaded (a ∷ b ∷ c ∷ d ∷ f ∷ g ∷ i ∷ []) h = absurd (omega arith)
loaded (a ∷ b ∷ c ∷ d ∷ f ∷ g ∷ i ∷ j ∷ k ∷ bs) h = absurd (omega arith)
loaded (a ∷ b ∷ c ∷ d ∷ f ∷ g ∷ i ∷ j ∷ []) h = omega arith

-- ---- eight bytes of a text

bytes_of : (xs : List ℕ) → ((k : ℕ) → get_or xs k 0 < 256) → AllBelowBase 256 xs
bytes_of [] h = tt
bytes_of (x ∷ xs) h = (h 0, bytes_of xs (λ k. h (suc k)))

pub eight_bytes : (bs : List ℕ) → length bs ≡ 8 → ((k : ℕ) → get_or bs k 0 < 256) → IsEight 256 bs
eight_bytes bs long fits = (long, bytes_of bs fits)

pub eight_lanes : (bs : List ℕ) → IsEight 256 bs → IsEight 256 (map less_zero bs)
eight_lanes bs eight = (length-map bs less_zero ∙ eight.0, fits_each less_zero (λ x l. xor_lt 8 x 48 l (omega arith)) bs eight.1)

module _ (bs : List ℕ) (eight : IsEight 256 bs) (flags : ℕ) (are : flags ≡ number_l 256 (map flag_from_ten (map less_zero bs))) where
  pub no_other : flags ≡ 0 → prefix_len is_ascii_digit bs ≡ 8
  no_other none = sym (below_ten_are bs eight.1) ∙ no_flag (map less_zero bs) (sym are ∙ none) ∙ (eight_lanes bs eight).0

  pub first_other : 0 < flags → (count_trailing_zeros 64 flags / 8 ≡ prefix_len is_ascii_digit bs) × (prefix_len is_ascii_digit bs < 8)
  first_other some =
      let f = first_flag (map less_zero bs) (rw are at some) in
      let digits = below_ten_are bs eight.1 in
      let bits : 8 * length (map less_zero bs) ≡ 64 = omega (arith, (eight_lanes bs eight).0) in
      let place = (λ i. count_trailing_zeros (sym bits i) (are i)) ∙ f.0 in
      (omega (arith, place, digits), omega (arith, f.1, digits, (eight_lanes bs eight).0))

-- the word as a whole spells eight digits
pub whole : (bs : List ℕ) (word : ℕ) → IsEight 256 bs → word ≡ number_l 256 (map less_zero bs) → word < 2 ^ 64 → prefix_len is_ascii_digit bs ≡ 8 → Spells word (digits_value 10 (take 8 bs))
whole bs word eight is small all = shifted_is bs 8 word eight (omega (arith, all)) (omega arith) (omega (arith, is, small))

-- moved up, it spells the digits at the front
pub part : (bs : List ℕ) (lanes word count : ℕ) → IsEight 256 bs → lanes ≡ number_l 256 (map less_zero bs) → word ≡ lanes * 256 ^ (8 - count) % 2 ^ 64
    → (count ≡ prefix_len is_ascii_digit bs) × (prefix_len is_ascii_digit bs < 8) → Spells word (digits_value 10 (take count bs))
part bs lanes word count eight is moved first = shifted_is bs count word eight (omega (arith, first.0)) (omega (arith, first.0, first.1)) (moved ∙ ap (λ l. l * 256 ^ (8 - count) % 2 ^ 64) is)
