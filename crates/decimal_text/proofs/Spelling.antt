-- The cases of reading a number.
use Rattle.std.proofs.Common.{◌≡◌, ℕ, ◌+◌, ◌-◌, ◌*◌, ◌^◌, ◌<◌, ◌≤◌, true, false, List, length, take, drop, get_or, pos, neg_ℤ, Ok, Err, cond, ap, ◌∙◌, add-one, arith, refl}
use Rattle.std.specs.List.{list_all}
use Rattle.std.specs.Char.{is_ascii_digit, digit_value}
use Rattle.std.specs.Str.Parse.{digits_value, starts_with_minus}
use Rattle.std.proofs.lemmas.Int.Digits.{digits_value_more}
use Rattle.std.proofs.lemmas.List.Folds.{list_all_more}
use Rattle.std.proofs.lemmas.List.{take_all}
use Rattle.std.proofs.Math.Nat.{pow-le-pow_right, pow-suc}
use Rattle.std.proofs.lemmas.Grind.{common_steps}
use Rattle.decimal_text.specs.declared.number.NumberFault.{NumberFault}
use Rattle.decimal_text.specs.declared.number.NumberFault.TheVariants.{Misspelt, OutOfRange}
use Rattle.decimal_text.specs.Number.{is_unsigned, unsigned_within, signed_within}

pub unsigned_misspelt : (most : ℕ) (text : List ℕ) → is_unsigned text ≡ false → Err Misspelt ≡ unsigned_within most text
unfolding unsigned_within
unsigned_misspelt most text h = rw h

pub unsigned_ok : (most n : ℕ) (text : List ℕ) → is_unsigned text ≡ true → n ≡ digits_value 10 text → n ≤ most → Ok n ≡ unsigned_within most text
unfolding unsigned_within
unsigned_ok most n text h e small = grind (arith, common_steps)

pub unsigned_out_of_range : (most n : ℕ) (text : List ℕ) → is_unsigned text ≡ true → n ≡ digits_value 10 text → most < n → Err OutOfRange ≡ unsigned_within most text
unfolding unsigned_within
unsigned_out_of_range most n text h e large = grind (arith, common_steps)

-- a signed number by its sign
pub signed_minus_ok : (most n : ℕ) (text digits : List ℕ) → starts_with_minus text ≡ true → digits ≡ drop (cond (starts_with_minus text) 1 0) text → Ok n ≡ unsigned_within most digits → Ok (neg_ℤ (pos n)) ≡ signed_within most text
unfolding signed_within
signed_minus_ok most n text digits minus rest h =
    let e : digits ≡ drop 1 text = rest ∙ ap (λ b. drop (cond b 1 0) text) minus in rw (minus, ← e, ← h)

pub signed_plain_ok : (most n : ℕ) (text digits : List ℕ) → starts_with_minus text ≡ false → digits ≡ drop (cond (starts_with_minus text) 1 0) text → Ok n ≡ unsigned_within most digits → Ok (pos n) ≡ signed_within most text
unfolding signed_within
signed_plain_ok most n text digits plain rest h =
    let e : digits ≡ text = rest ∙ ap (λ b. drop (cond b 1 0) text) plain in rw (plain, ← e, ← h)

pub signed_err : (most : ℕ) (fault : NumberFault) (text digits : List ℕ) → digits ≡ drop (cond (starts_with_minus text) 1 0) text
    → Err fault ≡ unsigned_within most digits → Err fault ≡ signed_within most text
unfolding signed_within
signed_err most fault text digits d h = grind (arith, common_steps)

pub digits_more : (text : List ℕ) (i : ℕ) → i < length text → list_all is_ascii_digit (take i text) ≡ true → is_ascii_digit (get_or text i 0) ≡ true → list_all is_ascii_digit (take (i + 1) text) ≡ true
digits_more text i h all one = rw (list_all_more is_ascii_digit text i 0 h, all, one)

pub value_more : (text : List ℕ) (i value digit : ℕ) → i < length text → value ≡ digits_value 10 (take i text) → digit ≡ digit_value (get_or text i 0) → value * 10 + digit ≡ digits_value 10 (take (i + 1) text)
value_more text i value digit h v d = rw (digits_value_more 10 text i h, v, d)

-- one more digit
pub small_more : (i value digit : ℕ) → value < 10 ^ i → digit < 10 → value * 10 + digit < 10 ^ (i + 1)
small_more i value digit small one = rw (add-one, pow-suc) (omega arith)

-- what n digits write is below 10 ^ m, where there are no more than m
pub fewer_digits : (n m value : ℕ) → n ≤ m → value < 10 ^ n → value < 10 ^ m
fewer_digits n m value le small =
    let more : 10 ^ n ≤ 10 ^ m = pow-le-pow_right (omega arith) le in
    omega (arith, more, small)

pub last_digit : (byte last : ℕ) → is_ascii_digit byte ≡ true → last ≡ byte - 48 → last ≡ digit_value byte
last_digit byte last h e = grind arith

-- 20 digits: the first 19 and the last
pub twenty_digits : (text : List ℕ) (head last : ℕ) → length text ≡ 20 → list_all is_ascii_digit (take (length text - 1) text) ≡ true
    → head ≡ digits_value 10 (take (length text - 1) text) → is_ascii_digit (get_or text (length text - 1) 0) ≡ true → last ≡ get_or text (length text - 1) 0 - 48
    → (is_unsigned text ≡ true) × (head * 10 + last ≡ digits_value 10 text)
twenty_digits text head last count all value digit last-is =
    let n : ℕ = length text - 1 in
    let inside : n < length text = omega arith in
    let whole : take (n + 1) text ≡ text = take_all (n + 1) text (omega arith) in
    let digits : list_all is_ascii_digit text ≡ true = rw whole at (digits_more text n inside all digit) in
    let is : last ≡ digit_value (get_or text n 0) = last_digit (get_or text n 0) last digit last-is in
    (rw (digits, count) refl, rw whole at (value_more text n head last inside value is))
