-- The digits at the front of a text, of which the first eight are looked at together.
use Rattle.std.proofs.Common.{◌≡◌, ℕ, zero, suc, ◌+◌, ◌<◌, ◌≤◌, ◌&&◌, Bool, true, false, cond, List, [], ◌∷◌, length, take, get_or, refl, sym, ap, ◌∙◌, one-add, length-take-le, take-take, get_or-take, arith}
use Rattle.std.specs.List.{list_all, prefix_len}
use Rattle.std.specs.Char.{is_ascii_digit}
use Rattle.std.proofs.lemmas.List.Sums.{prefix_len-le-length}

both : (a b : Bool) → a && b ≡ true → (a ≡ true) × (b ≡ true)
both true b h = (refl, h)
both false b h = absurd cc

-- where no digit follows them, they are all digits at the front
pub all_digits : (text : List ℕ) (count : ℕ) → count ≤ length text → list_all is_ascii_digit (take count text) ≡ true → (count < length text → is_ascii_digit (get_or text count 0) ≡ false) → prefix_len is_ascii_digit text ≡ count
all_digits [] count inside digits ends = omega (arith, inside)
all_digits (b ∷ bs) zero inside digits ends = rw (ends (omega arith)) refl
all_digits (b ∷ bs) (suc count) inside digits ends =
    let parts = both (is_ascii_digit b) (list_all is_ascii_digit (take count bs)) digits in
    let more = all_digits bs count (omega (arith, inside)) parts.1 (λ below. ends (omega (arith, below))) in
    rw parts.0 (omega (arith, more))

-- ---- the digits of the first eight bytes

pub digits_taken : (xs : List ℕ) → list_all is_ascii_digit (take (prefix_len is_ascii_digit xs) xs) ≡ true
digits_taken [] = refl
digits_taken (x ∷ xs) = by (digits_taken xs) (is_ascii_digit x) refl
  where
    by : list_all is_ascii_digit (take (prefix_len is_ascii_digit xs) xs) ≡ true → (b : Bool) → is_ascii_digit x ≡ b → list_all is_ascii_digit (take (cond b (1 + prefix_len is_ascii_digit xs) 0) (x ∷ xs)) ≡ true
    by more true one = rw (one-add, one, more) refl
    by more false one = refl

pub other_after : (xs : List ℕ) → is_ascii_digit (get_or xs (prefix_len is_ascii_digit xs) 0) ≡ false
other_after [] = refl
other_after (x ∷ xs) = by (other_after xs) (is_ascii_digit x) refl
  where
    by : is_ascii_digit (get_or xs (prefix_len is_ascii_digit xs) 0) ≡ false → (b : Bool) → is_ascii_digit x ≡ b → is_ascii_digit (get_or (x ∷ xs) (cond b (1 + prefix_len is_ascii_digit xs) 0) 0) ≡ false
    by more true one = rw one-add more
    by more false one = one

-- count digits are at the front of the text, and no more among its first eight bytes
pub record FrontDigits (text : List ℕ) (count : ℕ) : Type 0 where
  pub few : count ≤ 8
  pub digits : list_all is_ascii_digit (take count text) ≡ true
  pub other : count < 8 → is_ascii_digit (get_or text count 0) ≡ false

pub front_digits : (text front : List ℕ) (count : ℕ) → front ≡ take 8 text → 8 ≤ length text → count ≡ prefix_len is_ascii_digit front → FrontDigits text count × (take count front ≡ take count text)
front_digits text front count is long read =
    let eight : length front ≡ 8 = ap length is ∙ length-take-le 8 text long in
    let few : count ≤ 8 = omega (arith, read, eight, prefix_len-le-length is_ascii_digit front) in
    let same : take count front ≡ take count text = ap (take count) is ∙ take-take count 8 text few in (
      record {
        few = few;
        digits = ap (list_all is_ascii_digit) (sym same) ∙ ap (λ n. list_all is_ascii_digit (take n front)) read ∙ digits_taken front;
        other = λ below. ap is_ascii_digit (sym (get_or-take 8 text count 0 below)) ∙ ap (λ xs. is_ascii_digit (get_or xs count 0)) (sym is) ∙ ap (λ n. is_ascii_digit (get_or front n 0)) read
            ∙ other_after front;
      },
      same,
    )
