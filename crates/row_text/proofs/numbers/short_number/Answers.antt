use Rattle.std.proofs.Common.{◌≡◌, ◌≤◌, ℕ, List, Some, sym, ◌∙◌, ap, arith, length, take, length-take-le}
use Rattle.std.specs.List.{prefix_len}
use Rattle.std.specs.Char.{is_ascii_digit}
use Rattle.decimal_text.specs.Number.{has_leading_zero}
use Rattle.row_text.proofs.ShortNumbers.{leading_zero, no_digits, spelt}
use Rattle.row_text.proofs.numbers.short_number.Goals as goal

pub returns-then-is_empty : goal.returns-then-is_empty
returns-then-is_empty c =
    let read = c.digits_at_front-number in
    let count : prefix_len is_ascii_digit c.args.text.now ≡ read.result.1 = read.ensures.all (omega (arith, read.ensures.few, c.if-count-eq-MANY_DIGITS.false)) in
    let short = c.split_at.ensures.front_len in
    let empty : length c.split_at.result.0.now ≡ 0 = grind arith in
    let none : read.result.1 ≡ 0 = omega (arith, short, empty) in
    sym (no_digits c.args.text.now (count ∙ none))

pub returns-then-has_leading_zero : goal.returns-then-has_leading_zero
returns-then-has_leading_zero c =
    let read = c.digits_at_front-number in
    let count : prefix_len is_ascii_digit c.args.text.now ≡ read.result.1 = read.ensures.all (omega (arith, read.ensures.few, c.if-count-eq-MANY_DIGITS.false)) in
    sym (leading_zero c.args.text.now read.result.1 count (ap has_leading_zero (sym c.split_at.ensures.front) ∙ (sym c.has_leading_zero.ensures ∙ c.if-has_leading_zero.true)))

pub returns : goal.returns
returns c =
    let read = c.digits_at_front-number in
    let text = c.args.text.now in
    let count : prefix_len is_ascii_digit text ≡ read.result.1 = read.ensures.all (omega (arith, read.ensures.few, c.if-count-eq-MANY_DIGITS.false)) in
    let leading = ap has_leading_zero (sym c.split_at.ensures.front) ∙ (sym c.has_leading_zero.ensures ∙ c.if-has_leading_zero.false) in
    let long : length (take read.result.1 text) ≡ read.result.1 = length-take-le read.result.1 text read.ensures.few.0 in
    let short = c.split_at.ensures.front_len in
    let some : 1 ≤ length c.split_at.result.0.now = grind arith in
    ap (λ (rest : List ℕ). Some (read.result.0, rest)) c.split_at.ensures.back
    ∙ sym (spelt text read.result.1 read.result.0 count leading read.ensures.digits (omega (arith, long, short, some)) (omega (arith, long, read.ensures.few)) read.ensures.value read.ensures.small)
