use Rattle.std.proofs.Common.{take, sym, ap, ◌∙◌, arith}
use Rattle.std.specs.List.{list_all}
use Rattle.std.specs.Char.{is_ascii_digit}
use Rattle.std.specs.Str.Parse.{digits_value}
use Rattle.decimal_text.proofs.FrontDigits.{front_digits, all_digits, digits_taken}
use Rattle.decimal_text.proofs.Spelling.{digits_more, value_more, last_digit}
use Rattle.decimal_text.proofs.front.digits_at_front.Goals.{else-count-eq8-via-then-count-eq8+then-text-gt8+else-is_ascii_digit, else-count-eq8-via-then-count-eq8+else-text-gt8, else-count-eq8-via-else-count-eq8}
use Rattle.decimal_text.proofs.front.digits_at_front.Goals as goal

pub returns-in_default-clause-digits : goal.returns-in_default-clause-digits
returns-in_default-clause-digits c =
    let text = c.args.text.now in
    ap (λ n. list_all is_ascii_digit (take n text)) c.digits_one_by_one.ensures.count ∙ digits_taken text

pub returns-then-is_ascii_digit-clause-digits : goal.returns-then-is_ascii_digit-clause-digits
returns-then-is_ascii_digit-clause-digits c =
    let read = c.digits_of_eight-number in
    let chunk = c.in-Some.ensures.cases in
    let f = front_digits c.args.text.now _ read.result.1 chunk.same chunk.enough read.ensures.count in
    digits_more c.args.text.now 8 c.if-text-gt8.true (rw c.if-count-eq8.true at f.0.digits) (sym c.is_ascii_digit.ensures.value ∙ c.if-is_ascii_digit.true)

pub returns-then-is_ascii_digit-clause-value : goal.returns-then-is_ascii_digit-clause-value
returns-then-is_ascii_digit-clause-value c =
    let read = c.digits_of_eight-number in
    let chunk = c.in-Some.ensures.cases in
    let f = front_digits c.args.text.now _ read.result.1 chunk.same chunk.enough read.ensures.count in
    let value = read.ensures.value ∙ ap (digits_value 10) f.1 in
    value_more c.args.text.now 8 read.result.0 c.from.result c.if-text-gt8.true (rw c.if-count-eq8.true at value) (last_digit _ _ (sym c.is_ascii_digit.ensures.value ∙ c.if-is_ascii_digit.true) c.from.ensures)

pub returns-clause-digits : goal.returns-clause-digits
returns-clause-digits c =
    let read = c.digits_of_eight-number in
    let chunk = c.in-Some.ensures.cases in
    (front_digits c.args.text.now _ read.result.1 chunk.same chunk.enough read.ensures.count).0.digits

pub returns-clause-value : goal.returns-clause-value
returns-clause-value c =
    let read = c.digits_of_eight-number in
    let chunk = c.in-Some.ensures.cases in
    read.ensures.value ∙ ap (digits_value 10) (front_digits c.args.text.now _ read.result.1 chunk.same chunk.enough read.ensures.count).1

pub returns-clause-all : goal.returns-clause-all
returns-clause-all c fewer =
    let read = c.digits_of_eight-number in
    let chunk = c.in-Some.ensures.cases in
    let text = c.args.text.now in
    let f = (front_digits text _ read.result.1 chunk.same chunk.enough read.ensures.count).0 in
    all_digits text read.result.1 (omega (arith, f.few, chunk.enough)) f.digits
    (elim c.else-count-eq8.branch [
      | else-count-eq8-via-then-count-eq8+then-text-gt8+else-is_ascii_digit w ↦ λ below. rw w.if-count-eq8.true (sym w.is_ascii_digit.ensures.value ∙ w.if-is_ascii_digit.false)
      | else-count-eq8-via-then-count-eq8+else-text-gt8 w ↦ λ below. absurd (omega (arith, below, w.if-count-eq8.true, w.if-text-gt8.false))
      | else-count-eq8-via-else-count-eq8 w ↦ λ below. f.other (omega (arith, f.few, w.if-count-eq8.false))
    ])
