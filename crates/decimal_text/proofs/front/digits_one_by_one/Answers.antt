use Rattle.std.proofs.Common.{arith, sym, ◌∙◌}
use Rattle.decimal_text.proofs.FrontDigits.{all_digits}
use Rattle.decimal_text.proofs.Spelling.{digits_more, value_more, small_more, fewer_digits}
use Rattle.decimal_text.proofs.front.digits_one_by_one.Goals as goal

pub overflow_mul-number : goal.overflow_mul-number
overflow_mul-number c =
    let small = fewer_digits c.loop-count.count 8 c.loop-count.number (omega (arith, c.loop-count-test.true, c.requires)) c.loop-count.invariant.small in
    omega (arith, small)

pub overflow_add-number : goal.overflow_add-number
overflow_add-number c =
    let small = fewer_digits c.loop-count.count 8 c.loop-count.number (omega (arith, c.loop-count-test.true, c.requires)) c.loop-count.invariant.small in
    omega (arith, small, c.from.type_inv)

pub loop-count-preserved : goal.loop-count-preserved
loop-count-preserved c =
    let inv = c.loop-count.invariant in
    let below = c.loop-count-test.true in
    record {
      few = omega (arith, below);
      digits = digits_more c.args.text.now c.loop-count.count below inv.digits (sym c.is_ascii_digit.ensures.value ∙ c.if-is_ascii_digit.true);
      value = value_more c.args.text.now c.loop-count.count c.loop-count.number c.from.result below inv.value (grind arith);
      small = small_more c.loop-count.count c.loop-count.number c.from.result inv.small (grind arith);
    }

pub returns-else-is_ascii_digit-clause-count : goal.returns-else-is_ascii_digit-clause-count
returns-else-is_ascii_digit-clause-count c =
    let inv = c.loop-count.invariant in
    sym (all_digits c.args.text.now c.loop-count.count inv.few inv.digits (λ _. sym c.is_ascii_digit.ensures.value ∙ c.if-is_ascii_digit.false))

pub returns-after-loop-count-clause-count : goal.returns-after-loop-count-clause-count
returns-after-loop-count-clause-count c =
    let inv = c.loop-count.invariant in
    let no_more = c.loop-count-test.false in
    sym (all_digits c.args.text.now c.loop-count.count inv.few inv.digits (λ below. absurd (omega (arith, below, no_more))))
