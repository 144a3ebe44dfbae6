use Rattle.std.proofs.Common.{arith, sym, ◌∙◌}
use Rattle.decimal_text.proofs.Spelling.{digits_more, fewer_digits, value_more, small_more}
use Rattle.decimal_text.proofs.number.narrow_value.Goals as goal

pub loop-byte-preserved : goal.loop-byte-preserved
loop-byte-preserved c =
    let inv = c.loop-byte.invariant in
    record {
      digits = digits_more _ _ c.loop-byte-test.true inv.digits (sym c.is_ascii_digit.ensures.value ∙ c.if-not-is_ascii_digit.false);
      value = value_more _ _ _ _ c.loop-byte-test.true inv.value (grind arith);
      small = small_more _ _ _ inv.small (grind arith);
    }

pub overflow_mul-value : goal.overflow_mul-value
overflow_mul-value c =
    let small = fewer_digits c.loop-byte.byte-index 18 c.loop-byte.value (omega arith) c.loop-byte.invariant.small in
    omega (arith, small)

pub overflow_add-value : goal.overflow_add-value
overflow_add-value c =
    let small = fewer_digits c.loop-byte.byte-index 18 c.loop-byte.value (omega arith) c.loop-byte.invariant.small in
    omega (arith, small, c.from.type_inv)
