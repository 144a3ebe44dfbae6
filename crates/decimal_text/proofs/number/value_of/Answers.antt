use Rattle.std.proofs.Common.{arith, sym, ◌∙◌}
use Rattle.decimal_text.proofs.Spelling.{twenty_digits}
use Rattle.decimal_text.proofs.number.value_of.Goals as goal

pub returns : goal.returns
returns c =
    let head = c.in_ok-narrow_value-2.ensures {u = tt} in
    twenty_digits c.args.text.now c.from-2.result c.from-3.result (omega arith) head.0 (c.from-2.ensures ∙ head.1) (sym c.is_ascii_digit.ensures.value ∙ c.if-not-is_ascii_digit.false) c.from-3.ensures
