use Rattle.std.proofs.Common.{◌-◌, ◌∙◌, ap, drop, length, length-drop, length-take-le, sym, take, arith}
use Rattle.std.proofs.lemmas.List.{take-take}
use Rattle.std.proofs.lemmas.Slice.{take-put_mid_below}
use Rattle.decimal_text.proofs.Laws.{length-decimal}
use Rattle.decimal_text.proofs.worded.put_worded.Goals as goal

pub write_digits-start-requires : goal.write_digits-start-requires
write_digits-start-requires c =
    let long = (length-decimal c.args.number (omega arith)).1 in
    (omega (arith, long), omega arith)

pub overflow_sub-front : goal.overflow_sub-front
overflow_sub-front c =
    let long = (length-decimal c.args.number (omega arith)).1 in
    omega (arith, long)

pub copy_from_slice-requires : goal.copy_from_slice-requires
copy_from_slice-requires c =
    let long = (length-decimal c.args.number (omega arith)).1 in
    let front = c.write_digits-start.result - length c.args.word.now in
    let rest = drop front c.write_digits-start.new.buf in
    length-take-le (c.write_digits-start.result - front) rest (omega (arith, long, c.write_digits-start.auto.buf, length-drop front c.write_digits-start.new.buf)) ∙ omega (arith, long)

pub returns-clause-near : goal.returns-clause-near
returns-clause-near c =
    let long = (length-decimal c.args.number (omega arith)).1 in
    omega (arith, long)

pub returns-clause-front : goal.returns-clause-front
returns-clause-front c =
    let long = (length-decimal c.args.number (omega arith)).1 in
    let start = c.write_digits-start.result in
    let front = start - length c.args.word.now in
    let bytes = c.write_digits-start.new.buf in
    take-put_mid_below front (start - front) bytes _ front (omega arith) (omega (arith, long, c.write_digits-start.auto.buf))
    ∙ sym (take-take front start bytes (omega arith)) ∙ ap (take front) c.write_digits-start.ensures.before ∙ take-take front start c.args.bytes.now (omega arith)
