use Rattle.std.proofs.Common.{◌+◌, arith}
use Rattle.polyline_geometry.proofs.Lengths.{line_length_front, line_length_take}
use Rattle.polyline_geometry.proofs.line.sum_of_segments.Goals as goal

pub overflow_add-total : goal.overflow_add-total
overflow_add-total c =
    let e = line_length_take c.args.line.now c.loop-i.i c.loop-i.auto.i c.loop-i-test.true in
    let front = line_length_front c.args.line.now (c.loop-i.i + 1) in
    omega (arith, e, front, c.straight.ensures.value, c.loop-i.invariant, c.requires.fits)

pub loop-i-preserved : goal.loop-i-preserved
loop-i-preserved c =
    let e = line_length_take c.args.line.now c.loop-i.i c.loop-i.auto.i c.loop-i-test.true in
    omega (arith, e, c.straight.ensures.value, c.loop-i.invariant, c.from-total.ensures)
