use Rattle.std.proofs.Common.{arith}
use Rattle.polyline_geometry.proofs.Lengths.{line_length_take}
use Rattle.polyline_geometry.proofs.offsets.distance_before.Goals as goal

pub returns-else-i-eq0 : goal.returns-else-i-eq0
returns-else-i-eq0 c =
    let e = line_length_take c.args.line.now c.args.i (omega arith) c.requires.inside in
    omega (arith, e, c.straight.ensures.value)
