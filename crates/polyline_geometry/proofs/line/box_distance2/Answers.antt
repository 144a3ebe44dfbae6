use Rattle.std.proofs.Common.{arith}
use Rattle.polyline_geometry.specs.Plane.{distance2, share, snapped}
use Rattle.polyline_geometry.proofs.Boxes.{snapped_in_box}
use Rattle.polyline_geometry.proofs.line.box_distance2.Goals as goal

pub returns : goal.returns
returns c =
    let q = snapped c.args.a c.args.b (share c.args.a c.args.b c.args.p) (distance2 c.args.b c.args.a) in
    let near = c.nearest_in_box.ensures.nearest q (snapped_in_box c.args.a c.args.b c.args.p c.requires.ends.differ) in
    omega (arith, near, c.distance2.ensures.value)
