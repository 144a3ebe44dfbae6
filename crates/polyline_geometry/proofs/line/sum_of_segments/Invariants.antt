use Rattle.std.proofs.Common.{◌≡◌, take}
use Rattle.polyline_geometry.specs.Plane.{line_length}
use Rattle.polyline_geometry.proofs.line.sum_of_segments.Given as goal

abbrev pub invariant-loop-i : goal.invariant-loop-i
invariant-loop-i l = l.total ≡ line_length (take l.i l.line)
