use Rattle.std.proofs.Common.{◌≡◌, ◌-◌, drop}
use Rattle.polyline_geometry.specs.Plane.{point_at}
use Rattle.road_network.specs.NetworkFile.{repeated_after, repeated_point}
use Rattle.road_network.proofs.draft.repeated_point.Given as goal

abbrev pub invariant-loop-i : goal.invariant-loop-i
invariant-loop-i l = repeated_point l.line ≡ repeated_after l.i (point_at l.line (l.i - 1)) (drop l.i l.line)
