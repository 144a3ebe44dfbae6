use Rattle.polyline_geometry.proofs.Nearest.{IsNearestSoFar}
use Rattle.polyline_geometry.proofs.line.nearest_segment.Given as goal

abbrev pub invariant-loop-i : goal.invariant-loop-i
invariant-loop-i l = IsNearestSoFar l.line l.fn.p l.fn.limit l.fn.first l.i l.nearest l.below
