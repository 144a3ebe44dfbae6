use Rattle.polyline_geometry.proofs.Ties.{AreNearestSoFar}
use Rattle.polyline_geometry.proofs.line.nearest_segments.Given as goal

abbrev pub invariant-loop-i : goal.invariant-loop-i
invariant-loop-i l = AreNearestSoFar l.line l.fn.p l.fn.limit l.fn.first l.i l.nearest l.below
