use Rattle.std.proofs.Common.{◌≡◌, ◌++◌, length, All}
use Rattle.polyline_geometry.specs.Plane.{InRange}
use Rattle.road_network.specs.NetworkFile.{both, line_of, unless}
use Rattle.road_network.proofs.fields.read_line.Given as goal

abbrev pub invariant-loop-fault : goal.invariant-loop-fault
invariant-loop-fault l = record {
  read : line_of l.field ≡ both (λ a b. a ++ b) (unless l.fault l.line) (line_of l.rest);
  within : All InRange l.line;
}

abbrev pub decreases-loop-fault : goal.decreases-loop-fault
decreases-loop-fault l = length l.rest
