use Rattle.std.proofs.Common.{take}
use Rattle.candidate_search.specs.inside.Boxes.{HoldsPoints}
use Rattle.candidate_search.specs.inside.Placed.{points_of}
use Rattle.candidate_search.proofs.boxes.extent_of.Given as goal

abbrev pub invariant-loop-point : goal.invariant-loop-point
invariant-loop-point l = HoldsPoints (points_of (take l.point-index l.group)) l.extent
