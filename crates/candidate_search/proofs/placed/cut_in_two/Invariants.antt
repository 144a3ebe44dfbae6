use Rattle.std.proofs.Common.{take}
use Rattle.std.specs.List.Sorted.{IsPermutation}
use Rattle.candidate_search.specs.inside.Placed.{both}
use Rattle.candidate_search.proofs.placed.cut_in_two.Given as goal

abbrev pub invariant-loop-point : goal.invariant-loop-point
invariant-loop-point l = IsPermutation (take l.point-index l.group) (both l.halves)
