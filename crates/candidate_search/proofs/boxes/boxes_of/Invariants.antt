use Rattle.std.proofs.Common.{◌≡◌, All, map}
use Rattle.std.specs.List.{range_with_len}
use Rattle.candidate_search.specs.inside.Boxes.{IsEdgeBox}
use Rattle.candidate_search.proofs.boxes.boxes_of.Given as goal

abbrev pub invariant-loop-number : goal.invariant-loop-number
invariant-loop-number l = record {
  each : All (IsEdgeBox l.net) l.boxes.items;
  all : map (λ b. b.edge.0) l.boxes.items ≡ range_with_len 0 l.number;
}
