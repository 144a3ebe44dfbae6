use Rattle.std.proofs.Common.{◌≡◌, take}
use Rattle.std.specs.List.{filter}
use Rattle.candidate_search.specs.inside.Boxes.{touches}
use Rattle.candidate_search.proofs.boxes.boxes_near.Given as goal

abbrev pub invariant-loop-edge_box : goal.invariant-loop-edge_box
invariant-loop-edge_box l = l.near.items ≡ filter (λ b. touches l.area b.extent) (take l.edge_box-index l.boxes)
