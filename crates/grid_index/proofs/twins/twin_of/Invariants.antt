use Rattle.std.proofs.Common.{All}
use Rattle.road_network.specs.Net.{HasEdge}
use Rattle.grid_index.proofs.twins.twin_of.Given as goal

abbrev pub invariant-loop-arc : goal.invariant-loop-arc
invariant-loop-arc l = All (λ a. HasEdge l.net a.edge.0) l.arc-items
