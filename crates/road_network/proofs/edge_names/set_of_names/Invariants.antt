use Rattle.std.proofs.Common.{take}
use Rattle.road_network.specs.inside.EdgeNames.{HasNames, names_of}
use Rattle.road_network.proofs.edge_names.set_of_names.Given as goal

abbrev pub invariant-loop-edge : goal.invariant-loop-edge
invariant-loop-edge l = HasNames l.names.keys (names_of (take l.edge-index l.edges))
