use Rattle.std.proofs.Common.{◌≡◌, map, take}
use Rattle.road_network.specs.Net.{edge_name}
use Rattle.route_rebuild.specs.Numbers.{numbers}
use Rattle.trace_match.proofs.names.names.Given as goal

abbrev pub invariant-loop-edge : goal.invariant-loop-edge
invariant-loop-edge l = l.names.items ≡ map (edge_name l.net) (numbers (take l.edge-index l.edges))
