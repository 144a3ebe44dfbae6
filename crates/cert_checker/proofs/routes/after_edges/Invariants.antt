use Rattle.std.proofs.Common.{Some, take}
use Rattle.route_rebuild.specs.Numbers.{numbers}
use Rattle.cert_checker.specs.inside.Legs.{IsLeftAfter}
use Rattle.cert_checker.proofs.routes.after_edges.Given as goal

abbrev pub invariant-loop-edge : goal.invariant-loop-edge
invariant-loop-edge l = IsLeftAfter l.net l.names (numbers (take l.edge-index l.edges)) (Some l.left)
