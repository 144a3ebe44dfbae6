use Rattle.bounded_table.specs.Rows.{AsksAll}
use Rattle.route_rebuild.specs.Numbers.{numbers}
use Rattle.route_rebuild.proofs.RouteSoFar.{IsSoFar, IsWalkStartBefore}
use Rattle.route_rebuild.proofs.routes.follow.Given as goal

abbrev pub invariant-loop-i : goal.invariant-loop-i
invariant-loop-i g l = record {
  so_far : IsSoFar l.run l.i (numbers l.edges);
  asks : AsksAll (g.R.Rows.state l.fn.rows) (g.R.Rows.state l.rows) (IsWalkStartBefore l.run l.i);
}
