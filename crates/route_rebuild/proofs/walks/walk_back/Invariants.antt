use Rattle.std.proofs.Common.{◌++◌, ℕ, List, Option, Some, None}
use Rattle.road_network.specs.Walk.{IsLeastWalk}
use Rattle.bounded_table.specs.declared.table_row.Entry.{Entry}
use Rattle.bounded_table.specs.Table.{IsRow}
use Rattle.route_rebuild.specs.Numbers.{numbers}
use Rattle.route_rebuild.proofs.StepsBack.{IsFound}
use Rattle.route_rebuild.proofs.walks.walk_back.Given as goal

abbrev pub distance_of : Option Entry → ℕ
distance_of None = 0
distance_of (Some x) = x.distance

abbrev pub invariant-loop-at : goal.invariant-loop-at
invariant-loop-at l = record {
  bound : ℕ;
  row : IsRow l.net bound l.row.origin l.row;
  node : ℕ;
  rest : List ℕ;
  found : IsFound l.net bound l.row.origin l.row.entries node l.at rest;
  whole : IsLeastWalk l.net l.row.origin (numbers l.edges.items ++ rest) l.fn.n.0;
}

abbrev pub decreases-loop-at : goal.decreases-loop-at
decreases-loop-at l = distance_of l.at
