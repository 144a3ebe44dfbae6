use Rattle.std.proofs.Common.{◌↔◌, drop}
use Rattle.bounded_table.specs.Table.{RisesFrom}
use Rattle.bounded_table.proofs.table_row.rises.Given as goal

abbrev pub invariant-loop-x : goal.invariant-loop-x
invariant-loop-x l = RisesFrom 0 l.entries ↔ RisesFrom l.next (drop l.x-index l.entries)
