use Rattle.std.proofs.Common.{◌≡◌, All, length}
use Rattle.std.specs.Vec.Iter.{into_iter_items, into_iter_len}
use Rattle.bounded_table.specs.Table.{TableRow}
use Rattle.road_network.specs.Net.{HasNode}
use Rattle.table_work.specs.Preload.{rows_said}
use Rattle.table_work.proofs.preloading.offer_rows.Given as goal

-- what is said of the rows that are left is said of all
abbrev pub invariant-loop-row : goal.invariant-loop-row
invariant-loop-row l = record {
  left : into_iter_len l.row-iterator ≡ length (into_iter_items l.row-iterator);
  nodes : All (λ (row : TableRow). HasNode l.roads row.origin) (into_iter_items l.row-iterator);
  checker : l.checker ≡ l.initial.checker;
  store : l.reader.store ≡ l.initial.reader.store;
  said : rows_said l.roads l.initial.checker.bound (into_iter_items l.row-iterator)
      ≡ rows_said l.roads l.initial.checker.bound (into_iter_items l.initial.row-iterator);
}
