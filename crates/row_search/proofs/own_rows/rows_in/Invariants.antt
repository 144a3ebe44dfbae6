use Rattle.std.proofs.Common.{◌≡◌, ◌++◌, length, map}
use Rattle.std.specs.Vec.Iter.{into_iter_items, into_iter_len}
use Rattle.bounded_table.specs.Known.{known_nodes}
use Rattle.road_network.specs.Net.{IsLawful}
use Rattle.row_search.specs.inside.OwnInside.{HoldsRows}
use Rattle.bounded_table.specs.RowValue.{row_of}
use Rattle.bounded_table.specs.Table.{BoundedTable}
use Rattle.row_search.proofs.own_rows.rows_in.Given as goal

abbrev pub invariant-loop-place : goal.invariant-loop-place
invariant-loop-place l = record {
  whole : l.yielded ++ into_iter_items l.place-iterator ≡ l.fn.places.items;
  left : into_iter_len l.place-iterator ≡ length (into_iter_items l.place-iterator);
  found : (table : BoundedTable) → IsLawful table.network → HoldsRows table l.fn.places.items
      → l.found ≡ map (row_of table.network table.bound) (known_nodes l.yielded);
}
