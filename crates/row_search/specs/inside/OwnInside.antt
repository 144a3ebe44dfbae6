-- What own rows are made of.
use Rattle.std.specs.Prelude.{ℕ, ◌≡◌, ◌≤◌, List, [], Option, Some, length, map, slice_get}
use Rattle.road_network.specs.Net.{IsLawful}
use Rattle.row_search.specs.declared.own_rows.OwnRows.TheInside.{Inside}
use Rattle.bounded_table.specs.Known.{known_nodes}
use Rattle.bounded_table.specs.RowValue.{row_of}
use Rattle.bounded_table.specs.Rows.{RowsState}
use Rattle.bounded_table.specs.Table.{BoundedTable, TableRow, IsRow}

abbrev pub own_rows : Inside → RowsState
own_rows a = record {
  network = a.searcher.network;
  bound = a.searcher.bound;
  source = [];
  known = known_nodes a.rows.items;
  held = [];
}

-- one place for each node, and a row in a place is that of the node
pub record HoldsRows (table : BoundedTable) (places : List (Option TableRow)) : Type 0 where
  pub places_count : length places ≡ length table.network.nodes
  pub rows : (k : ℕ) (row : TableRow) → slice_get places k ≡ Some (Some row) → IsRow table.network table.bound k row

-- the rows found are those of the known nodes, by rising number, whatever table the places hold rows of
abbrev pub AreHeldRows : List (Option TableRow) → List TableRow → Type 0
AreHeldRows places found =
    (table : BoundedTable) → IsLawful table.network → HoldsRows table places
    → found ≡ map (row_of table.network table.bound) (known_nodes places)

pub record IsKept (a : Inside) : Type 0 where
  pub few : length a.rows.items ≤ 1_000_000_000
  pub holds : HoldsRows a.searcher a.rows.items
  pub counted : a.count ≡ length (known_nodes a.rows.items)
