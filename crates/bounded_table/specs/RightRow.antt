-- Whether a row is that of its origin, as a value. Nothing computes it: the law `RightRows` says what it tells.
use Rattle.std.specs.Prelude.{ℕ, ◌==◌, ◌&&◌, Bool, nat_lt, length}
use Rattle.std.specs.Option.{option_eq}
use Rattle.std.specs.Cmp.Lexicographic.{pointwise}
use Rattle.road_network.specs.Net.{Net, HasNode}
use Rattle.bounded_table.specs.declared.table_row.Entry.{Entry}
use Rattle.bounded_table.specs.RowValue.{row_of}
use Rattle.bounded_table.specs.Table.{IsRow, TableRow}

abbrev pub is_same_entry : Entry → Entry → Bool
is_same_entry x y =
    (x.node.0 == y.node.0)
    && ((x.distance == y.distance)
    && option_eq (λ e f. e.0 == f.0) x.last y.last)

-- whether a row is that of its origin, which is a node of the network
abbrev pub is_right_row : Net → ℕ → TableRow → Bool
is_right_row n bound row =
    nat_lt row.origin (length n.nodes)
    && pointwise is_same_entry row.entries (row_of n bound row.origin).entries

-- a row is that of its origin, which is a node of the network
pub record IsRightRow (n : Net) (bound : ℕ) (row : TableRow) : Type 0 where
  pub node : HasNode n row.origin
  pub own : IsRow n bound row.origin row
