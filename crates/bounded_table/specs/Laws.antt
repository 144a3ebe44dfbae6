-- What the definitions alone say of tables and rows.
use Rattle.std.specs.Prelude.{ℕ, ◌≡◌, ◌+◌, ◌↔◌, IsTrue, List, ◌∷◌, Option, Some}
use Rattle.road_network.specs.Net.{Net, HasEdge, HasNode, IsLawful, source, span, target}
use Rattle.road_network.specs.Walk.{IsLeastWalk}
use Rattle.road_network.specs.declared.EdgeId.{EdgeId}
use Rattle.bounded_table.specs.declared.table_row.Entry.{Entry}
use Rattle.bounded_table.specs.declared.table_row.Label.{Label}
use Rattle.bounded_table.specs.Table.{IsTable, IsRow, TableRow, entry_in}
use Rattle.bounded_table.specs.Closed.{IsClosed}
use Rattle.bounded_table.specs.RightRow.{IsRightRow, is_right_row}
use Rattle.bounded_table.specs.RowValue.{row_of}

-- a table is that of its origin exactly where it is closed
abbrev pub ClosedTables : Type 0
ClosedTables = (n : Net) (bound s : ℕ) (table : ℕ → Option Label) → IsLawful n → IsClosed n bound s table ↔ IsTable n bound s table

-- two rows of one origin are the same
abbrev pub OneRow : Type 0
OneRow = (n : Net) (bound s : ℕ) (row other : TableRow) → IsRow n bound s row → IsRow n bound s other → row ≡ other

-- a row is that of a node exactly where it is the value
abbrev pub RowValues : Type 0
RowValues = (n : Net) (bound s : ℕ) (row : TableRow) → IsLawful n → HasNode n s → IsRow n bound s row ↔ (row ≡ row_of n bound s)

-- a row is tested right exactly where it is the row of its origin, a node of the network
abbrev pub RightRows : Type 0
RightRows = (n : Net) (bound : ℕ) (row : TableRow) → IsLawful n → IsTrue (is_right_row n bound row) ↔ IsRightRow n bound row

-- e is the last edge of the least walk to the node of x: it comes from a listed node, and continues the least walk to that one
pub record EndsBy (n : Net) (row : TableRow) (x : Entry) (e : ℕ) : Type 0 where
  pub has : HasEdge n e
  pub ends : target n e ≡ x.node.0
  pub before : Entry
  pub listed : entry_in row.entries (source n e) ≡ Some before
  pub distance : before.distance + span n e ≡ x.distance
  pub walks : (w : List ℕ) → IsLeastWalk n row.origin w (source n e) → IsLeastWalk n row.origin (e ∷ w) x.node.0

-- so it is with each last edge of a row
abbrev pub LastEdgesLead : Type 0
LastEdgesLead =
    (n : Net) (bound s : ℕ) (row : TableRow) (v : ℕ) (x : Entry) (e : EdgeId)
    → IsLawful n → IsRow n bound s row → entry_in row.entries v ≡ Some x → x.last ≡ Some e
    → EndsBy n row x e.0
