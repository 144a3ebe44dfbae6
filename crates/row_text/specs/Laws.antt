-- A row and its line: each gives the other.
use Rattle.std.specs.Prelude.{ℕ, ◌≡◌, ◌<◌, ◌^◌, List, ◌++◌, Some, IfSome}
use Rattle.std.specs.List.{AllByRecursion}
use Rattle.bounded_table.specs.RowRules.{MeetsRowRules}
use Rattle.bounded_table.specs.Table.{TableRow}
use Rattle.bounded_table.specs.declared.table_row.Entry.{Entry}
use Rattle.row_text.specs.RowLine.{row_line}
use Rattle.row_text.specs.Reading.{row_at}

-- the numbers of an entry have 32 bits
pub record EntryFits (x : Entry) : Type 0 where
  pub node : x.node.0 < 2 ^ 32
  pub distance : x.distance < 2 ^ 32
  pub last : IfSome x.last (λ e. e.0 < 2 ^ 32)

-- a row that a `Row` can hold: it meets the three rules, and its numbers have 32 bits
pub record IsRowValue (row : TableRow) : Type 0 where
  pub rules : MeetsRowRules row
  pub origin : row.origin < 2 ^ 32
  pub entries : AllByRecursion EntryFits row.entries

-- what is written of a row is read as this row
abbrev pub RowsReadBack : Type 0
RowsReadBack =
    (row : TableRow) (rest : List ℕ) → IsRowValue row
    → row_at (row_line row ++ rest) ≡ Some (row, rest)

-- what is read as a row is its line
abbrev pub RowsHaveOneLine : Type 0
RowsHaveOneLine =
    (row : TableRow) (text rest : List ℕ) → row_at text ≡ Some (row, rest)
    → IsRowValue row × (text ≡ row_line row ++ rest)
