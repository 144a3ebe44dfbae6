-- A table and its text: each gives the other.
use Rattle.std.specs.Prelude.{ℕ, ◌≡◌, ◌+◌, ◌<◌, ◌≤◌, List, [], ◌∷◌, ◌++◌, length, fold, Ok, IfSome}
use Rattle.std.specs.List.{AllByRecursion}
use Rattle.bounded_table.specs.Table.{TableRow}
use Rattle.bounded_table.specs.declared.table_row.Entry.{Entry}
use Rattle.row_text.specs.Laws.{IsRowValue}
use Rattle.table_work.specs.Draft.{Draft, draft_of_no_rows, draft_with_row}
use Rattle.table_work.specs.Reading.{table_of_text}
use Rattle.table_work.specs.TableText.{table_end_line, table_text, table_text_limit}

-- the node and the last edge of an entry are below these numbers of nodes and edges
pub record IsEntryBelow (nodes edges : ℕ) (x : Entry) : Type 0 where
  pub node : x.node.0 < nodes
  pub last : IfSome x.last (λ e. e.0 < edges)

-- a row of a table with these counts, whose origin is not below `least`
pub record IsTableRow (nodes edges least : ℕ) (row : TableRow) : Type 0 where
  pub value : IsRowValue row
  pub rises : least ≤ row.origin
  pub below : AllByRecursion (IsEntryBelow nodes edges) row.entries

-- rows of such a table, whose origins rise strictly
abbrev pub AreTableRowsFrom : (nodes edges least : ℕ) → List TableRow → Type 0
AreTableRowsFrom nodes edges least [] = Unit {0}
AreTableRowsFrom nodes edges least (row ∷ rows) =
    IsTableRow nodes edges least row × AreTableRowsFrom nodes edges (row.origin + 1) rows

abbrev pub AreTableRows : (nodes edges : ℕ) → List TableRow → Type 0
AreTableRows nodes edges rows = AreTableRowsFrom nodes edges 0 rows

-- what was written of rows, within the limit, is read as these rows
abbrev pub TablesReadBack : Type 0
TablesReadBack =
    (bound nodes edges : ℕ) (rows : List TableRow) → AreTableRows nodes edges rows
    → length (table_text bound nodes edges rows) ≤ table_text_limit
    → table_of_text bound nodes edges (table_text bound nodes edges rows) ≡ Ok rows

-- what a text that is read as rows is
pub record IsTableText (bound nodes edges : ℕ) (rows : List TableRow) (text : List ℕ) : Type 0 where
  pub rows_are : AreTableRows nodes edges rows
  pub text_is : text ≡ table_text bound nodes edges rows
  pub short : length text ≤ table_text_limit

abbrev pub TablesHaveOneText : Type 0
TablesHaveOneText =
    (bound nodes edges : ℕ) (rows : List TableRow) (text : List ℕ)
    → table_of_text bound nodes edges text ≡ Ok rows → IsTableText bound nodes edges rows text

-- a draft with its last line
abbrev pub finished : Draft → List ℕ
finished draft = draft.lines ++ table_end_line draft.rows

-- the draft that took these rows and no others is the text of them
abbrev pub DraftsAreTables : Type 0
DraftsAreTables =
    (bound nodes edges : ℕ) (rows : List TableRow)
    → finished (fold draft_with_row (draft_of_no_rows bound nodes edges) rows) ≡ table_text bound nodes edges rows
