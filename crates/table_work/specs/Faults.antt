-- What the faults of a table text mean.
use Rattle.std.specs.Prelude.{ℕ, ◌≡◌, ◌↔◌, ◌<◌, ◌≤◌, ◌^◌, List, length, Err}
use Rattle.bounded_table.specs.Table.{TableRow}
use Rattle.row_text.specs.LineFaults.{IsCutOf, IsFirstBadLineOf}
use Rattle.table_work.specs.Laws.{AreTableRows}
use Rattle.table_work.specs.Reading.{table_of_text}
use Rattle.table_work.specs.TableText.{table_lines, table_text_limit}
use Rattle.table_work.specs.declared.fault.TableFault.TheVariants.{BadLine, Cut}

-- these are the lines of a table for this bound and these counts
pub record AreTableLines (bound nodes edges : ℕ) (lines : List (List ℕ)) : Type 0 where
  pub rows : List TableRow
  pub rows_are : AreTableRows nodes edges rows
  pub lines_are : lines ≡ table_lines bound nodes edges rows

abbrev pub BadTableLinesAreFirst : Type 0
BadTableLinesAreFirst =
    (bound nodes edges : ℕ) (text : List ℕ) (n : ℕ) → bound < 2 ^ 32 → nodes < 2 ^ 32 → edges < 2 ^ 32
    → (table_of_text bound nodes edges text ≡ Err (BadLine n))
    ↔ ((length text ≤ table_text_limit) × IsFirstBadLineOf (AreTableLines bound nodes edges) n text)

abbrev pub CutTablesLackTheirEnd : Type 0
CutTablesLackTheirEnd =
    (bound nodes edges : ℕ) (text : List ℕ) → bound < 2 ^ 32 → nodes < 2 ^ 32 → edges < 2 ^ 32
    → (table_of_text bound nodes edges text ≡ Err Cut)
    ↔ ((length text ≤ table_text_limit) × IsCutOf (AreTableLines bound nodes edges) text)
