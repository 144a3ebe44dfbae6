-- A table text that is being written.
use Rattle.std.specs.Prelude.{ℕ, ◌+◌, List, ◌++◌}
use Rattle.bounded_table.specs.Table.{TableRow}
use Rattle.row_text.specs.RowLine.{row_line}
use Rattle.table_work.specs.TableText.{table_first_line}

-- the lines so far, and how many of them are rows
pub record Draft : Type 0 where
  pub lines : List ℕ
  pub rows : ℕ

abbrev pub draft_of_no_rows : (bound nodes edges : ℕ) → Draft
draft_of_no_rows bound nodes edges = record { lines = table_first_line bound nodes edges; rows = 0 }

abbrev pub draft_with_row : Draft → TableRow → Draft
draft_with_row draft row = record { lines = draft.lines ++ row_line row; rows = draft.rows + 1 }
