-- A draft that took rows has the text of them.
use Rattle.std.proofs.Common.{◌≡◌, ℕ, suc, ◌+◌, List, [], ◌∷◌, ◌++◌, length, sym, ap, ◌∙◌, append_assoc, arith}
use Rattle.std.specs.Prelude.{fold}
use Rattle.bounded_table.specs.Table.{TableRow}
use Rattle.row_text.specs.RowLine.{row_line}
use Rattle.table_work.specs.Draft.{Draft, draft_of_no_rows, draft_with_row}
use Rattle.table_work.specs.Laws.{DraftsAreTables, finished}
use Rattle.table_work.specs.TableText.{table_end_line, row_lines}

took : (draft : Draft) (rows : List TableRow) → finished (fold draft_with_row draft rows) ≡ draft.lines ++ (row_lines rows ++ table_end_line (draft.rows + length rows))
took draft [] = ap (λ (n : ℕ). draft.lines ++ table_end_line n) (let e : draft.rows ≡ draft.rows + 0 = omega arith in e)
took draft (row ∷ rows) =
    took (draft_with_row draft row) rows
    ∙ append_assoc draft.lines (row_line row) (row_lines rows ++ table_end_line (draft.rows + 1 + length rows))
    ∙ ap (λ (t : List ℕ). draft.lines ++ t)
    (sym (append_assoc (row_line row) (row_lines rows) (table_end_line (draft.rows + 1 + length rows)))
    ∙ ap (λ (n : ℕ). row_lines (row ∷ rows) ++ table_end_line n) (let e : draft.rows + 1 + length rows ≡ draft.rows + suc (length rows) = omega arith in e))

pub drafts_are_tables : DraftsAreTables
drafts_are_tables bound nodes edges rows =
    took (draft_of_no_rows bound nodes edges) rows
    ∙ ap (λ (n : ℕ). (draft_of_no_rows bound nodes edges).lines ++ (row_lines rows ++ table_end_line n)) (let e : 0 + length rows ≡ length rows = omega arith in e)
