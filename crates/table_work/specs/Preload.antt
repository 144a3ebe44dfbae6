-- `--table FILE` of `match`: a table that was computed beforehand, read and tried row by row.
use Rattle.std.specs.Prelude.{ℕ, List, [], ◌∷◌, ◌++◌, Result, Ok, Err, codes, if◌then◌else◌, length}
use Rattle.std.specs.Result.{result_map_both}
use Rattle.bounded_table.specs.RightRow.{is_right_row}
use Rattle.bounded_table.specs.Table.{TableRow}
use Rattle.command_line.specs.Options.{and_then}
use Rattle.decimal_text.specs.Number.{decimal}
use Rattle.program_frame.specs.Plan.{Plan, loads}
use Rattle.program_frame.specs.declared.stop.File.TheVariants.{Table}
use Rattle.road_network.specs.Net.{Net, node_name}
use Rattle.table_work.specs.Reading.{table_of_text}
use Rattle.table_work.specs.TableText.{table_text_limit}
use Rattle.table_work.specs.declared.fault.TableFault.{TableFault}
use Rattle.table_work.specs.declared.fault.TableFault.TheVariants.{BadLine, Cut, TooLong, Memory}

-- ---- what is said of the bytes of a file

-- the line of a fault of the text; want of memory has none
abbrev pub table_fault_line : TableFault → List ℕ
table_fault_line (BadLine number) =
    codes "table line " ++ decimal number ++ codes ": bad line" ++ 10 ∷ []
table_fault_line Cut = codes "table: cut" ++ 10 ∷ []
table_fault_line TooLong = codes "table: too long" ++ 10 ∷ []
table_fault_line Memory = []

-- the line of a row that is not right, with the id of its origin
abbrev pub wrong_row_line : ℕ → List ℕ
wrong_row_line id = codes "refused table origin " ++ decimal id ++ codes ": Row" ++ 10 ∷ []

-- the rows of a file, or the line of its fault
abbrev pub rows_in : Net → ℕ → List ℕ → Result (List TableRow) (List ℕ)
rows_in net bound bytes =
    result_map_both (λ rows. rows) table_fault_line
    (table_of_text bound (length net.nodes) (length net.edges) bytes)

abbrev pub row_said : Net → ℕ → TableRow → Result (Unit {0}) (List ℕ)
row_said net bound row =
    if is_right_row net bound row then Ok tt else Err (wrong_row_line (node_name net row.origin))

-- all rows are right, or the line of the first that is not
abbrev pub rows_said : Net → ℕ → List TableRow → Result (Unit {0}) (List ℕ)
rows_said net bound [] = Ok tt
rows_said net bound (row ∷ rows) = and_then (row_said net bound row) (λ _. rows_said net bound rows)

-- the file is accepted, or the line of its refusal
abbrev pub table_file_said : Net → ℕ → List ℕ → Result (Unit {0}) (List ℕ)
table_file_said net bound bytes = and_then (rows_in net bound bytes) (rows_said net bound)

-- ---- the plan

-- the table file is read and accepted before what follows, which is the same as without it
abbrev pub preloads : List ℕ → Net → ℕ → Plan → Plan
preloads name net bound next =
    loads Table name table_text_limit 9 (table_file_said net bound) (λ _. next)
