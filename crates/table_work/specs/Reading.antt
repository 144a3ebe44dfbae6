-- A table, read from its text line by line.
use Rattle.std.specs.Prelude.{ℕ, zero, suc, ◌≡◌, ◌⊎◌, ◌+◌, ◌==◌, ◌&&◌, nat_le, nat_lt, Bool, true, if◌then◌else◌, List, [], ◌∷◌, length}
use Rattle.std.specs.Prelude.{Option, Some, None, Result, Ok, Err}
use Rattle.std.specs.List.{list_all, list_any}
use Rattle.bounded_table.specs.Table.{TableRow}
use Rattle.bounded_table.specs.declared.table_row.Entry.{Entry}
use Rattle.match_text.specs.Reading.{◌>>=◌, after_bytes}
use Rattle.road_network.specs.declared.EdgeId.{EdgeId}
use Rattle.row_text.specs.Reading.{row_at}
use Rattle.table_work.specs.TableText.{table_end_line, table_first_line, table_text_limit}
use Rattle.table_work.specs.declared.fault.TableFault.{TableFault}
use Rattle.table_work.specs.declared.fault.TableFault.TheVariants.{BadLine, Cut, TooLong, Memory}
use Rattle.table_work.specs.declared.reading.Counts.{Counts}

-- ---- which row is allowed at its place

abbrev pub is_edge_below : ℕ → Option EdgeId → Bool
is_edge_below edges None = true
is_edge_below edges (Some e) = nat_lt e.0 edges

-- the numbers of an entry are below the counts
abbrev pub is_entry_below : Counts → Entry → Bool
is_entry_below counts x = nat_lt x.node.0 counts.nodes && is_edge_below counts.edges x.last

-- so are those of a row, and its origin is not below this one
abbrev pub is_row_allowed : Counts → ℕ → TableRow → Bool
is_row_allowed counts least row =
    nat_le least row.origin && list_all (is_entry_below counts) row.entries

abbrev pub if_allowed : Counts → ℕ → TableRow × List ℕ → Option (TableRow × List ℕ)
if_allowed counts least read = if is_row_allowed counts least read.0 then Some read else None

-- the row at the front, where it is allowed
abbrev pub row_allowed_at : Counts → ℕ → List ℕ → Option (TableRow × List ℕ)
row_allowed_at counts least text = row_at text >>= if_allowed counts least

-- ---- the lines

-- the fault where the line of this number is not allowed: without a LF it is not complete
abbrev pub table_fault_at : ℕ → List ℕ → TableFault
table_fault_at number text = if list_any (λ b. b == 10) text then BadLine number else Cut

abbrev pub with_first : TableRow → Result (List TableRow) TableFault → Result (List TableRow) TableFault
with_first row (Ok rows) = Ok (row ∷ rows)
with_first row (Err fault) = Err fault

-- the rows from a text on, after this many rows whose origins are below `least`
abbrev pub From : Type 0
From = (count least : ℕ) → List ℕ → Result (List TableRow) TableFault

-- if a row was read, it and those after it
abbrev pub rows_after_read : From → (count : ℕ) → List ℕ → Option (TableRow × List ℕ)
    → Result (List TableRow) TableFault
rows_after_read more count text None = Err (table_fault_at (count + 2) text)
rows_after_read more count text (Some read) =
    with_first read.0 (more (count + 1) (read.0.origin + 1) read.1)

-- if the last line was read, no more rows, and nothing may come after it
abbrev pub rows_to_end : From → Counts → (count least : ℕ) → List ℕ → Option (List ℕ)
    → Result (List TableRow) TableFault
rows_to_end more counts count least text (Some []) = Ok []
rows_to_end more counts count least text (Some (b ∷ bs)) = Err (BadLine (count + 3))
rows_to_end more counts count least text None =
    rows_after_read more count text (row_allowed_at counts least text)

-- all rows up to the last line; no text has as many lines as `fuel`, which is above its length
abbrev pub rows_to_last : Counts → (fuel : ℕ) → From
rows_to_last counts zero count least text = Err Cut
rows_to_last counts (suc fuel) count least text =
    rows_to_end (rows_to_last counts fuel) counts count least text (after_bytes (table_end_line count) text)

-- the rows after the first line
abbrev pub rows_after_first : Counts → List ℕ → Result (List TableRow) TableFault
rows_after_first counts text = rows_to_last counts (length text + 1) 0 0 text

abbrev pub table_after_first : Counts → List ℕ → Option (List ℕ) → Result (List TableRow) TableFault
table_after_first counts text None = Err (table_fault_at 1 text)
table_after_first counts text (Some rest) = rows_after_first counts rest

-- the rows whose table text this is, or the first fault
abbrev pub table_of_text : (bound nodes edges : ℕ) → List ℕ → Result (List TableRow) TableFault
table_of_text bound nodes edges text =
    if nat_lt table_text_limit (length text) then Err TooLong
    else table_after_first (record { nodes = nodes; edges = edges }) text
    (after_bytes (table_first_line bound nodes edges) text)

-- ---- what a call answers: this, or want of memory

abbrev pub Answers : Result (List TableRow) TableFault → Result (List TableRow) TableFault → Type 0
Answers is (Ok rows) = is ≡ Ok rows
Answers is (Err fault) = (fault ≡ Memory) ⊎ (is ≡ Err fault)

abbrev pub ReadsTable : (bound nodes edges : ℕ) → List ℕ → Result (List TableRow) TableFault → Type 0
ReadsTable bound nodes edges text result = Answers (table_of_text bound nodes edges text) result
