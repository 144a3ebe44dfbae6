-- A table that is being written.
use Rattle.std.specs.Prelude.{◌≡◌, ℕ, ◌<◌, ◌≤◌, List, Result, Ok, Err, fold, length}
use Rattle.bounded_table.specs.Table.{BoundedTable}
use Rattle.road_network.specs.Net.{Net}
use Rattle.table_work.specs.Draft.{Draft, draft_with_row}
use Rattle.table_work.specs.TableText.{table_text_limit}
use Rattle.table_work.specs.declared.fault.TableWriteFault.{TableWriteFault}
use Rattle.table_work.specs.declared.fault.TableWriteFault.TheVariants.{TooLong, Memory}
use Rattle.table_work.specs.Table.{first_rows, text_of_network}

-- the draft with the rows of the first nodes, this many
abbrev pub draft_with_rows : BoundedTable → ℕ → Draft → Draft
draft_with_rows rows count draft = fold draft_with_row draft (first_rows rows.network rows.bound count)

-- the rows of all nodes were added, or they make the text too long
abbrev pub AddsRows : BoundedTable → ℕ → Draft → Draft → Result (Unit {0}) TableWriteFault → Type 0
AddsRows rows nodes old new (Ok done) = new ≡ draft_with_rows rows nodes old
AddsRows rows nodes old new (Err TooLong) = table_text_limit < length (draft_with_rows rows nodes old).lines
AddsRows rows nodes old new (Err Memory) = Unit {0}

-- the text of the network's table, which is within the limit or is not
abbrev pub WritesTable : Net → ℕ → Result (List ℕ) TableWriteFault → Type 0
WritesTable net bound (Ok text) =
    (text ≡ text_of_network net bound) × (length text ≤ table_text_limit)
WritesTable net bound (Err TooLong) = table_text_limit < length (text_of_network net bound)
WritesTable net bound (Err Memory) = Unit {0}
