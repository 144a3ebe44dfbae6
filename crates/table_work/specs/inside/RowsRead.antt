-- Rows that are read from the text of a table.
use Rattle.std.specs.Prelude.{ℕ, List, Result}
use Rattle.bounded_table.specs.Table.{TableRow}
use Rattle.table_work.specs.declared.fault.TableFault.{TableFault}
use Rattle.table_work.specs.declared.reading.Counts.{Counts}
use Rattle.table_work.specs.Reading.{Answers, rows_after_first}

-- the rows of a text, or its fault
abbrev pub ReadsRows : Counts → List ℕ → Result (List TableRow) TableFault → Type 0
ReadsRows counts text result = Answers (rows_after_first counts text) result
