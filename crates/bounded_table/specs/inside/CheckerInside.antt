-- What a checker of rows is made of.
use Rattle.std.specs.Prelude.{length}
use Rattle.bounded_table.specs.declared.row_checker.RowChecker.TheInside.{Inside}
use Rattle.bounded_table.specs.Spread.{IsBlank}
use Rattle.bounded_table.specs.Table.{BoundedTable}

abbrev pub checked : Inside → BoundedTable
checked a = record { network = a.network.now; bound = a.bound }

-- between two checks no node is labelled
abbrev pub IsBlankInside : Inside → Type 0
IsBlankInside a = IsBlank (length a.network.now.nodes) a.bound a.words.items
