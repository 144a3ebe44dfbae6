-- The type of rows that lend a row, as the contract of the lending call names it: with its lifetime.
use Rattle.std.specs.Prelude.{[]}
use Rattle.std.specs.Borrow.{RattleType}
use Rattle.row_search.specs.contracts.near_rows.NearRows as near
use Rattle.row_search.specs.contracts.own_rows.OwnRows as own
use Rattle.row_search.specs.contracts.refusing_rows.RefusingRows as refusing
use mir.Syntax.{named}

abbrev pub own_rows_type : RattleType
own_rows_type = own.the_row (record { mir = named 1; lft = [] })

abbrev pub refusing_rows_type : RattleType
refusing_rows_type = refusing.the_row (record { mir = named 1; lft = [] })

abbrev pub near_rows_type : RattleType
near_rows_type = near.the_row (record { mir = named 1; lft = [] })
