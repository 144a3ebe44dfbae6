-- The type of a reader that lends a row, as the contract of the lending call names it: with its lifetime.
use Rattle.std.specs.Prelude.{[]}
use Rattle.std.specs.Borrow.{RattleType}
use Rattle.row_store.specs.contracts.reader.Reader.{the_row}
use mir.Syntax.{named}

abbrev pub reader_type : RattleType
reader_type = the_row (record { mir = named 1; lft = [] })
