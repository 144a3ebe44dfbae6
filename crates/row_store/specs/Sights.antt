-- What a sight of a cell says.
use Rattle.std.specs.Prelude.{}
use Rattle.bounded_table.specs.Table.{TableRow}
use Rattle.row_store.specs.declared.sight.Sight.{Sight}
use Rattle.row_store.specs.declared.sight.Sight.TheVariants.{Table, Foreign}

-- the row that was seen
abbrev pub row_seen : Sight → TableRow
row_seen (Table r) = r.now
row_seen (Foreign r) = r.now

abbrev pub IsTable : Sight → Type 0
IsTable (Table r) = Unit {0}
IsTable (Foreign r) = ⊥
