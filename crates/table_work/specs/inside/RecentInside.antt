-- What the rows found last are made of.
use Rattle.std.specs.List.{All}
use Rattle.bounded_table.specs.Table.{IsRow}
use Rattle.table_work.specs.declared.recent_rows.RecentRows.TheInside.{Inside}

-- each is the row of its origin
abbrev pub AreRight : Inside → Type 0
AreRight a = All (λ row. IsRow a.network.now a.bound row.origin row) a.rows.items
