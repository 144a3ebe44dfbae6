use Rattle.bounded_table.proofs.ClosedTables.{table_of_closed, closed_of_table}
use Rattle.bounded_table.proofs.laws.closed_tables.Goals as goal

pub returns : goal.returns
returns c n bound s table lawful = (table_of_closed n bound s table lawful, closed_of_table n bound s table lawful)
