use Rattle.table_work.proofs.Tables as tables
use Rattle.table_work.proofs.laws.tables_read_back.Goals as goal

pub returns : goal.returns
returns c = tables.tables_read_back
