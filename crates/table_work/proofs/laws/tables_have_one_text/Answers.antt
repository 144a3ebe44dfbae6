use Rattle.table_work.proofs.Tables as tables
use Rattle.table_work.proofs.laws.tables_have_one_text.Goals as goal

pub returns : goal.returns
returns c = tables.tables_have_one_text
