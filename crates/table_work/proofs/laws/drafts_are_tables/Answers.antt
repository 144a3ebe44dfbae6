use Rattle.table_work.proofs.Drafts as drafts
use Rattle.table_work.proofs.laws.drafts_are_tables.Goals as goal

pub returns : goal.returns
returns c = drafts.drafts_are_tables
