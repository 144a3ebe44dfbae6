use Rattle.row_text.proofs.RowLines as lines
use Rattle.row_text.proofs.laws.rows_read_back.Goals as goal

pub returns : goal.returns
returns c = lines.rows_read_back
