use Rattle.row_text.proofs.RowLines as lines
use Rattle.row_text.proofs.laws.rows_have_one_line.Goals as goal

pub returns : goal.returns
returns c = lines.rows_have_one_line
