use Rattle.bounded_table.proofs.RightRows.{right_rows}
use Rattle.bounded_table.proofs.laws.right_rows.Goals as goal

pub returns : goal.returns
returns c = right_rows
