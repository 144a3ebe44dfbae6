use Rattle.bounded_table.proofs.RowValues.{row_values}
use Rattle.bounded_table.proofs.laws.row_values.Goals as goal

pub returns : goal.returns
returns c = row_values
