use Rattle.bounded_table.proofs.OneRow.{one_row}
use Rattle.bounded_table.proofs.laws.one_row.Goals as goal

pub returns : goal.returns
returns c = one_row
