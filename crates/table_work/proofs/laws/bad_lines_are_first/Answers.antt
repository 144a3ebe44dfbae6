use Rattle.table_work.proofs.TableFaultLaws as faults
use Rattle.table_work.proofs.laws.bad_lines_are_first.Goals as goal

pub returns : goal.returns
returns c = faults.bad_lines_are_first
