use Rattle.table_work.proofs.TableFaultLaws as faults
use Rattle.table_work.proofs.laws.cuts_lack_their_end.Goals as goal

pub returns : goal.returns
returns c = faults.cuts_lack_their_end
