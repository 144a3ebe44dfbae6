use Rattle.program_frame.proofs.RunEnds.{promises}
use Rattle.program_frame.proofs.laws.promises_are_kept.Goals as goal

pub returns : goal.returns
returns c asked shelf shelf' out out' err err' ended put = promises asked shelf shelf' out out' err err' ended put
