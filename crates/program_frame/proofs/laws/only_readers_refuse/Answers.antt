use Rattle.program_frame.proofs.PromiseLaws.{only_readers_refuse}
use Rattle.program_frame.proofs.laws.only_readers_refuse.Goals as goal

pub returns : goal.returns
returns c = only_readers_refuse
