use Rattle.trace_sessions.proofs.NoIdle.{ids_have_one_drive}
use Rattle.trace_sessions.proofs.laws.ids_have_one_drive.Goals as goal

pub returns : goal.returns
returns c = ids_have_one_drive
