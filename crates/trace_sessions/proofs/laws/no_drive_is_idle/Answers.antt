use Rattle.trace_sessions.proofs.NoIdle.{no_drive_is_idle}
use Rattle.trace_sessions.proofs.laws.no_drive_is_idle.Goals as goal

pub returns : goal.returns
returns c = no_drive_is_idle
