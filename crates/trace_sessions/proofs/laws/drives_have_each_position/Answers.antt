use Rattle.trace_sessions.proofs.DrivesAlone.{drives_have_each_position}
use Rattle.trace_sessions.proofs.laws.drives_have_each_position.Goals as goal

pub returns : goal.returns
returns c = drives_have_each_position
