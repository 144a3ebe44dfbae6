use Rattle.trace_sessions.proofs.DrivesAlone.{drives_are_followed_alone}
use Rattle.trace_sessions.proofs.laws.drives_are_followed_alone.Goals as goal

pub returns : goal.returns
returns c = drives_are_followed_alone
