use Rattle.trace_sessions.proofs.CallsAlone.{ids_are_answered_alone}
use Rattle.trace_sessions.proofs.laws.ids_are_answered_alone.Goals as goal

pub returns : goal.returns
returns c = ids_are_answered_alone
