use Rattle.trace_sessions.proofs.StreamAlone.{ids_are_followed_alone}
use Rattle.trace_sessions.proofs.laws.ids_are_followed_alone.Goals as goal

pub returns : goal.returns
returns c = ids_are_followed_alone
