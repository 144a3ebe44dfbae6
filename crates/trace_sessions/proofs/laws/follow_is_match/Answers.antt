use Rattle.trace_sessions.proofs.FollowLines.{follow_is_match}
use Rattle.trace_sessions.proofs.laws.follow_is_match.Goals as goal

pub returns : goal.returns
returns c = follow_is_match
