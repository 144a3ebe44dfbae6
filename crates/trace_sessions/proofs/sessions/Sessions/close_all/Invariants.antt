use Rattle.std.proofs.Common.{length}
use Rattle.trace_sessions.proofs.StreamEnds.{HasEnded}
use Rattle.trace_sessions.proofs.sessions.Sessions.close_all.Given as goal

abbrev pub invariant-loop-id : goal.invariant-loop-id
invariant-loop-id g l = HasEnded l.fn.self l.sessions l.fn.into l.into (g.R.Rows.state l.fn.rows) (g.R.Rows.state l.rows) l.pieces

abbrev pub decreases-loop-id : goal.decreases-loop-id
decreases-loop-id g l = length l.sessions
