use Rattle.trace_sessions.proofs.FragmentTakes.{HasStreamed}
use Rattle.trace_sessions.proofs.sessions.Sessions.stream.Given as goal

abbrev pub invariant-loop-fix : goal.invariant-loop-fix
invariant-loop-fix g l =
    HasStreamed l.fn.self l.self l.trace l.fix-index l.fn.into l.into (g.R.Rows.state l.fn.rows) (g.R.Rows.state l.rows) l.pieces
