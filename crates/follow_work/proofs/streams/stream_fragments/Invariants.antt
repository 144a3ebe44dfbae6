use Rattle.std.proofs.Common.{take}
use Rattle.follow_work.proofs.StreamJobs.{HasTaken}
use Rattle.follow_work.proofs.streams.stream_fragments.Given as goal

abbrev pub invariant-loop-trace : goal.invariant-loop-trace
invariant-loop-trace l = HasTaken l.initial.sessions l.sessions (take l.trace-index l.traces) l.initial.into l.into l.initial.rows l.rows l.pieces
