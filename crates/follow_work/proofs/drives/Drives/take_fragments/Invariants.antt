use Rattle.std.proofs.Common.{take}
use Rattle.trace_sessions.specs.StreamText.{points_in}
use Rattle.follow_work.specs.inside.DrivesDone.{TakesAll}
use Rattle.follow_work.proofs.drives.Drives.take_fragments.Given as goal

abbrev pub invariant-loop-trace : goal.invariant-loop-trace
invariant-loop-trace l = TakesAll l.idle (points_in (take l.trace-index l.traces)) l.fn.self l.self l.fn.into l.into
