use Rattle.follow_work.specs.inside.DrivesDone.{TakesAll}
use Rattle.follow_work.proofs.DriveRows.{first_points}
use Rattle.follow_work.proofs.drives.Drives.take_fragment.Given as goal

abbrev pub invariant-loop-fix : goal.invariant-loop-fix
invariant-loop-fix l = TakesAll l.idle (first_points l.trace l.fix-index) l.fn.self l.self l.fn.into l.into
