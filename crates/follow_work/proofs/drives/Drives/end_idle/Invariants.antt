use Rattle.std.proofs.Common.{drop}
use Rattle.follow_work.proofs.DriveEnds.{HasEnded}
use Rattle.follow_work.proofs.drives.Drives.end_idle.Given as goal

abbrev pub invariant-loop-id : goal.invariant-loop-id
invariant-loop-id l = HasEnded l.idle (drop l.id-index l.id-items) l.fn.self l.self l.fn.into l.into
