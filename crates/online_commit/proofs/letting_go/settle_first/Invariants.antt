use Rattle.online_commit.specs.inside.Pieces.{AreFirstSettled, shown_piece}
use Rattle.online_commit.proofs.letting_go.settle_first.Given as goal

abbrev pub invariant-loop-point : goal.invariant-loop-point
invariant-loop-point l = AreFirstSettled (shown_piece l.tail) l.fn.settled.items l.point l.settled.items
