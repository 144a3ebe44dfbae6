use Rattle.online_commit.proofs.Writing.{AreWritten}
use Rattle.online_commit.proofs.feeding.write_masks.Given as goal

abbrev pub invariant-loop-back : goal.invariant-loop-back
invariant-loop-back l = AreWritten l.fn.masks l.changed l.back l.masks
