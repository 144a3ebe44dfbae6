use Rattle.online_commit.proofs.Changing.{IsChanging}
use Rattle.online_commit.proofs.masks.changed_masks.Given as goal

abbrev pub invariant-loop-back : goal.invariant-loop-back
invariant-loop-back l = IsChanging l.tables l.cells l.changed.items l.back l.behind
