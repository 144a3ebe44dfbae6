use Rattle.std.proofs.Common.{◌∷◌, [], ◌++◌}
use Rattle.online_commit.specs.inside.Masks.{mask_after}
use Rattle.online_commit.proofs.Settling.{IsSettledSoFar}
use Rattle.online_commit.proofs.settled.settled_items.Given as goal

abbrev pub invariant-loop-point : goal.invariant-loop-point
invariant-loop-point l =
    IsSettledSoFar l.piece.first (l.piece.layers.now ++ l.piece.layer.now ∷ []) (mask_after l.piece.masks.now l.piece.changed.now) l.start l.point l.items
