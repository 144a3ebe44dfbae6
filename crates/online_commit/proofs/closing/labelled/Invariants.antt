use Rattle.std.proofs.Common.{◌≡◌, ◌-◌}
use Rattle.online_commit.specs.inside.Steps.{rank_in, ranked_items}
use Rattle.online_commit.proofs.closing.labelled.Given as goal

abbrev pub invariant-loop-point : goal.invariant-loop-point
invariant-loop-point l = l.items ≡ ranked_items l.first l.layers (rank_in l.ranks) l.start (l.point - l.start)
