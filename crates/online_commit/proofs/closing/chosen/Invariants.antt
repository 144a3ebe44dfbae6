use Rattle.online_commit.specs.inside.Steps.{AreAllChosen}
use Rattle.online_commit.proofs.closing.chosen.Given as goal

abbrev pub invariant-loop-point : goal.invariant-loop-point
invariant-loop-point l = AreAllChosen l.settled l.layers l.ranks l.point l.chosen.items
