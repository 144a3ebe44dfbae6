use Rattle.std.proofs.Common.{◌-◌}
use Rattle.route_rebuild.specs.inside.ChosenRuns.{AreChosenFrom}
use Rattle.route_rebuild.proofs.run.chosen_of.Given as goal

abbrev pub invariant-loop-i : goal.invariant-loop-i
invariant-loop-i l = AreChosenFrom l.layers l.ranks l.fn.piece.first (l.i - l.fn.piece.first) l.chosen.items
