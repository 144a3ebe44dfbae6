use Rattle.std.proofs.Common.{take}
use Rattle.match_work.specs.inside.TownsDone.{AreMatchCosts}
use Rattle.match_work.proofs.towns.add_up.Given as goal

abbrev pub invariant-loop-matched : goal.invariant-loop-matched
invariant-loop-matched l = AreMatchCosts (take l.matched-index l.matches) l.costs
