use Rattle.std.proofs.Common.{take}
use Rattle.bounded_table.specs.inside.Tally.{IsTally}
use Rattle.bounded_table.proofs.word_check.tally_each.Given as goal

abbrev pub invariant-loop-arc : goal.invariant-loop-arc
invariant-loop-arc l = IsTally l.words l.base (take l.arc-index l.arcs) l.tally
