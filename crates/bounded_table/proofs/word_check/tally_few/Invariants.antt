use Rattle.std.proofs.Common.{take}
use Rattle.bounded_table.specs.inside.Tally.{IsTally}
use Rattle.bounded_table.proofs.word_check.tally_few.Given as goal

abbrev pub invariant-loop-tried : goal.invariant-loop-tried
invariant-loop-tried l = IsTally l.words l.base (take l.tried l.arcs) l.tally
