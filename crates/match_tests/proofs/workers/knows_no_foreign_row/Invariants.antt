use Rattle.std.proofs.Common.{◌≡◌}
use Rattle.match_tests.proofs.workers.knows_no_foreign_row.Given as goal

abbrev pub invariant-loop-n : goal.invariant-loop-n
invariant-loop-n l = l.reader.store ≡ l.initial.reader.store
