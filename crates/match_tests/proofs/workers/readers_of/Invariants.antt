use Rattle.std.proofs.Common.{◌≡◌, replicate}
use Rattle.row_store.specs.Store.{fresh_reading}
use Rattle.match_tests.proofs.workers.readers_of.Given as goal

abbrev pub invariant-loop : goal.invariant-loop
invariant-loop l = l.readers ≡ replicate l.counter (fresh_reading l.store)
