use Rattle.std.proofs.Common.{◌≡◌, replicate}
use Rattle.match_pool.proofs.Slots.{no_match}
use Rattle.match_pool.proofs.gathering.blank.Given as goal

abbrev pub invariant-loop : goal.invariant-loop
invariant-loop l = l.slots.items ≡ replicate l.counter no_match
