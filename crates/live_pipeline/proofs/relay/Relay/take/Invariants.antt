use Rattle.std.proofs.Common.{◌≡◌}
use Rattle.live_pipeline.proofs.relay.Relay.take.Given as goal

abbrev pub invariant-loop : goal.invariant-loop
invariant-loop g l = l.pass ≡ l.initial.pass
