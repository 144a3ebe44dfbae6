use Rattle.std.proofs.Common.{◌≡◌}
use Rattle.live_pipeline.proofs.relay.Relay.put.Given as goal

abbrev pub invariant-loop : goal.invariant-loop
invariant-loop g l = (l.pass ≡ l.initial.pass) × (l.part ≡ l.initial.part)
