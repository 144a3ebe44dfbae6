use Rattle.std.proofs.Common.{ap}
use Rattle.live_pipeline.specs.declared.rule.Log.{Log}
use Rattle.live_pipeline.proofs.Moves.{merges}
use Rattle.live_pipeline.proofs.relay.Relay.close.Goals as goal

pub absorb-requires-clause-rule : goal.absorb-requires-clause-rule
absorb-requires-clause-rule c = merges _ _ _ _ (ap (λ (l : Log). l.puts) c.put.invariant.1) (ap (λ (l : Log). l.takes) c.take.invariant.1)
