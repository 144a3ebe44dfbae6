use Rattle.std.proofs.Common.{ap}
use Rattle.live_pipeline.specs.declared.rule.Log.{Log}
use Rattle.live_pipeline.proofs.Moves.{gets}
use Rattle.live_pipeline.proofs.relay.Relay.try_take.Goals as goal

pub pop_as-requires-clause-rule : goal.pop_as-requires-clause-rule
pop_as-requires-clause-rule g c = (gets _ _ (ap (λ (l : Log). l.takes) c.pass.invariant.1), λ _ _ _ _. tt)
