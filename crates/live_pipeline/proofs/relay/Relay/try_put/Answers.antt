use Rattle.std.proofs.Common.{ap, subst, sym}
use Rattle.crossbeam_queue.specs.Passes.{view}
use Rattle.live_pipeline.specs.Order.{MayFollow, Parts}
use Rattle.live_pipeline.specs.declared.rule.Log.{Log}
use Rattle.live_pipeline.proofs.Bounded.{bounded_more}
use Rattle.live_pipeline.proofs.Moves.{sends, waits}
use Rattle.live_pipeline.proofs.relay.Relay.try_put.Goals as goal

pub push_as-requires-clause-rule : goal.push_as-requires-clause-rule
push_as-requires-clause-rule g c = (
  sends _ _ _ _ (ap (λ (l : Log). l.puts) c.pass.invariant.1) (bounded_more (view c.pass.inside.pass).put c.args.part (subst (λ (p : Parts). MayFollow p.parts c.args.part) (sym c.pass.view_is) c.requires.may)),
  waits _ _ (ap (λ (l : Log). l.puts) c.pass.invariant.1),
)
