use Rattle.std.proofs.Common.{◌∙◌, ap}
use Rattle.std.specs.Vec.Iter.{into_iter_items}
use Rattle.live_pipeline.specs.Order.{Parts}
use Rattle.live_pipeline.proofs.Puts.{next_bounded}
use Rattle.live_pipeline.proofs.feeder.put_traces.Goals as goal

pub put-requires-clause-may : goal.put-requires-clause-may
put-requires-clause-may g c =
    let at = c.loop-trace in
    let whole = c.into_iter-trace-iterator.ensures.into_iter_gives.0 ∙ c.into_vec-trace-items.ensures in
    next_bounded c.args.pass.now.parts at.pass.parts at.yielded (into_iter_items at.trace-iterator) (into_iter_items c.next.new.self) (into_iter_items c.into_iter-trace-iterator.result) c.args.traces c.in-Some.trace c.requires.may whole at.invariant.whole c.in-Some.ensures.steps.0 (ap (λ (p : Parts). p.parts) at.invariant.put)
