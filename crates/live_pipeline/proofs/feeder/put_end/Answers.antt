use Rattle.std.proofs.Common.{ap}
use Rattle.live_pipeline.specs.Order.{Parts}
use Rattle.live_pipeline.proofs.Feeding.{ends_bounded, ends_put}
use Rattle.live_pipeline.proofs.feeder.put_end.Goals as goal

pub put_traces-requires-clause-may : goal.put_traces-requires-clause-may
put_traces-requires-clause-may g c =
    let has = c.requires.fed.1 in
    ends_bounded c.requires.fed.0 c.args.reader.now c.finish-ended.new.self c.args.pass.now.parts _ c.finish-ended.new.into c.finish-ended.result has c.new-traces.ensures (c.finish-ended.ensures.fed c.requires.fed.0 has.stands)

pub returns-clause-puts : goal.returns-clause-puts
returns-clause-puts g c fed has =
    ends_put fed c.finish-ended.new.self c.args.pass.now.parts c.put_traces.new.pass.parts _ c.finish-ended.new.into c.finish-ended.result has.put_are c.new-traces.ensures (ap (λ (p : Parts). p.parts) c.put_traces.ensures) (c.finish-ended.ensures.fed fed has.stands)
