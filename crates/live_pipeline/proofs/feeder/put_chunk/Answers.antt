use Rattle.std.proofs.Common.{ap}
use Rattle.live_pipeline.specs.Order.{Parts}
use Rattle.live_pipeline.proofs.Feeding.{feeds_bounded, feeds_put}
use Rattle.live_pipeline.proofs.feeder.put_chunk.Goals as goal

pub put_traces-requires-clause-may : goal.put_traces-requires-clause-may
put_traces-requires-clause-may g c =
    let has = c.requires.fed.1 in
    feeds_bounded c.requires.fed.0 c.args.chunk.now c.args.reader.now c.feed-fed.new.self c.args.pass.now.parts _ c.feed-fed.new.into c.feed-fed.result has c.requires.short c.new-traces.ensures (c.feed-fed.ensures.fed c.requires.fed.0 has.stands)

pub returns-clause-puts : goal.returns-clause-puts
returns-clause-puts g c fed has =
    feeds_put fed c.args.chunk.now c.feed-fed.new.self c.args.pass.now.parts c.put_traces.new.pass.parts _ c.feed-fed.new.into c.feed-fed.result has.put_are c.new-traces.ensures (ap (λ (p : Parts). p.parts) c.put_traces.ensures) (c.feed-fed.ensures.fed fed has.stands)
