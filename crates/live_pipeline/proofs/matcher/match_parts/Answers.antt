use Rattle.std.proofs.Common.{[], ◌∷◌, ◌++◌, refl, sym, ap, subst, ◌∙◌}
use Rattle.program_frame.specs.Batches.{WritesBatch}
use Rattle.live_pipeline.specs.Order.{Parts}
use Rattle.live_pipeline.proofs.Taking.{may_take, none_written, took_bounded, took_more}
use Rattle.live_pipeline.proofs.matcher.match_parts.Goals as goal

pub loop-init : goal.loop-init
loop-init g c = record {
  own = refl;
  job = refl;
  traces = [];
  took = c.requires.first;
  writes = none_written (g.J.Job.text c.args.job.now) (g.J.Job.has c.args.job.now) (g.K.Sink.state c.args.out.now) c.requires.fresh.begun;
}

pub write_next-ended-requires-clause-may : goal.write_next-ended-requires-clause-may
write_next-ended-requires-clause-may g c =
    let i = c.loop.invariant in
    let t = c.in-Trace.trace in
    let took = took_more c.loop.pass.parts c.take.new.pass.parts i.traces t i.took (ap (λ (p : Parts). p.parts) c.in-Trace.ensures.part) in
    may_take (g.J.Job.text c.args.job.now) (g.J.Job.has c.loop.job) (g.K.Sink.state c.args.out.now) (g.K.Sink.state c.loop.out) i.traces t c.loop.ended (took_bounded c.take.new.pass.parts (i.traces ++ t ∷ []) took c.in-Trace.ensures.bounded) i.writes

pub loop-preserved : goal.loop-preserved
loop-preserved g c =
    let i = c.loop.invariant in
    let t = c.in-Trace.trace in
    let took = took_more c.loop.pass.parts c.take.new.pass.parts i.traces t i.took (ap (λ (p : Parts). p.parts) c.in-Trace.ensures.part) in
    let bounded = took_bounded c.take.new.pass.parts (i.traces ++ t ∷ []) took c.in-Trace.ensures.bounded in
    let before = subst (λ j. WritesBatch j (g.J.Job.has c.loop.job) (g.K.Sink.state c.args.out.now) (g.K.Sink.state c.loop.out) i.traces [] c.loop.ended) (sym i.job) i.writes in
    record {
      own = ap (λ (p : Parts). p.relay) c.in-Trace.ensures.part ∙ i.own;
      job = c.write_next-ended.ensures.text ∙ i.job;
      traces = i.traces ++ t ∷ [];
      took = took;
      writes = subst (λ j. WritesBatch j (g.J.Job.has c.write_next-ended.new.job) (g.K.Sink.state c.args.out.now) (g.K.Sink.state c.write_next-ended.new.out) (i.traces ++ t ∷ []) [] c.write_next-ended.result) i.job (c.write_next-ended.ensures.writes (g.K.Sink.state c.args.out.now) i.traces bounded before);
    }
