use Rattle.std.proofs.Common.{[], subst}
use Rattle.program_frame.specs.Batches.{WritesBatch}
use Rattle.live_pipeline.proofs.Endings.{live_done, live_stopped}
use Rattle.live_pipeline.proofs.ending.end_traces.Goals as goal

pub returns-in-Ok-clause-ends : goal.returns-in-Ok-clause-ends
returns-in-Ok-clause-ends g c name shelf shelf' base traces brings writes =
    let held = subst (λ e. WritesBatch (g.J.Job.text c.args.job.now) (g.J.Job.has c.args.job.now) base (g.K.Sink.state c.args.out.now) traces [] e) c.in-Ok.is writes in
    live_done (g.K.Sink.state c.end_with.new.out) c.args.last c.end_with.result c.requires.calm brings held.0 c.end_with.ensures

pub returns-in-Err-clause-ends : goal.returns-in-Err-clause-ends
returns-in-Err-clause-ends g c name shelf shelf' base traces brings writes =
    live_stopped (g.J.Job.text c.args.job.now) name shelf shelf' base (g.K.Sink.state c.args.out.now) traces c.args.last c.in-Err.stop c.requires.calm brings (subst (λ e. WritesBatch (g.J.Job.text c.args.job.now) (g.J.Job.has c.args.job.now) base (g.K.Sink.state c.args.out.now) traces [] e) c.in-Err.is writes)
