use Rattle.live_pipeline.proofs.Writing.{next_stopped}
use Rattle.live_pipeline.proofs.matcher.write_next.Goals as goal

pub returns-in-Err-clause-writes : goal.returns-in-Err-clause-writes
returns-in-Err-clause-writes g c base traces bounded writes =
    next_stopped (g.J.Job.text c.args.job.now) (g.J.Job.has c.args.job.now) base (g.K.Sink.state c.args.out.now) traces c.args.trace c.args.ended c.in-Err.stop c.in-Err.is writes
