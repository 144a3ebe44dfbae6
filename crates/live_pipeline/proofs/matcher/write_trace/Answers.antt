use Rattle.std.proofs.Common.{[], ◌∷◌, refl}
use Rattle.std.proofs.lemmas.Result.{err_from_is_err_and}
use Rattle.program_frame.proofs.BatchEnds.{handed}
use Rattle.live_pipeline.proofs.Writing.{job_stopped, text_put}
use Rattle.live_pipeline.proofs.matcher.write_trace.Goals as goal

pub returns-in_err-take-clause-writes : goal.returns-in_err-take-clause-writes
returns-in_err-take-clause-writes g c base traces holds =
    let p = err_from_is_err_and c.from_residual.result c.from_residual.ensures.1 in
    let hand = handed (g.J.Job.text c.args.job.now) (g.J.Job.has c.args.job.now) (g.J.Job.has c.take.new.self) (c.args.trace ∷ []) (c.args.trace ∷ []) _ c.take.new.into c.take.new.into _ refl c.new-text.ensures refl c.in_err-take.ensures.takes in
    rw (p.1, p.2) (job_stopped (g.J.Job.has c.take.new.self) c.take.new.into _ c.requires.calm hand holds)

pub returns-clause-writes : goal.returns-clause-writes
returns-clause-writes g c base traces holds =
    let hand = handed (g.J.Job.text c.args.job.now) (g.J.Job.has c.args.job.now) (g.J.Job.has c.take.new.self) (c.args.trace ∷ []) (c.args.trace ∷ []) _ c.take.new.into c.as_slice.result.now _ refl c.new-text.ensures c.as_slice.ensures c.in_ok-take.ensures.takes in
    text_put (g.J.Job.has c.take.new.self) (g.K.Sink.state c.put_text.new.out) c.as_slice.result.now c.put_text.result hand holds c.put_text.ensures.leaves
