use Rattle.std.proofs.Common.{Ok, subst}
use Rattle.std.proofs.lemmas.Result.{err_from_is_err_and}
use Rattle.program_frame.specs.Performs.{Performs}
use Rattle.program_frame.specs.Stream.{works_traces}
use Rattle.program_frame.proofs.Stages.{loads_fails, loads_performs, memory_performs}
use Rattle.follow_work.proofs.follow.follow_traces.Goals as goal

pub returns-in_err-roads : goal.returns-in_err-roads
returns-in_err-roads g c =
    let p = err_from_is_err_and c.from_residual.result c.from_residual.ensures.1 in
    rw (p.1, p.2) (loads_fails _ (λ e. cc) c.in_err-roads.ensures)

pub returns-in_err-job : goal.returns-in_err-job
returns-in_err-job g c =
    let p = err_from_is_err_and c.from_residual-in_err-job.result c.from_residual-in_err-job.ensures.1 in
    loads_performs _ _ c.in_ok-roads.ensures (rw (p.1, p.2) (memory_performs _ (g.S.Shelf.state c.load_network.new.shelf) (g.K.Sink.state c.args.out.now)))

pub returns : goal.returns
returns g c =
    loads_performs _ _ c.in_ok-roads.ensures (subst (λ job. Performs (Ok (works_traces c.args.request.now.files.traces.now job)) (g.S.Shelf.state c.load_network.new.shelf) (g.S.Shelf.state c.work_traces.new.shelf) (g.K.Sink.state c.args.out.now) (g.K.Sink.state c.work_traces.new.out) c.work_traces.result) c.in_ok-job.ensures.text c.work_traces.ensures)
