use Rattle.std.proofs.Common.{Ok, subst}
use Rattle.std.proofs.lemmas.Result.{err_from_is_err_and}
use Rattle.program_frame.specs.Performs.{Performs}
use Rattle.program_frame.specs.Stream.{works_traces}
use Rattle.program_frame.proofs.Stages.{loads_fails, loads_performs, memory_performs}
use Rattle.follow_work.specs.Streams.{streams_within}
use Rattle.follow_work.proofs.streams.stream_traces.Goals as goal

pub returns-in_err-roads : goal.returns-in_err-roads
returns-in_err-roads g c =
    let p = err_from_is_err_and c.from_residual.result c.from_residual.ensures.1 in
    rw (p.1, p.2) (loads_fails _ (λ e. cc) c.in_err-roads.ensures)

pub returns-in_err-matcher : goal.returns-in_err-matcher
returns-in_err-matcher g c =
    let p = err_from_is_err_and c.from_residual-in_err-matcher.result c.from_residual-in_err-matcher.ensures.1 in
    loads_performs _ _ c.in_ok-roads.ensures (rw (p.1, p.2) (memory_performs _ (g.S.Shelf.state c.load_network.new.shelf) (g.K.Sink.state c.args.out.now)))

pub returns : goal.returns
returns g c =
    loads_performs _ _ c.in_ok-roads.ensures
    (subst (λ on. Performs (Ok (works_traces c.args.request.now.files.traces.now (streams_within on c.args.request.now.files.idle))) (g.S.Shelf.state c.load_network.new.shelf) (g.S.Shelf.state c.work_streams.new.shelf) (g.K.Sink.state c.args.out.now)
    (g.K.Sink.state c.work_streams.new.out) c.work_streams.result) c.in_ok-matcher.ensures c.work_streams.ensures)
