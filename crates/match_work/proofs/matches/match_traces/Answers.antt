use Rattle.std.proofs.Common.{Ok, subst}
use Rattle.std.proofs.lemmas.Result.{err_from_is_err_and}
use Rattle.program_frame.specs.Performs.{Performs}
use Rattle.program_frame.specs.Stream.{works_traces}
use Rattle.program_frame.proofs.Stages.{loads_fails, loads_performs, memory_performs}
use Rattle.match_work.specs.Matches.{match_text}
use Rattle.match_work.proofs.matches.match_traces.Goals as goal

pub returns-in_err-roads : goal.returns-in_err-roads
returns-in_err-roads g c =
    let p = err_from_is_err_and c.from_residual.result c.from_residual.ensures.1 in
    rw (p.1, p.2) (loads_fails _ (λ e. cc) c.in_err-roads.ensures)

pub returns-in_err-matcher : goal.returns-in_err-matcher
returns-in_err-matcher g c =
    let p = err_from_is_err_and c.from_residual-in_err-matcher.result c.from_residual-in_err-matcher.ensures.1 in
    loads_performs _ _ c.in_ok-roads.ensures (rw (p.1, p.2) (memory_performs _ (g.S.Shelf.state c.load_network.new.shelf) (g.K.Sink.state c.args.out.now)))

pub returns-in_err-store : goal.returns-in_err-store
returns-in_err-store g c =
    let p = err_from_is_err_and c.from_residual-in_err-store.result c.from_residual-in_err-store.ensures.1 in
    loads_performs _ _ c.in_ok-roads.ensures (rw (p.1, p.2) (memory_performs _ (g.S.Shelf.state c.load_network.new.shelf) (g.K.Sink.state c.args.out.now)))

pub returns : goal.returns
returns g c =
    loads_performs _ _ c.in_ok-roads.ensures (subst (λ on. Performs (Ok (works_traces c.args.request.now.files.traces.now (match_text on))) (g.S.Shelf.state c.load_network.new.shelf) (g.S.Shelf.state c.match_file.new.shelf) (g.K.Sink.state c.args.out.now) (g.K.Sink.state c.match_file.new.out) c.match_file.result)
    c.in_ok-matcher.ensures c.match_file.ensures)
