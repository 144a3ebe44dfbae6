use Rattle.std.proofs.Common.{List, ℕ, Ok, Result, ap, arith, subst}
use Rattle.std.proofs.lemmas.Result.{err_from_is_err_and}
use Rattle.program_frame.specs.Loads.{FailsToLoad, Loaded}
use Rattle.program_frame.specs.Performs.{Performs}
use Rattle.program_frame.specs.Stream.{works_traces}
use Rattle.program_frame.specs.declared.stop.File.TheVariants as files
use Rattle.program_frame.specs.declared.stop.Refusal.TheVariants as refusals
use Rattle.program_frame.proofs.Stages.{loads_fails, loads_performs, memory_performs}
use Rattle.match_work.specs.Matches.{match_text}
use Rattle.table_work.specs.TableText.{table_text_limit}
use Rattle.trace_match.specs.Setting.{Setting}
use Rattle.match_work.proofs.TableSaid.{said_for_store}
use Rattle.match_work.proofs.tabled.match_with_table.Goals as goal

pub preload-requires : goal.preload-requires
preload-requires g c =
    let is = ap (λ (m : Setting). m.params.bound) c.in_ok-matcher.ensures in
    omega (arith, c.in_ok-store.ensures.0.bound, is, c.requires.bound)

pub returns-in_err-roads : goal.returns-in_err-roads
returns-in_err-roads g c =
    let p = err_from_is_err_and c.from_residual.result c.from_residual.ensures.1 in
    rw (p.1, p.2) (loads_fails _ (λ e. cc) c.in_err-roads.ensures)

pub returns-in_err-matcher : goal.returns-in_err-matcher
returns-in_err-matcher g c =
    let p = err_from_is_err_and c.from_residual-in_err-matcher.result c.from_residual-in_err-matcher.ensures.1 in
    loads_performs _ _ c.in_ok-roads.ensures (rw (p.1, p.2) (memory_performs _ (g.S.Shelf.state c.load_network.new.shelf) (g.K.Sink.state c.args.out.now)))

pub returns-in_err-store : goal.returns-in_err-store
returns-in_err-store g c =
    let p = err_from_is_err_and c.from_residual-in_err-store.result c.from_residual-in_err-store.ensures.1 in
    loads_performs _ _ c.in_ok-roads.ensures (rw (p.1, p.2) (memory_performs _ (g.S.Shelf.state c.load_network.new.shelf) (g.K.Sink.state c.args.out.now)))

pub returns-in_err-preload : goal.returns-in_err-preload
returns-in_err-preload g c =
    let p = err_from_is_err_and c.from_residual-in_err-preload.result c.from_residual-in_err-preload.ensures.1 in
    let same = said_for_store c.in_ok-matcher.matcher c.in_ok-roads.roads c.args.request.now.options c.in_ok-store.store c.in_ok-matcher.ensures c.in_ok-store.ensures.0 in
    let fails = subst (λ (said : List ℕ → Result (Unit {0}) (List ℕ)). FailsToLoad refusals.Table files.Table c.args.table.now table_text_limit said (g.S.Shelf.state c.load_network.new.shelf) (g.S.Shelf.state c.preload.new.shelf) c.in_err-preload.field-0.0) same c.in_err-preload.ensures in
    loads_performs _ _ c.in_ok-roads.ensures (rw (p.1, p.2) (loads_fails _ (λ e. cc) fails))

pub returns : goal.returns
returns g c =
    let same = said_for_store c.in_ok-matcher.matcher c.in_ok-roads.roads c.args.request.now.options c.in_ok-store.store c.in_ok-matcher.ensures c.in_ok-store.ensures.0 in
    let loaded = subst (λ (said : List ℕ → Result (Unit {0}) (List ℕ)). Loaded c.args.table.now table_text_limit said (g.S.Shelf.state c.load_network.new.shelf) (g.S.Shelf.state c.preload.new.shelf) tt) same c.in_ok-preload.ensures in
    loads_performs _ _ c.in_ok-roads.ensures (loads_performs _ _ loaded
    (subst (λ on. Performs (Ok (works_traces c.args.request.now.files.traces.now (match_text on))) (g.S.Shelf.state c.preload.new.shelf) (g.S.Shelf.state c.match_file.new.shelf) (g.K.Sink.state c.args.out.now) (g.K.Sink.state c.match_file.new.out) c.match_file.result)
    c.in_ok-matcher.ensures c.match_file.ensures))
