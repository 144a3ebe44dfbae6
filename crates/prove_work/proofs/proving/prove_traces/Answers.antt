use Rattle.std.proofs.Common.{All, ◌∙◌, subst, sym}
use Rattle.std.proofs.lemmas.Result.{err_from_is_err_and}
use Rattle.program_frame.specs.declared.stop.Refusal.TheVariants.{TooLong}
use Rattle.program_frame.proofs.Stages.{accepts_performs, accepts_refuses, ends_performs, loads_fails, loads_performs, memory_performs}
use Rattle.trace_reader.specs.Trace.{IsLawfulTrace}
use Rattle.trace_match.specs.Setting.{Setting}
use Rattle.prove_work.specs.Prove.{prove_said}
use Rattle.program_frame.proofs.TakenTraces.{taken_lawful}
use Rattle.prove_work.proofs.WholeTraces.{said_of_taken, taken_refused}
use Rattle.prove_work.proofs.proving.prove_traces.Goals as goal

pub text_of_proofs-requires : goal.text_of_proofs-requires
text_of_proofs-requires g c =
    subst (All IsLawfulTrace) (sym c.as_slice.ensures) (taken_lawful c.in_ok-taken.ensures.bytes c.in_ok-taken.taken c.in_ok-taken.ensures.is)

pub returns-in_err-roads : goal.returns-in_err-roads
returns-in_err-roads g c =
    let p = err_from_is_err_and c.from_residual.result c.from_residual.ensures.1 in
    rw (p.1, p.2) (loads_fails _ (λ e. cc) c.in_err-roads.ensures)

pub returns-in_err-taken : goal.returns-in_err-taken
returns-in_err-taken g c =
    let p = err_from_is_err_and c.from_residual-in_err-taken.result c.from_residual-in_err-taken.ensures.1 in
    loads_performs _ _ c.in_ok-roads.ensures (rw (p.1, p.2) (loads_fails _ (λ e. cc) c.in_err-taken.ensures))

pub returns-in_err-matcher : goal.returns-in_err-matcher
returns-in_err-matcher g c =
    let p = err_from_is_err_and c.from_residual-in_err-matcher.result c.from_residual-in_err-matcher.ensures.1 in
    loads_performs _ _ c.in_ok-roads.ensures (loads_performs _ _ c.in_ok-taken.ensures (rw (p.1, p.2) (memory_performs _ (g.S.Shelf.state c.load_traces.new.shelf) (g.K.Sink.state c.args.out.now))))

pub returns-in_err-text : goal.returns-in_err-text
returns-in_err-text g c =
    let p = err_from_is_err_and c.from_residual-in_err-text.result c.from_residual-in_err-text.ensures.1 in
    let on : Setting = record { network = c.in_ok-roads.roads; params = c.args.request.now.options } in
    loads_performs _ _ c.in_ok-roads.ensures
    (loads_performs _ _ c.in_ok-taken.ensures
    (rw (p.1, p.2) (accepts_refuses TooLong (prove_said on c.in_ok-taken.taken) _ (λ e. cc)
    (taken_refused c.in_err-text.field-0.0 c.in_ok-matcher.matcher on c.as_slice.result.now c.in_ok-taken.taken c.in_ok-matcher.ensures c.as_slice.ensures c.in_err-text.ensures))))

pub returns : goal.returns
returns g c =
    let on : Setting = record { network = c.in_ok-roads.roads; params = c.args.request.now.options } in
    let same = said_of_taken c.in_ok-matcher.matcher on c.as_slice.result.now c.in_ok-taken.taken c.in_ok-matcher.ensures c.as_slice.ensures in
    loads_performs _ _ c.in_ok-roads.ensures
    (loads_performs _ _ c.in_ok-taken.ensures (accepts_performs _ _ (sym same ∙ c.in_ok-text.ensures) (ends_performs c.as_slice-2.ensures c.put_text.ensures)))
