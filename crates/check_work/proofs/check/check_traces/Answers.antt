use Rattle.std.proofs.Common.{All, subst, sym}
use Rattle.std.proofs.lemmas.Result.{err_from_is_err_and}
use Rattle.potential_certificate.specs.CertificateText.{certificate_text_limit}
use Rattle.program_frame.specs.Loads.{FailsToLoad, Loaded}
use Rattle.program_frame.specs.declared.stop.File.TheVariants.{Certificate}
use Rattle.program_frame.specs.declared.stop.Refusal.TheVariants as refusals
use Rattle.program_frame.proofs.Stages.{ends_performs, loads_fails, loads_performs}
use Rattle.trace_reader.specs.Trace.{IsLawfulTrace}
use Rattle.trace_match.specs.Setting.{Setting}
use Rattle.check_work.specs.Check.{check_said}
use Rattle.program_frame.proofs.TakenTraces.{taken_lawful}
use Rattle.check_work.proofs.check.check_traces.Goals as goal

pub load_certificate-requires-clause-traces : goal.load_certificate-requires-clause-traces
load_certificate-requires-clause-traces g c κs within =
    subst (All IsLawfulTrace) (sym c.as_slice.ensures) (taken_lawful c.in_ok-taken.ensures.bytes c.in_ok-taken.taken c.in_ok-taken.ensures.is)

pub returns-in_err-roads : goal.returns-in_err-roads
returns-in_err-roads g c =
    let p = err_from_is_err_and c.from_residual.result c.from_residual.ensures.1 in
    rw (p.1, p.2) (loads_fails _ (λ e. cc) c.in_err-roads.ensures)

pub returns-in_err-taken : goal.returns-in_err-taken
returns-in_err-taken g c =
    let p = err_from_is_err_and c.from_residual-in_err-taken.result c.from_residual-in_err-taken.ensures.1 in
    loads_performs _ _ c.in_ok-roads.ensures (rw (p.1, p.2) (loads_fails _ (λ e. cc) c.in_err-taken.ensures))

pub returns-in_err-line : goal.returns-in_err-line
returns-in_err-line g c =
    let p = err_from_is_err_and c.from_residual-in_err-line.result c.from_residual-in_err-line.ensures.1 in
    let on : Setting = record { network = c.in_ok-roads.roads; params = c.args.request.now.options } in
    let fails = subst (λ taken. FailsToLoad refusals.Certificate Certificate c.args.request.now.files.certificate.now certificate_text_limit (check_said on taken)
    (g.S.Shelf.state c.load_traces.new.shelf) (g.S.Shelf.state c.load_certificate.new.shelf) c.in_err-line.field-0.0) c.as_slice.ensures c.in_err-line.ensures in
    loads_performs _ _ c.in_ok-roads.ensures (loads_performs _ _ c.in_ok-taken.ensures (rw (p.1, p.2) (loads_fails _ (λ e. cc) fails)))

pub returns : goal.returns
returns g c =
    let on : Setting = record { network = c.in_ok-roads.roads; params = c.args.request.now.options } in
    let loaded = subst (λ taken. Loaded c.args.request.now.files.certificate.now certificate_text_limit (check_said on taken)
    (g.S.Shelf.state c.load_traces.new.shelf) (g.S.Shelf.state c.load_certificate.new.shelf) c.in_ok-line.line) c.as_slice.ensures c.in_ok-line.ensures in
    loads_performs _ _ c.in_ok-roads.ensures (loads_performs _ _ c.in_ok-taken.ensures (loads_performs _ _ loaded (ends_performs c.as_slice-2.ensures c.put_text.ensures)))
