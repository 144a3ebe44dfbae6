use Rattle.std.proofs.Common.{◌≤◌, ℕ, List, ◌++◌, length, ◌∙◌, ap, sym, subst}
use Rattle.std.proofs.lemmas.Result.{err_from_is_err_and}
use Rattle.potential_certificate.specs.CertificateText.{certificate_text, certificate_text_limit}
use Rattle.prove_work.proofs.WrittenProofs.{IsMadeBy, text_is, writing_fails}
use Rattle.prove_work.proofs.proving.write_proofs.Goals as goal

pub returns-in_err-write_certificate : goal.returns-in_err-write_certificate
returns-in_err-write_certificate c =
    let p = err_from_is_err_and c.from_residual-in_err-write_certificate.result c.from_residual-in_err-write_certificate.ensures.1 in
    let made : IsMadeBy c.args.matcher.now c.params.result.now c.args.traces.now c.in_ok-certificate.certificate =
    record { params = c.params.ensures.is; certificate = c.in_ok-certificate.ensures } in
    rw (p.1, p.2) (writing_fails c.args.matcher.now _ c.args.traces.now c.in_ok-certificate.certificate c.in_err-write_certificate.field-0.0 made c.in_err-write_certificate.ensures.too_long)

pub returns : goal.returns
returns c =
    let made : IsMadeBy c.args.matcher.now c.params.result.now c.args.traces.now c.in_ok-certificate.certificate =
    record { params = c.params.ensures.is; certificate = c.in_ok-certificate.ensures } in
    let is = text_is c.args.matcher.now _ c.args.traces.now c.in_ok-certificate.certificate made in
    let text = certificate_text c.params.result.now c.in_ok-certificate.certificate in
    let written = c.in_ok-write_certificate.ensures.ok ∙ ap (λ (t : List ℕ). t ++ text) c.new-text.ensures in (
      written ∙ is,
      subst (λ (t : List ℕ). length t ≤ certificate_text_limit) (sym written) c.in_ok-write_certificate.ensures.within,
    )
