use Rattle.std.proofs.Common.{◌≡◌, ◌⊎◌, Err, Result, ap, sym, subst, ◌∙◌, rules}
use Rattle.potential_certificate.specs.Reading.{certificate_of_text, rows_and_end}
use Rattle.potential_certificate.specs.declared.fault.CertFault.{CertFault}
use Rattle.potential_certificate.specs.declared.fault.CertFault.TheVariants.{Memory}
use Rattle.potential_certificate.specs.declared.proof.Certificate.{Certificate}
use Rattle.potential_certificate.proofs.reading.read_text.Goals as goal

pub returns-in_err-check_end-clause-err : goal.returns-in_err-check_end-clause-err
returns-in_err-check_end-clause-err c =
    let fault = c.in_err-check_end.field-0.0 in
    let end = c.in_ok-proofs.ensures.ok ∙ ap (rows_and_end c.args.text.now c.in_ok-proofs.proofs) c.in_ok-rows.ensures in
    let is : (fault ≡ Memory) ⊎ (certificate_of_text c.args.p.now c.args.text.now ≡ Err fault) =
    subst (λ (t : Result Certificate CertFault). (fault ≡ Memory) ⊎ (t ≡ Err fault)) (sym end) c.in_err-check_end.ensures.err in
    search (rules, is)

pub returns-clause-ok : goal.returns-clause-ok
returns-clause-ok c = c.in_ok-proofs.ensures.ok ∙ ap (rows_and_end c.args.text.now c.in_ok-proofs.proofs) c.in_ok-rows.ensures ∙ c.in_ok-check_end.ensures.ok
