-- The text of a certificate that is written.
use Rattle.std.proofs.Common.{◌≡◌, ◌<◌, ℕ, List, Result, Err, length, refl, ◌∙◌, ap, subst}
use Rattle.std.specs.Prelude.{IsErrOf}
use Rattle.cost_model.specs.declared.params.Params.{Params}
use Rattle.potential_certificate.specs.CertificateText.{certificate_text, certificate_text_limit}
use Rattle.potential_certificate.specs.declared.fault.WriteFault.{WriteFault}
use Rattle.potential_certificate.specs.declared.fault.WriteFault.TheVariants.{TooLong, Memory}
use Rattle.potential_certificate.specs.declared.proof.Certificate.{Certificate}
use Rattle.prove_work.specs.Certificates.{certificate_of}
use Rattle.trace_reader.specs.declared.trace.Trace.{Trace}
use Rattle.trace_match.specs.Setting.{Setting}
use Rattle.prove_work.specs.Prove.{text_of_proofs}
use Rattle.prove_work.specs.inside.ProveDone.{WritesProofs}

-- the certificate was made by the options of the setting
pub record IsMadeBy (on : Setting) (p : Params) (traces : List Trace) (c : Certificate) : Type 0 where
  pub params : p ≡ on.params
  pub certificate : c ≡ certificate_of on traces

pub text_is : (on : Setting) (p : Params) (traces : List Trace) (c : Certificate) → IsMadeBy on p traces c → certificate_text p c ≡ text_of_proofs on traces
text_is on p traces c made =
    ap (certificate_text p) made.certificate
    ∙ ap (λ (q : Params). certificate_text q (certificate_of on traces)) made.params

abbrev pub failed : WriteFault → Result (Unit {0}) WriteFault
failed fault = Err fault

pub writing_fails : (on : Setting) (p : Params) (traces : List Trace) (c : Certificate) (fault : WriteFault) → IsMadeBy on p traces c
    → (IsErrOf (failed fault) TooLong → certificate_text_limit < length (certificate_text p c)) → WritesProofs on traces (Err fault)
writing_fails on p traces c TooLong made long = subst (λ (t : List ℕ). certificate_text_limit < length t) (text_is on p traces c made) (long refl)
writing_fails on p traces c Memory made long = tt
