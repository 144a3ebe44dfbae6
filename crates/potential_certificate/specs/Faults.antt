-- What the faults of a certificate's text mean.
use Rattle.std.specs.Prelude.{ℕ, ◌≡◌, ◌↔◌, ◌<◌, ◌≤◌, ◌^◌, List, length, Err}
use Rattle.cost_model.specs.declared.params.Params.{Params}
use Rattle.row_text.specs.LineFaults.{IsCutOf, IsFirstBadLineOf}
use Rattle.potential_certificate.specs.CertificateText.{certificate_lines, certificate_text_limit}
use Rattle.potential_certificate.specs.HasText.{HasText}
use Rattle.potential_certificate.specs.Reading.{certificate_of_text}
use Rattle.potential_certificate.specs.declared.fault.CertFault.TheVariants.{BadLine, Cut}
use Rattle.potential_certificate.specs.declared.proof.Certificate.{Certificate}

-- these are the lines of a certificate, for these options
pub record IsCertificate (p : Params) (lines : List (List ℕ)) : Type 0 where
  pub certificate : Certificate
  pub has : HasText certificate
  pub lines_are : lines ≡ certificate_lines p certificate

-- the options of the first line have the range of their types
pub record OptionsFit (p : Params) : Type 0 where
  pub k : p.k < 2 ^ 32
  pub radius : p.radius < 2 ^ 32
  pub sigma : p.sigma < 2 ^ 32
  pub beta : p.beta < 2 ^ 32
  pub bound : p.bound < 2 ^ 32
  pub back : p.back < 2 ^ 32
  pub gap : p.gap < 2 ^ 32

abbrev pub BadCertificateLinesAreFirst : Type 0
BadCertificateLinesAreFirst =
    (p : Params) (text : List ℕ) (n : ℕ) → OptionsFit p
    → (certificate_of_text p text ≡ Err (BadLine n))
    ↔ ((length text ≤ certificate_text_limit) × IsFirstBadLineOf (IsCertificate p) n text)

abbrev pub CutCertificatesLackTheirEnd : Type 0
CutCertificatesLackTheirEnd =
    (p : Params) (text : List ℕ) → OptionsFit p
    → (certificate_of_text p text ≡ Err Cut) ↔ ((length text ≤ certificate_text_limit) × IsCutOf (IsCertificate p) text)
