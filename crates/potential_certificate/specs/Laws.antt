-- A certificate and its text: each gives the other.
use Rattle.std.specs.Prelude.{ℕ, ◌≡◌, ◌≤◌, List, length, Ok}
use Rattle.cost_model.specs.declared.params.Params.{Params}
use Rattle.potential_certificate.specs.CertificateText.{certificate_text, certificate_text_limit}
use Rattle.potential_certificate.specs.HasText.{HasText}
use Rattle.potential_certificate.specs.Reading.{certificate_of_text}
use Rattle.potential_certificate.specs.declared.proof.Certificate.{Certificate}

-- what was written of a certificate that has a text, within the limit, is read as this one
abbrev pub CertificatesReadBack : Type 0
CertificatesReadBack =
    (p : Params) (c : Certificate) → HasText c → length (certificate_text p c) ≤ certificate_text_limit
    → certificate_of_text p (certificate_text p c) ≡ Ok c

-- what a text that is read as a certificate is
pub record IsTextOf (p : Params) (c : Certificate) (text : List ℕ) : Type 0 where
  pub has : HasText c
  pub text_is : text ≡ certificate_text p c
  pub short : length text ≤ certificate_text_limit

abbrev pub CertificatesHaveOneText : Type 0
CertificatesHaveOneText =
    (p : Params) (c : Certificate) (text : List ℕ)
    → certificate_of_text p text ≡ Ok c → IsTextOf p c text
