use Rattle.potential_certificate.proofs.Certificates as certificates
use Rattle.potential_certificate.proofs.laws.certificates_have_one_text.Goals as goal

pub returns : goal.returns
returns c = certificates.certificates_have_one_text
