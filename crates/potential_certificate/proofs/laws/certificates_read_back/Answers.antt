use Rattle.potential_certificate.proofs.Certificates as certificates
use Rattle.potential_certificate.proofs.laws.certificates_read_back.Goals as goal

pub returns : goal.returns
returns c = certificates.certificates_read_back
