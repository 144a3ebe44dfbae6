use Rattle.potential_certificate.proofs.CertificateFaults as faults
use Rattle.potential_certificate.proofs.laws.bad_lines_are_first.Goals as goal

pub returns : goal.returns
returns c = faults.bad_lines_are_first
