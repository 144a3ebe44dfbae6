use Rattle.potential_certificate.proofs.CertificateFaults as faults
use Rattle.potential_certificate.proofs.laws.cuts_lack_their_end.Goals as goal

pub returns : goal.returns
returns c = faults.cuts_lack_their_end
