use Rattle.potential_certificate.proofs.CertificateFaults.{read_bad_line, read_cut}
use Rattle.potential_certificate.proofs.reading.read_certificate.Goals as goal

pub returns-clause-bad_line : goal.returns-clause-bad_line
returns-clause-bad_line c = λ n e.
    read_bad_line c.args.p.now c.args.text.now c.read_text.result n c.known_options.ensures c.read_text.ensures.err e

pub returns-clause-cut : goal.returns-clause-cut
returns-clause-cut c = λ e.
    read_cut c.args.p.now c.args.text.now c.read_text.result c.known_options.ensures c.read_text.ensures.err e
