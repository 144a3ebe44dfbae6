use Rattle.potential_certificate.specs.CertificateText.{certificate_text, certificate_text_limit}
use Rattle.potential_certificate.proofs.WrittenTexts.{long_alone, short_alone}
use Rattle.potential_certificate.proofs.writing.write_certificate.Goals as goal

pub returns-then-is_err-clause-too_long : goal.returns-then-is_err-clause-too_long
returns-then-is_err-clause-too_long c = λ is.
    long_alone c.args.into.now (certificate_text c.args.p.now c.args.c.now) c.len-start.result certificate_text_limit c.len-start.ensures (c.append_certificate-written.ensures.too_long is)

pub returns-else-is_err-clause-ok : goal.returns-else-is_err-clause-ok
returns-else-is_err-clause-ok c = c.append_certificate-written.ensures.ok

pub returns-else-is_err-clause-within : goal.returns-else-is_err-clause-within
returns-else-is_err-clause-within c =
    short_alone c.args.into.now (certificate_text c.args.p.now c.args.c.now) c.len-start.result certificate_text_limit c.len-start.ensures c.append_certificate-written.result c.append_certificate-written.new.into
    c.append_certificate-written.ensures.ok c.append_certificate-written.ensures.within
