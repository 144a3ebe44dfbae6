use Rattle.std.proofs.Common.{[], ap, rules, ◌∙◌}
use Rattle.std.specs.List.{flat_map}
use Rattle.row_text.specs.RowLine.{row_line}
use Rattle.potential_certificate.specs.CertificateText.{proof_text, certificate_text_limit}
use Rattle.potential_certificate.proofs.WrittenTexts.{long_proofs, long_rows}
use Rattle.potential_certificate.proofs.gathered.Gathered.into_text.Goals as goal

pub returns-in_err-append_proofs-clause-too_long : goal.returns-in_err-append_proofs-clause-too_long
returns-in_err-append_proofs-clause-too_long c = λ is.
    let g = c.args.self in
    long_proofs [] g.first.items (flat_map proof_text g.proofs.items) (flat_map row_line g.rows.items) g.behind.items (flat_map proof_text c.deref.result.now) (flat_map row_line g.rows.items)
    c.from_vec-text.result c.from_vec-text.result (ap (flat_map proof_text) c.deref.ensures.value) (c.from_vec-text.ensures ∙ (λ i. (c.replace-first.ensures.value i).items)) certificate_text_limit (c.append_proofs.ensures.too_long (search (rules, is)))

pub returns-in_err-append_rows-clause-too_long : goal.returns-in_err-append_rows-clause-too_long
returns-in_err-append_rows-clause-too_long c = λ is.
    let g = c.args.self in
    long_rows [] g.first.items (flat_map proof_text g.proofs.items) (flat_map row_line g.rows.items) g.behind.items (flat_map proof_text c.deref.result.now) (flat_map row_line c.deref-2.result.now)
    c.from_vec-text.result c.append_proofs.new.into (ap (flat_map proof_text) c.deref.ensures.value) (c.from_vec-text.ensures ∙ (λ i. (c.replace-first.ensures.value i).items)) (ap (flat_map row_line) c.deref-2.ensures.value)
    c.in_ok-append_proofs.ensures.ok certificate_text_limit (c.append_rows.ensures.too_long (search (rules, is)))
