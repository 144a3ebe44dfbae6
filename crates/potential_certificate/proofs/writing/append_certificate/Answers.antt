use Rattle.std.proofs.Common.{◌≡◌, ◌+◌, ◌<◌, ℕ, List, ◌++◌, length, ap, subst, ◌∙◌, rules}
use Rattle.std.specs.List.{flat_map}
use Rattle.row_text.specs.RowLine.{row_line}
use Rattle.potential_certificate.specs.CertificateText.{certificate_text, certificate_first_line, last_line, proof_text, certificate_text_limit}
use Rattle.potential_certificate.proofs.KeptFronts.{kept_behind, kept_on, on_err}
use Rattle.potential_certificate.proofs.WrittenTexts.{all_written, long_proofs, long_rows}
use Rattle.potential_certificate.proofs.writing.append_certificate.Goals as goal
use Rattle.potential_certificate.proofs.writing.append_certificate.Goals.{In_ok-append_finish}

pub returns-in_err-append_proofs-clause-too_long : goal.returns-in_err-append_proofs-clause-too_long
returns-in_err-append_proofs-clause-too_long c = λ is.
    let whole = c.args.c.now in
    long_proofs c.args.into.now (certificate_first_line c.args.p.now) (flat_map proof_text whole.proofs) (flat_map row_line whole.rows) (last_line (length whole.proofs) (length whole.rows))
    (flat_map proof_text c.as_slice.result.now) (flat_map row_line whole.rows) c.append_begin.new.into c.append_begin.new.into
    (ap (flat_map proof_text) c.as_slice.ensures) c.in_ok-append_begin.ensures.ok (c.args.start + certificate_text_limit) (c.append_proofs.ensures.too_long (search (rules, is)))

pub returns-in_err-append_rows-clause-too_long : goal.returns-in_err-append_rows-clause-too_long
returns-in_err-append_rows-clause-too_long c = λ is.
    let whole = c.args.c.now in
    long_rows c.args.into.now (certificate_first_line c.args.p.now) (flat_map proof_text whole.proofs) (flat_map row_line whole.rows) (last_line (length whole.proofs) (length whole.rows))
    (flat_map proof_text c.as_slice.result.now) (flat_map row_line c.as_slice-2.result.now) c.append_begin.new.into c.append_proofs.new.into
    (ap (flat_map proof_text) c.as_slice.ensures) c.in_ok-append_begin.ensures.ok (ap (flat_map row_line) c.as_slice-2.ensures) c.in_ok-append_proofs.ensures.ok
    (c.args.start + certificate_text_limit) (c.append_rows.ensures.too_long (search (rules, is)))

-- the whole text stands there
written : (c : In_ok-append_finish) → c.append_finish.new.into ≡ c.args.into.now ++ certificate_text c.args.p.now c.args.c.now
written c =
    let whole = c.args.c.now in
    all_written c.args.into.now (certificate_first_line c.args.p.now) (flat_map proof_text whole.proofs) (flat_map row_line whole.rows) (last_line (length whole.proofs) (length whole.rows))
    (flat_map proof_text c.as_slice.result.now) (flat_map row_line c.as_slice-2.result.now) c.append_begin.new.into c.append_proofs.new.into
    (ap (flat_map proof_text) c.as_slice.ensures) c.in_ok-append_begin.ensures.ok (ap (flat_map row_line) c.as_slice-2.ensures) c.in_ok-append_proofs.ensures.ok
    c.append_rows.new.into c.append_finish.new.into c.in_ok-append_rows.ensures.ok c.in_ok-append_finish.ensures.ok

pub returns-clause-ok : goal.returns-clause-ok
returns-clause-ok c = written (goal.at.returns-clause-ok c).In_ok-append_finish

pub returns-in_err-append_proofs-clause-err : goal.returns-in_err-append_proofs-clause-err
returns-in_err-append_proofs-clause-err c =
    on_err _ (kept_behind c.args.into.now (certificate_first_line c.args.p.now) c.append_begin.new.into c.append_proofs.new.into c.in_ok-append_begin.ensures.ok (search (rules, c.append_proofs.ensures.err)))

pub returns-in_err-append_rows-clause-err : goal.returns-in_err-append_rows-clause-err
returns-in_err-append_rows-clause-err c =
    on_err _ (kept_behind c.args.into.now (certificate_first_line c.args.p.now) c.append_begin.new.into c.append_rows.new.into c.in_ok-append_begin.ensures.ok
    (kept_behind c.append_begin.new.into (flat_map proof_text c.as_slice.result.now) c.append_proofs.new.into c.append_rows.new.into c.in_ok-append_proofs.ensures.ok (search (rules, c.append_rows.ensures.err))))

pub returns-in_err-append_finish-clause-err : goal.returns-in_err-append_finish-clause-err
returns-in_err-append_finish-clause-err c =
    let whole = c.args.c.now in
    on_err _ (kept_behind c.args.into.now (certificate_first_line c.args.p.now) c.append_begin.new.into c.append_finish.new.into c.in_ok-append_begin.ensures.ok
    (kept_behind c.append_begin.new.into (flat_map proof_text c.as_slice.result.now) c.append_proofs.new.into c.append_finish.new.into c.in_ok-append_proofs.ensures.ok
    (kept_on c.append_proofs.new.into (flat_map row_line c.as_slice-2.result.now) c.append_finish.new.into (search (rules, c.append_finish.ensures.err) ∙ c.in_ok-append_rows.ensures.ok))))

pub returns-then-is_long-clause-err : goal.returns-then-is_long-clause-err
returns-then-is_long-clause-err c =
    kept_on c.args.into.now (certificate_text c.args.p.now c.args.c.now) c.append_finish.new.into (written (goal.at.returns-then-is_long-clause-err c).In_ok-append_finish)

pub returns-then-is_long-clause-too_long : goal.returns-then-is_long-clause-too_long
returns-then-is_long-clause-too_long c = λ _.
    subst (λ (t : List ℕ). c.args.start + certificate_text_limit < length t) (written (goal.at.returns-then-is_long-clause-too_long c).In_ok-append_finish) (search (rules, c.if-is_long.true))
