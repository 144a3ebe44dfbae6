use Rattle.std.proofs.Common.{◌+◌, ◌<◌, length, rules, ◌∙◌}
use Rattle.row_text.specs.RowLine.{row_line}
use Rattle.potential_certificate.specs.CertificateText.{certificate_text_limit}
use Rattle.potential_certificate.proofs.KeptFronts.{kept_behind, kept_on, on_err}
use Rattle.potential_certificate.proofs.WrittenLines.{long_part}
use Rattle.potential_certificate.proofs.writing.append_rows.Goals as goal

pub returns-then-is_long-clause-too_long : goal.returns-then-is_long-clause-too_long
returns-then-is_long-clause-too_long c =
    let long : c.args.start + certificate_text_limit < length c.write_row.new.into = search rules in
    λ is. long_part row_line c.args.rows.now c.row-item.result c.loop-row.row-index (c.args.start + certificate_text_limit) c.args.into.now c.loop-row.into c.write_row.new.into c.loop-row-test.true c.row-item.is c.loop-row.invariant.written (search rules) long

pub returns-in_err-write_row-clause-err : goal.returns-in_err-write_row-clause-err
returns-in_err-write_row-clause-err c =
    on_err _ (kept_on c.args.into.now _ c.write_row.new.into (search (rules, c.write_row.ensures.err) ∙ c.loop-row.invariant.written))

pub returns-then-is_long-clause-err : goal.returns-then-is_long-clause-err
returns-then-is_long-clause-err c =
    kept_behind c.args.into.now _ c.loop-row.into c.write_row.new.into c.loop-row.invariant.written (kept_on c.loop-row.into _ c.write_row.new.into c.in_ok-write_row.ensures.ok)
