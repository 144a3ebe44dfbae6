use Rattle.std.proofs.Common.{◌≡◌, ◌<◌, inr, length, rules}
use Rattle.potential_certificate.specs.CertificateText.{last_line}
use Rattle.potential_certificate.proofs.Ends.{ends, goes_past, lacks_end}
use Rattle.potential_certificate.proofs.reading.check_end.Goals as goal

pub returns-in_default-clause-err : goal.returns-in_default-clause-err
returns-in_default-clause-err c =
    let read = c.args.certificate.now in
    let line = last_line (length read.proofs) (length read.rows) in
    let last : c.as_slice.result.now ≡ line = search rules in
    inr (lacks_end c.args.whole.now c.args.left.now line c.as_slice.result.now last read c.fault_at.result c.in_default.ensures c.fault_at.ensures)

pub returns-then-is_empty-clause-ok : goal.returns-then-is_empty-clause-ok
returns-then-is_empty-clause-ok c =
    let read = c.args.certificate.now in
    let line = last_line (length read.proofs) (length read.rows) in
    let last : c.as_slice.result.now ≡ line = search rules in
    let none : length c.in-Some.behind.now ≡ 0 = search (rules, c.if-is_empty.ensures) in
    ends c.args.whole.now c.args.left.now line c.as_slice.result.now last read c.in-Some.behind.now c.in-Some.ensures none

pub returns-clause-err : goal.returns-clause-err
returns-clause-err c =
    let read = c.args.certificate.now in
    let line = last_line (length read.proofs) (length read.rows) in
    let last : c.as_slice.result.now ≡ line = search rules in
    let some : 0 < length c.in-Some.behind.now = search (rules, c.if-is_empty.ensures) in
    inr (goes_past c.args.whole.now c.args.left.now line c.as_slice.result.now last read c.in-Some.behind.now c.line_number.result c.in-Some.ensures some c.line_number.ensures)
