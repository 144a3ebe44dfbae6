use Rattle.std.proofs.Common.{◌≡◌, ◌+◌, drop}
use Rattle.cert_checker.specs.inside.RowParts.{bad_in_part}
use Rattle.cert_checker.specs.Rows.{bad_row_from}
use Rattle.cert_checker.proofs.checked_rows.first_bad.Given as goal

abbrev pub invariant-loop-place : goal.invariant-loop-place
invariant-loop-place l = record {
  same : l.checker ≡ l.fn.checker;
  rest : bad_row_from l.net l.fn.checker.bound l.least (l.part.first + l.place) (drop l.place l.part.rows.now) ≡ bad_in_part l.net l.fn.checker.bound l.part;
}
