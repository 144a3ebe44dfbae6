use Rattle.std.proofs.Common.{◌≡◌, ◌≤◌, drop, length}
use Rattle.cert_checker.specs.Rows.{bad_row_from}
use Rattle.cert_checker.proofs.rows.check_rows.Given as goal

abbrev pub invariant-loop-place : goal.invariant-loop-place
invariant-loop-place l = record {
  few : l.place ≤ l.least;
  within : l.least ≤ length l.net.nodes;
  rest : bad_row_from l.net l.bound l.least l.place (drop l.place l.rows) ≡ bad_row_from l.net l.bound 0 0 l.rows;
}
