use Rattle.std.proofs.Common.{◌-◌, ◌≤◌, length}
use Rattle.cert_checker.proofs.RowParts.{HaveFirst}
use Rattle.cert_checker.proofs.row_parts.row_parts.Given as goal

abbrev pub invariant-loop-first : goal.invariant-loop-first
invariant-loop-first l = record {
  within : l.first ≤ length l.rows;
  found : HaveFirst l.rows l.parts l.least l.first;
}

abbrev pub decreases-loop-first : goal.decreases-loop-first
decreases-loop-first l = length l.rows - l.first
