use Rattle.std.proofs.Common.{◌≡◌, true}
use Rattle.cert_checker.specs.inside.CaseSeen.{case_seen}
use Rattle.cert_checker.specs.inside.Columns.{has_row_of}
use Rattle.cert_checker.specs.Verdicts.{each_below}
use Rattle.cert_checker.proofs.points.has_rows.Given as goal

abbrev pub invariant-loop-a : goal.invariant-loop-a
invariant-loop-a l = each_below l.a (has_row_of (case_seen l.case) l.i) ≡ true
