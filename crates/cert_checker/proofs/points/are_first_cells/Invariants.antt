use Rattle.std.proofs.Common.{◌≡◌, true}
use Rattle.cert_checker.specs.inside.CaseSeen.{case_seen}
use Rattle.cert_checker.specs.inside.Columns.{is_first_at}
use Rattle.cert_checker.specs.Verdicts.{each_below}
use Rattle.cert_checker.proofs.points.are_first_cells.Given as goal

abbrev pub invariant-loop-j : goal.invariant-loop-j
invariant-loop-j l = each_below l.j (is_first_at (case_seen l.case) l.i) ≡ true
