use Rattle.cert_checker.specs.inside.CaseSeen.{case_seen}
use Rattle.cert_checker.specs.inside.Columns.{AreWaysOf}
use Rattle.cert_checker.proofs.point_ways.ways_by_columns.Given as goal

abbrev pub invariant-loop-j : goal.invariant-loop-j
invariant-loop-j l = AreWaysOf (case_seen l.case) l.i l.j l.found
