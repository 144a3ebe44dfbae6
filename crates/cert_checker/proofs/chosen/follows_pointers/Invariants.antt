use Rattle.std.proofs.Common.{◌≡◌, ◌-◌, true}
use Rattle.cert_checker.specs.inside.CaseSeen.{case_seen}
use Rattle.cert_checker.specs.Verdicts.{each_below}
use Rattle.cert_checker.proofs.PointersBack.{is_pointed_in}
use Rattle.cert_checker.proofs.chosen.follows_pointers.Given as goal

abbrev pub invariant-loop-i : goal.invariant-loop-i
invariant-loop-i l = each_below (l.i - l.piece.first) (is_pointed_in (case_seen l.case) l.piece) ≡ true
