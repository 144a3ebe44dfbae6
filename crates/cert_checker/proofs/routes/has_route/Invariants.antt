use Rattle.std.proofs.Common.{◌≡◌, ◌-◌}
use Rattle.route_rebuild.specs.Routes.{legs}
use Rattle.cert_checker.specs.inside.CaseSeen.{case_seen}
use Rattle.cert_checker.specs.inside.Legs.{are_names, chosen_in_case}
use Rattle.cert_checker.specs.Verdicts.{has_route}
use Rattle.cert_checker.proofs.routes.has_route.Given as goal

abbrev pub invariant-loop-i : goal.invariant-loop-i
invariant-loop-i l =
    are_names l.case.net.now l.left (legs l.case.net.now l.case.params.now.bound l.case.params.now.back (chosen_in_case (case_seen l.case)) l.i (l.piece.last - l.i))
    ≡ has_route (case_seen l.case) l.piece
