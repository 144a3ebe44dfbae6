use Rattle.std.proofs.Common.{◌∷◌, [], None, Some, subst, option_copied}
use Rattle.road_network.specs.declared.Candidate.{Candidate}
use Rattle.cert_checker.specs.inside.CaseSeen.{case_seen}
use Rattle.cert_checker.specs.inside.Legs.{IsLeftAfter, leg}
use Rattle.cert_checker.proofs.RouteLegs.{begins_otherwise, first_left, leg_differs, legs_left}
use Rattle.cert_checker.proofs.routes.has_route.Goals as goal

pub returns-in_default : goal.returns-in_default
returns-in_default c =
    let k = case_seen c.args.case.now in
    let q = c.args.piece.now in
    begins_otherwise k q (subst (λ (x : Candidate). IsLeftAfter k.net q.route (x.edge.0 ∷ []) None) c.chosen-first.ensures
    (subst (λ names. IsLeftAfter k.net names (c.chosen-first.result.edge.0 ∷ []) None) c.as_slice.ensures c.in_default.ensures))

pub loop-i-init : goal.loop-i-init
loop-i-init c =
    let k = case_seen c.args.case.now in
    let q = c.args.piece.now in
    first_left k q c.in-Some.left.now (subst (λ (x : Candidate). IsLeftAfter k.net q.route (x.edge.0 ∷ []) (Some c.in-Some.left.now)) c.chosen-first.ensures
    (subst (λ names. IsLeftAfter k.net names (c.chosen-first.result.edge.0 ∷ []) (Some c.in-Some.left.now)) c.as_slice.ensures c.in-Some.ensures))

pub returns-in_default-2 : goal.returns-in_default-2
returns-in_default-2 c =
    let k = case_seen c.args.case.now in
    let q = c.args.piece.now in
    leg_differs k q c.loop-i.left.now c.loop-i.i c.loop-i-test.true
    (subst (λ o. IsLeftAfter k.net c.loop-i.left.now (leg k c.loop-i.i) (option_copied o)) c.in_default-2.is c.in_ok-rest.ensures) c.loop-i.invariant

pub loop-i-preserved : goal.loop-i-preserved
loop-i-preserved c =
    let k = case_seen c.args.case.now in
    let q = c.args.piece.now in
    legs_left k q c.loop-i.left.now c.in-Some-2.rest.now c.loop-i.i c.loop-i-test.true
    (subst (λ o. IsLeftAfter k.net c.loop-i.left.now (leg k c.loop-i.i) (option_copied o)) c.in-Some-2.is c.in_ok-rest.ensures) c.loop-i.invariant
