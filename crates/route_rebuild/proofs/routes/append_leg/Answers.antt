use Rattle.std.proofs.Common.{◌++◌, ◌∷◌, [], List, Result, Ok, Err, OnOk, ap, reverse, sym, ◌∙◌, arith}
use Rattle.std.proofs.lemmas.Bool.{eqb-true}
use Rattle.std.proofs.lemmas.Bool.Decides.{nat_tests}
use Rattle.bounded_table.proofs.Asking.{asks_done, asks_err, asks_known, asks_ok}
use Rattle.matching.specs.Routes.{Direct, IsRoute}
use Rattle.road_network.specs.Net.{HasEdge, source, target}
use Rattle.road_network.specs.Walk.{IsLeastWalk}
use Rattle.road_network.specs.declared.Candidate.{Candidate}
use Rattle.road_network.specs.declared.EdgeId.{EdgeId}
use Rattle.route_rebuild.specs.Numbers.{numbers}
use Rattle.route_rebuild.specs.inside.Runs.{HasWalk, IsDirectLeg}
use Rattle.route_rebuild.proofs.RouteSoFar.{asks_walk, direct_leg, leg_edges, leg_walk, offset_fits, walk_leg}
use Rattle.route_rebuild.proofs.routes.append_leg.Goals as goal
use Rattle.route_rebuild.proofs.routes.append_leg.Goals.{else-eq-via-then-eq+else-a-b, else-eq-via-else-eq}

pub chosen-a-requires : goal.chosen-a-requires
chosen-a-requires g c = omega (arith, c.requires.point)

pub overflow_add-b : goal.overflow_add-b
overflow_add-b g c = rw c.chosen-b.ensures (omega (arith, offset_fits c.args.run.now c.args.i c.invariants.ensures c.requires.point))

pub returns-then-a-b-clause-leg : goal.returns-then-a-b-clause-leg
returns-then-a-b-clause-leg g c =
    let run = c.args.run.now in
    let is : IsRoute run.net.now run.params.now.bound run.params.now.back c.chosen-a.result c.chosen-b.result Direct = (eqb-true c.chosen-a.result.edge.0 c.chosen-b.result.edge.0 (sym c.if-eq.ensures), c.if-a-b.true) in
    direct_leg run c.args.i (numbers c.args.edges.now) (rw (c.chosen-a.ensures, c.chosen-b.ensures) at is)

pub returns-then-a-b-clause-asks : goal.returns-then-a-b-clause-asks
returns-then-a-b-clause-asks g c =
    let run = c.args.run.now in
    let is : IsRoute run.net.now run.params.now.bound run.params.now.back c.chosen-a.result c.chosen-b.result Direct = (eqb-true c.chosen-a.result.edge.0 c.chosen-b.result.edge.0 (sym c.if-eq.ensures), c.if-a-b.true) in
    let direct : IsDirectLeg run c.args.i = rw (c.chosen-a.ensures, c.chosen-b.ensures) at is in
    asks_done (asks_known (λ v start. absurd (start.0 direct)))

pub to-requires : goal.to-requires
to-requires g c = rw c.chosen-a.ensures (leg_edges c.args.run.now c.args.i c.requires.point).0

pub from-requires : goal.from-requires
from-requires g c = rw c.chosen-b.ensures (leg_edges c.args.run.now c.args.i c.requires.point).1

pub walk_between-requires-clause-node : goal.walk_between-requires-clause-node
walk_between-requires-clause-node g c =
    let has : HasEdge c.args.run.now.net.now c.chosen-a.result.edge.0 = rw c.chosen-a.ensures (leg_edges c.args.run.now c.args.i c.requires.point).0 in
    rw c.to.ensures (c.invariants.ensures.targets c.chosen-a.result.edge.0 has)

pub walk_between-requires-clause-joined : goal.walk_between-requires-clause-joined
walk_between-requires-clause-joined g c =
    let run = c.args.run.now in
    let none : IsDirectLeg run c.args.i → ⊥ = λ direct.
    let is : IsRoute run.net.now run.params.now.bound run.params.now.back c.chosen-a.result c.chosen-b.result Direct = rw (c.chosen-a.ensures, c.chosen-b.ensures) direct in
    elim c.else-eq.branch [ else-eq-via-then-eq+else-a-b w ↦ omega (arith, is.1) | else-eq-via-else-eq w ↦ let same = is.0 in grind (arith, nat_tests) ] in
    let found : HasWalk run.net.now run.params.now.bound c.chosen-a.result.edge.0 c.chosen-b.result.edge.0 =
    rw (c.chosen-a.ensures, c.chosen-b.ensures) (leg_walk run c.args.i c.invariants.ensures c.requires.point none) in
    rw (c.to.ensures, c.from.ensures) found

pub returns-in_err-between-clause-asks : goal.returns-in_err-between-clause-asks
returns-in_err-between-clause-asks g c =
    let run = c.args.run.now in
    let none : IsRoute run.net.now run.params.now.bound run.params.now.back c.chosen-a.result c.chosen-b.result Direct → ⊥ = λ is.
    elim c.else-eq.branch [ else-eq-via-then-eq+else-a-b w ↦ omega (arith, is.1) | else-eq-via-else-eq w ↦ let same = is.0 in grind (arith, nat_tests) ] in
    asks_err (asks_walk run c.args.i _ _ _ c.chosen-a.ensures c.chosen-b.ensures none c.to.ensures c.walk_between.ensures.asks).only c.from_residual.ensures.0

pub returns-in_err-extend_from_slice-clause-asks : goal.returns-in_err-extend_from_slice-clause-asks
returns-in_err-extend_from_slice-clause-asks g c =
    let run = c.args.run.now in
    let none : IsRoute run.net.now run.params.now.bound run.params.now.back c.chosen-a.result c.chosen-b.result Direct → ⊥ = λ is.
    elim c.else-eq.branch [ else-eq-via-then-eq+else-a-b w ↦ omega (arith, is.1) | else-eq-via-else-eq w ↦ let same = is.0 in grind (arith, nat_tests) ] in
    asks_err (asks_walk run c.args.i _ _ _ c.chosen-a.ensures c.chosen-b.ensures none c.to.ensures c.walk_between.ensures.asks).only c.from_residual-in_err-extend_from_slice.ensures.0

on_by : {A E P Q : Type 0} (r : Result A E) → OnOk r P → (P → Q) → OnOk r Q
on_by (Ok x) p f = f p
on_by (Err e) p f = tt

pub returns-clause-leg : goal.returns-clause-leg
returns-clause-leg g c =
    let run = c.args.run.now in
    let i = c.args.i in
    let edges = c.args.edges.now in
    let walk : List EdgeId = c.in_ok-between.between in
    let none : IsDirectLeg run i → ⊥ = λ direct.
    let is : IsRoute run.net.now run.params.now.bound run.params.now.back c.chosen-a.result c.chosen-b.result Direct = rw (c.chosen-a.ensures, c.chosen-b.ensures) direct in
    elim c.else-eq.branch [ else-eq-via-then-eq+else-a-b w ↦ omega (arith, is.1) | else-eq-via-else-eq w ↦ let same = is.0 in grind (arith, nat_tests) ] in
    let n = run.net.now in
    let least : IsLeastWalk n (target n c.chosen-a.result.edge.0) (reverse (numbers walk)) (source n c.chosen-b.result.edge.0) =
    rw (c.to.ensures, c.from.ensures) at c.in_ok-between.ensures.walk in
    let found = leg_walk run i c.invariants.ensures c.requires.point none in
    on_by c.push.result c.push.ensures.ok (λ pushed.
    walk_leg run i edges walk c.push.new.self found none (rw (c.chosen-a.ensures, c.chosen-b.ensures) at least)
    (pushed
    ∙ ap (λ (k : List EdgeId). k ++ c.chosen-b.result.edge ∷ []) (c.in_ok-extend_from_slice.ensures.ok ∙ ap (λ (k : List EdgeId). edges ++ k) c.as_slice.ensures)
    ∙ ap (λ (x : Candidate). (edges ++ walk) ++ x.edge ∷ []) c.chosen-b.ensures))

pub returns-clause-asks : goal.returns-clause-asks
returns-clause-asks g c =
    let run = c.args.run.now in
    let none : IsRoute run.net.now run.params.now.bound run.params.now.back c.chosen-a.result c.chosen-b.result Direct → ⊥ = λ is.
    elim c.else-eq.branch [ else-eq-via-then-eq+else-a-b w ↦ omega (arith, is.1) | else-eq-via-else-eq w ↦ let same = is.0 in grind (arith, nat_tests) ] in
    asks_done (asks_ok (asks_walk run c.args.i _ _ _ c.chosen-a.ensures c.chosen-b.ensures none c.to.ensures c.walk_between.ensures.asks) c.in_ok-between.was)
