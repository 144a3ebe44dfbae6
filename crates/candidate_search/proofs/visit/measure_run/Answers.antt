use Rattle.std.proofs.Common.{ap, length, arith, subst, sym, ◌∙◌}
use Rattle.polyline_geometry.specs.Plane.{IsLine}
use Rattle.candidate_search.proofs.Visiting.{stays, pair_steps, seen_far, taken_steps}
use Rattle.std.proofs.lemmas.Result.{on_ok_weaker}
use Rattle.polyline_geometry.specs.Nearest.{AreFar, AreNearest}
use Rattle.candidate_search.specs.declared.best.NearEdge.{NearEdge}
use Rattle.candidate_search.specs.inside.Best.{AreNearestIn}
use Rattle.candidate_search.proofs.Twins.{no_twin, own_near, seen_both, taken_own, taken_twin, twin_near}
use Rattle.candidate_search.proofs.visit.measure_run.Goals as goal

pub returns-in_default-clause-seen : goal.returns-in_default-clause-seen
returns-in_default-clause-seen c =
    let r = c.args.run in
    let search = c.args.search in
    let far = subst (λ l. AreFar l search.at c.args.limit r.first r.end) c.line.ensures c.in_default.ensures in
    seen_far c.args.net.now search c.args.found.now.items r c.args.limit c.invariants.ensures c.requires.run c.requires.limit far

pub returns-in-None-clause-steps : goal.returns-in-None-clause-steps
returns-in-None-clause-steps c =
    let net = c.args.net.now in
    let search = c.args.search in
    let r = c.args.run in
    let s = c.in-Some.near in
    let nearest : AreNearestIn net search r s = record {
      run = c.requires.run;
      nearest = subst (λ l. AreNearest l search.at r.first r.end s) c.line.ensures c.in-Some.ensures.0;
      close = omega (arith, c.in-Some.ensures.1, c.requires.limit.low);
    }
    in
    let own : NearEdge = record { edge = r.edge; segment = s.first; d2 = s.d2 } in
    on_ok_weaker c.take_near.result
    (λ takes. taken_steps net search c.args.found.now.items c.take_near.new.found.items own c.requires.best (own_near net search r s nearest) takes)
    c.take_near.ensures

pub returns-in-None-clause-seen : goal.returns-in-None-clause-seen
returns-in-None-clause-seen c =
    let net = c.args.net.now in
    let search = c.args.search in
    let r = c.args.run in
    let s = c.in-Some.near in
    let nearest : AreNearestIn net search r s = record {
      run = c.requires.run;
      nearest = subst (λ l. AreNearest l search.at r.first r.end s) c.line.ensures c.in-Some.ensures.0;
      close = omega (arith, c.in-Some.ensures.1, c.requires.limit.low);
    }
    in
    let new = c.take_near.new.found.items in
    on_ok_weaker c.take_near.result
    (λ takes. seen_both net search new r c.invariants.ensures c.requires.run (taken_own net search new r s nearest takes.taken) (no_twin net search new r (sym c.twin.ensures ∙ c.in-None.is)))
    c.take_near.ensures

pub returns-in-Some-twin-clause-steps : goal.returns-in-Some-twin-clause-steps
returns-in-Some-twin-clause-steps c =
    let net = c.args.net.now in
    let search = c.args.search in
    let r = c.args.run in
    let s = c.in-Some.near in
    let nearest : AreNearestIn net search r s = record {
      run = c.requires.run;
      nearest = subst (λ l. AreNearest l search.at r.first r.end s) c.line.ensures c.in-Some.ensures.0;
      close = omega (arith, c.in-Some.ensures.1, c.requires.limit.low);
    }
    in
    let own : NearEdge = record { edge = r.edge; segment = s.first; d2 = s.d2 } in
    let twin : NearEdge = c.nearest_of_twin.result in
    on_ok_weaker c.take_pair.result
    (λ takes. pair_steps net search c.args.found.now.items c.take_pair.new.found.items own twin c.requires.best (own_near net search r s nearest)
    (twin_near net search r c.in-Some-twin.twin s twin c.invariants.ensures nearest (sym c.twin.ensures ∙ c.in-Some-twin.is) c.nearest_of_twin.ensures) takes)
    c.take_pair.ensures

pub returns-in-Some-twin-clause-seen : goal.returns-in-Some-twin-clause-seen
returns-in-Some-twin-clause-seen c =
    let net = c.args.net.now in
    let search = c.args.search in
    let r = c.args.run in
    let s = c.in-Some.near in
    let nearest : AreNearestIn net search r s = record {
      run = c.requires.run;
      nearest = subst (λ l. AreNearest l search.at r.first r.end s) c.line.ensures c.in-Some.ensures.0;
      close = omega (arith, c.in-Some.ensures.1, c.requires.limit.low);
    }
    in
    let twin : NearEdge = c.nearest_of_twin.result in
    let new = c.take_pair.new.found.items in
    on_ok_weaker c.take_pair.result
    (λ takes. seen_both net search new r c.invariants.ensures c.requires.run (taken_own net search new r s nearest takes.first_taken)
    (taken_twin net search new r c.in-Some-twin.twin s twin nearest (sym c.twin.ensures ∙ c.in-Some-twin.is) c.nearest_of_twin.ensures takes.second_taken))
    c.take_pair.ensures

pub line-requires : goal.line-requires
line-requires c = c.requires.run.has

pub nearest_segments-requires-clause-p_in : goal.nearest_segments-requires-clause-p_in
nearest_segments-requires-clause-p_in c = c.args.search.at_in

pub returns-in_default-clause-steps : goal.returns-in_default-clause-steps
returns-in_default-clause-steps c = stays c.args.net.now c.args.search c.args.found.now.items c.requires.best

pub take_near-requires-clause-few : goal.take_near-requires-clause-few
take_near-requires-clause-few c = c.requires.best.few

pub take_near-requires-clause-apart : goal.take_near-requires-clause-apart
take_near-requires-clause-apart c = c.requires.best.apart

pub take_pair-requires-clause-few : goal.take_pair-requires-clause-few
take_pair-requires-clause-few c = c.requires.best.few

pub take_pair-requires-clause-apart : goal.take_pair-requires-clause-apart
take_pair-requires-clause-apart c = c.requires.best.apart

pub nearest_of_twin-requires-clause-run : goal.nearest_of_twin-requires-clause-run
nearest_of_twin-requires-clause-run c = c.requires.run

pub nearest_segments-requires-clause-line : goal.nearest_segments-requires-clause-line
nearest_segments-requires-clause-line c = subst IsLine (sym c.line.ensures) (c.invariants.ensures.lines c.args.run.edge.0 c.requires.run.has)

pub nearest_segments-requires-clause-order : goal.nearest_segments-requires-clause-order
nearest_segments-requires-clause-order c = omega (arith, c.requires.run.run.some)

pub nearest_segments-requires-clause-end : goal.nearest_segments-requires-clause-end
nearest_segments-requires-clause-end c = omega (arith, c.requires.run.run.within, ap length c.line.ensures)

pub nearest_of_twin-requires-clause-last : goal.nearest_of_twin-requires-clause-last
nearest_of_twin-requires-clause-last c = c.in-Some.ensures.0.before_end
