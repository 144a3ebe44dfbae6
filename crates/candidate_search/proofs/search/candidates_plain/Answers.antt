use Rattle.candidate_search.proofs.Taken.{taken_number, none_found, taken_none}
use Rattle.std.proofs.Common.{◌≡◌, ◌∙◌, ap, arith, length, map}
use Rattle.std.specs.List.{range_with_len}
use Rattle.polyline_geometry.specs.declared.plane.Point.{Point}
use Rattle.road_network.specs.Near.{candidate_at}
use Rattle.candidate_search.specs.inside.Nearest.{nearest}
use Rattle.candidate_search.proofs.search.candidates_plain.Goals as goal

pub loop-number-preserved : goal.loop-number-preserved
loop-number-preserved c =
    let s = c.loop-number in
    let search = c.search_for-search.result in
    record {
      list = taken_number c.args.net.now search.at search.k search.radius s.number s.found.items c.consider.new.found.items s.invariant.list c.in_ok-consider.ensures.list;
      found = c.in_ok-consider.ensures.found;
    }

pub loop-number-init : goal.loop-number-init
loop-number-init c =
    let search = c.search_for-search.result in
    let found = c.in_ok-found.found.items in
    record {
      list = taken_none search.k search.radius found c.in_ok-found.ensures.items;
      found = none_found search.k 0 found c.in_ok-found.ensures.items;
    }

pub consider-requires-clause-edge : goal.consider-requires-clause-edge
consider-requires-clause-edge c = omega (arith, c.loop-number-test.true, c.edge_count-number-end.ensures)

pub consider-requires-clause-found : goal.consider-requires-clause-found
consider-requires-clause-found c = c.loop-number.invariant.found

pub returns : goal.returns
returns c =
    let s = c.loop-number in
    let net = c.args.net.now in
    let p = c.args.p.now in
    let search = c.search_for-search.result in
    let then = c.search_for-search.ensures in
    let numbers = range_with_len 0 s.number in
    let all : s.number ≡ length net.edges = omega (arith, c.loop-number-test.false, c.edge_count-number-end.ensures) in
    c.from_vec.ensures
    ∙ s.invariant.list
    ∙ ap (λ v. nearest v search.radius (map (candidate_at net search.at) numbers)) then.k
    ∙ ap (λ v. nearest p.k v (map (candidate_at net search.at) numbers)) then.radius
    ∙ ap (λ (q : Point). nearest p.k p.radius (map (candidate_at net q) numbers)) then.at
    ∙ ap (λ n. nearest p.k p.radius (map (candidate_at net c.args.at) (range_with_len 0 n))) all
