use Rattle.std.proofs.Common.{◌+◌, get_or, ap, arith, ◌∙◌, map, take}
use Rattle.std.proofs.lemmas.List.{get_or_default, take_all}
use Rattle.candidate_search.specs.declared.boxes.EdgeBox.{EdgeBox}
use Rattle.candidate_search.proofs.Shared.{found_below, no_box, taken_box, all_taken, of_box}
use Rattle.polyline_geometry.specs.declared.plane.Point.{Point}
use Rattle.candidate_search.specs.inside.Nearest.{nearest}
use Rattle.candidate_search.proofs.Taken.{none_found, taken_none}
use Rattle.candidate_search.proofs.groups.candidates_among.Goals as goal

pub consider-requires-clause-found : goal.consider-requires-clause-found
consider-requires-clause-found c = c.loop-place.invariant.found c.loop-place.place no_box (omega arith) c.loop-place-test.true

pub loop-place-preserved : goal.loop-place-preserved
loop-place-preserved c =
    let s = c.loop-place in
    let boxes = c.args.among.boxes.now in
    let search = c.search_for-search.result in
    let b = get_or boxes s.place no_box in
    record {
      list = taken_box c.args.among.net.now search.at search.k search.radius s.place boxes s.found.items c.consider.new.found.items c.requires.boxes c.loop-place-test.true s.invariant.list c.in_ok-consider.ensures.list;
      found = λ j d le lt.
          let rises = c.requires.boxes.rising s.place j no_box (omega (arith, le)) lt in
          let same = get_or_default boxes j d no_box lt in
          found_below search.k (b.edge.0 + 1) (get_or boxes j d).edge.0 c.consider.new.found.items (omega (arith, rises, ap (λ (x : EdgeBox). x.edge.0) same)) c.in_ok-consider.ensures.found;
    }

pub loop-place-init : goal.loop-place-init
loop-place-init c =
    let search = c.search_for-search.result in
    let found = c.in_ok-found.found.items in
    record {
      list = taken_none search.k search.radius found c.in_ok-found.ensures.items;
      found = λ j d le lt. none_found search.k (get_or c.args.among.boxes.now j d).edge.0 found c.in_ok-found.ensures.items;
    }

pub consider-requires-clause-edge : goal.consider-requires-clause-edge
consider-requires-clause-edge c = (c.requires.boxes.each c.loop-place.place no_box c.loop-place-test.true).has

pub returns : goal.returns
returns c =
    let s = c.loop-place in
    let net = c.args.among.net.now in
    let p = c.args.among.p.now in
    let boxes = c.args.among.boxes.now in
    let search = c.search_for-search.result in
    let then = c.search_for-search.ensures in
    let done = take s.place boxes in
    c.from_vec.ensures
    ∙ all_taken net p.k p.radius c.args.at boxes s.found.items c.requires.enough
    (s.invariant.list
    ∙ ap (λ v. nearest v search.radius (map (of_box net search.at) done)) then.k
    ∙ ap (λ v. nearest p.k v (map (of_box net search.at) done)) then.radius
    ∙ ap (λ (q : Point). nearest p.k p.radius (map (of_box net q) done)) then.at
    ∙ ap (λ l. nearest p.k p.radius (map (of_box net c.args.at) l)) (take_all s.place boxes c.loop-place-test.false))
