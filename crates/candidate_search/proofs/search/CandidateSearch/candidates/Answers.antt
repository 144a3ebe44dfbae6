use Rattle.std.proofs.Common.{All, ap, map, ◌∙◌, subst, sym}
use Rattle.polyline_geometry.specs.declared.plane.Point.{Point}
use Rattle.road_network.specs.Near.{candidates}
use Rattle.candidate_search.specs.inside.Nearest.{IsNearestOn}
use Rattle.candidate_search.proofs.Reached.{made, made_nearest, nearest_are, nearest_on}
use Rattle.candidate_search.proofs.search.CandidateSearch.candidates.Goals as goal

pub candidates_of-requires : goal.candidates_of-requires
candidates_of-requires c =
    let net = c.args.net.now in
    let search = c.search_for-search.result in
    subst (All (IsNearestOn net search)) (sym c.as_slice.ensures.value) (nearest_on net search c.find_nearest.new.found.items c.invariants.ensures c.in_ok-find_nearest.ensures)

pub returns : goal.returns
returns c =
    let net = c.args.net.now in
    let search = c.search_for-search.result in
    let then = c.search_for-search.ensures in
    let found = c.find_nearest.new.found.items in
    let list = c.in_ok-list.ensures ∙ ap (map (made net search.at)) c.as_slice.ensures.value in
    let near = made_nearest net search found c.invariants.ensures c.in_ok-find_nearest.ensures in
    c.from_vec.ensures ∙ list
    ∙ nearest_are net search.k search.radius search.at (map (made net search.at) found) near
    ∙ ap (λ v. candidates net v search.radius search.at) then.k
    ∙ ap (λ v. candidates net c.args.p.now.k v search.at) then.radius
    ∙ ap (λ (q : Point). candidates net c.args.p.now.k c.args.p.now.radius q) then.at
