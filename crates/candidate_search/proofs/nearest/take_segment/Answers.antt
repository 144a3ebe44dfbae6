use Rattle.std.proofs.Common.{◌≡◌, ◌+◌, ◌*◌, ◌<◌, suc, length, take, get_or, Option, ap, ◌∙◌, subst, sym, arith, ◌≤◌}
use Rattle.std.proofs.lemmas.Result.{on_ok_weaker}
use Rattle.polyline_geometry.specs.declared.line.NearSegment.{NearSegment}
use Rattle.polyline_geometry.specs.declared.plane.Snap.{Snap}
use Rattle.polyline_geometry.specs.Plane.{after, line_length, snap_line, IsLine}
use Rattle.polyline_geometry.specs.Nearest.{segment_snap}
use Rattle.polyline_geometry.specs.Offsets.{line_offsets}
use Rattle.polyline_geometry.proofs.Nearest.{whole_near}
use Rattle.polyline_geometry.proofs.OffsetLists.{get_or-line_offsets, length-line_offsets}
use Rattle.road_network.specs.Net.{edge_line}
use Rattle.road_network.specs.Near.{candidate, candidate_at}
use Rattle.road_network.specs.declared.Candidate.{Candidate}
use Rattle.candidate_search.specs.inside.Nearest.{IsNearestOf, with_one}
use Rattle.candidate_search.proofs.Found.{far_same, near_one}
use Rattle.candidate_search.proofs.Shared.{found_below}
use Rattle.candidate_search.proofs.nearest.take_segment.Goals as goal

pub bounds-offsets-near : goal.bounds-offsets-near
bounds-offsets-near c =
    let line = edge_line c.args.net.now c.args.edge.0 in
    let near = subst (λ (r : Option NearSegment). IsNearestOf line c.args.search c.args.found.now.items r) c.in-Some.is c.requires.near in
    let n = ap length c.offsets.ensures ∙ length-line_offsets line in
    omega (arith, n, near.0.before_end)

pub snap_on-snap-requires-clause-before : goal.snap_on-snap-requires-clause-before
snap_on-snap-requires-clause-before c =
    let line = c.line.result.now in
    let s = c.in-Some.near.segment in
    let near = subst (λ (r : Option NearSegment). IsNearestOf (edge_line c.args.net.now c.args.edge.0) c.args.search c.args.found.now.items r) c.in-Some.is c.requires.near in
    let n = ap length c.line.ensures in
    let within : s < length line = omega (arith, near.0.before_end, n) in
    let e : s + 1 ≡ suc s = omega arith in
    record {
      within = omega (arith, near.0.before_end, n);
      before_is = ap (λ l. get_or l s 0) (c.offsets.ensures ∙ ap line_offsets (sym c.line.ensures)) ∙ get_or-line_offsets line s 0 within ∙ ap (λ n. line_length (take n line)) e;
    }

pub returns-in-None-clause-list : goal.returns-in-None-clause-list
returns-in-None-clause-list c =
    let line = edge_line c.args.net.now c.args.edge.0 in
    let far = subst (λ (r : Option NearSegment). IsNearestOf line c.args.search c.args.found.now.items r) c.in-None.is c.requires.near in
    far_same c.args.search.k c.args.search.radius c.args.found.now.items (candidate_at c.args.net.now c.args.search.at c.args.edge.0) c.requires.found far

pub returns-in-Some-clause-list : goal.returns-in-Some-clause-list
returns-in-Some-clause-list c =
    let at = c.args.search.at in
    let line = edge_line c.args.net.now c.args.edge.0 in
    let near = subst (λ (r : Option NearSegment). IsNearestOf line c.args.search c.args.found.now.items r) c.in-Some.is c.requires.near in
    let t : Snap = c.snap_on-snap.result in
    let here = subst (λ l. t ≡ after (line_length (take (suc c.in-Some.near.segment) l)) (segment_snap l at c.in-Some.near.segment)) c.line.ensures c.snap_on-snap.ensures in
    let is : t ≡ snap_line line at = here ∙ sym (whole_near line at c.in-Some.near (c.invariants.ensures.lines c.args.edge.0 c.requires.edge) near.0) in
    let x : Candidate = candidate c.args.edge.0 t in
    let same : x ≡ candidate_at c.args.net.now at c.args.edge.0 = ap (candidate c.args.edge.0) is in
    let d2 : x.d2 < c.args.search.radius * c.args.search.radius + 1 = omega (arith, near.1, near.0.d2_is, ap (λ (v : Snap). v.d2) here) in
    on_ok_weaker c.insert.result
    (λ list. list ∙ near_one c.args.search.k c.args.search.radius c.args.found.now.items x d2 ∙ ap (with_one c.args.search.k c.args.search.radius c.args.found.now.items) same)
    c.insert.ensures.list

pub offsets-requires : goal.offsets-requires
offsets-requires c = c.requires.edge

pub line-requires : goal.line-requires
line-requires c = c.requires.edge

pub snap_on-snap-requires-clause-line : goal.snap_on-snap-requires-clause-line
snap_on-snap-requires-clause-line c = subst IsLine (sym c.line.ensures) (c.invariants.ensures.lines c.args.edge.0 c.requires.edge)

pub snap_on-snap-requires-clause-length : goal.snap_on-snap-requires-clause-length
snap_on-snap-requires-clause-length c = subst (λ l. line_length l ≤ 100000000) (sym c.line.ensures) (c.invariants.ensures.not_long c.args.edge.0 c.requires.edge)

pub snap_on-snap-requires-clause-p_in : goal.snap_on-snap-requires-clause-p_in
snap_on-snap-requires-clause-p_in c = c.args.search.at_in

pub insert-requires : goal.insert-requires
insert-requires c = c.requires.found

pub returns-in-None-clause-found : goal.returns-in-None-clause-found
returns-in-None-clause-found c =
    let e = c.args.edge.0 in
    found_below c.args.search.k e (e + 1) c.args.found.now.items (omega arith) c.requires.found

pub returns-in-Some-clause-found : goal.returns-in-Some-clause-found
returns-in-Some-clause-found c = c.insert.ensures.found
