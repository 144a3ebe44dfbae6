-- The segments of a run, of its own edge and of the twin.
use Rattle.std.proofs.Common.{◌≡◌, ℕ, suc, ◌+◌, None, Some, List, length, sym, ap, ◌∙◌, subst, arith, ⊎_elim, pos}
use Rattle.std.proofs.lemmas.Bool.{cases_lt}
use Rattle.std.proofs.lemmas.Option.{same_Some}
use Rattle.polyline_geometry.specs.declared.line.NearSegments.{NearSegments}
use Rattle.polyline_geometry.specs.declared.plane.Point.{Point}
use Rattle.polyline_geometry.specs.Nearest.{segment_snap}
use Rattle.polyline_geometry.specs.Plane.{point_at, snap_segment}
use Rattle.road_network.specs.declared.EdgeId.{EdgeId}
use Rattle.road_network.specs.Net.{Net, HasEdge, IsLawful, edge_line}
use Rattle.grid_index.specs.declared.runs.Run.{Run}
use Rattle.grid_index.specs.Runs.{HasSegment, IsReverse, IsRun, IsTwin, twin_of_run}
use Rattle.candidate_search.specs.declared.best.NearEdge.{NearEdge}
use Rattle.candidate_search.specs.declared.wanted.Search.{Search}
use Rattle.candidate_search.specs.inside.Best.{AreNearestIn, HasSeen, HasSeenOwn, HasSeenTwin, IsAccounted, IsNearEdge, IsNearestOfTwin}
use Rattle.candidate_search.proofs.BestLists.{accounted_later}
use Rattle.candidate_search.proofs.Turned.{turned_d2}

-- the edge of a run's twin
pub twin_of : (net : Net) (r : Run) (twin : EdgeId) → IsRun net r → twin_of_run r ≡ Some twin → IsReverse net r.edge.0 twin.0
twin_of net r twin run is = subst (IsTwin net r.edge.0) is run.twin

-- a point is as far from a segment of the twin as from the same one of the edge
pub twin_d2 : (net : Net) (e t i own : ℕ) (p : Point) → IsLawful net → HasEdge net e → IsReverse net e t → i + own + 2 ≡ length (edge_line net e)
    → (segment_snap (edge_line net t) p i).d2 ≡ (segment_snap (edge_line net e) p own).d2
twin_d2 net e t i own p lawful has reverse count =
    let line = edge_line net e in
    let start : point_at (edge_line net t) i ≡ point_at line (suc own) = reverse.turned.points i (suc own) (omega (arith, count)) in
    let end : point_at (edge_line net t) (suc i) ≡ point_at line own = reverse.turned.points (suc i) own (omega (arith, count)) in
    let s : own + 1 ≡ suc own = omega arith in
    let differ = subst (λ v. point_at line own ≡ point_at line v → ⊥) s ((lawful.lines e has).differ own (record { x = pos 0; y = pos 0 }) (omega (arith, count))) in
    ap (λ a. (snap_segment a (point_at (edge_line net t) (suc i)) p).d2) start ∙ ap (λ b. (snap_segment (point_at line (suc own)) b p).d2) end
    ∙ turned_d2 (point_at line own) (point_at line (suc own)) p differ

-- a point is as far from a segment that a run has as from the one of its own edge
pub same_d2 : (net : Net) (r : Run) (e i : ℕ) (p : Point) → IsLawful net → IsRun net r → (has : HasSegment net r e i)
    → (segment_snap (edge_line net e) p i).d2 ≡ (segment_snap (edge_line net r.edge.0) p has.own).d2
same_d2 net r e i p lawful run has =
    ⊎_elim
    (λ same. ap (λ v. (segment_snap (edge_line net v) p i).d2) (sym same.0) ∙ ap (λ v. (segment_snap (edge_line net r.edge.0) p v).d2) same.1)
    (λ mirror. twin_d2 net r.edge.0 e i has.own p lawful run.has (twin_of net r (record { 0 = e }) run mirror.0) mirror.1)
    has.is

-- the segments of both edges
pub seen_both : (net : Net) (search : Search) (found : List NearEdge) (r : Run) → IsLawful net → IsRun net r → HasSeenOwn net search found r → HasSeenTwin net search found r
    → HasSeen net search found r
seen_both net search found r lawful run own reverse e i has near =
    let p = search.at in
    subst (λ d2. IsAccounted search.k found d2 e i) (sym (same_d2 net r e i p lawful run has))
    (⊎_elim
    (λ same.
    subst (λ v. IsAccounted search.k found (segment_snap (edge_line net r.edge.0) p has.own).d2 v i) same.0
    (subst (λ v. IsAccounted search.k found (segment_snap (edge_line net r.edge.0) p has.own).d2 r.edge.0 v) (sym same.1) (own has.own has.from_first has.before_end)))
    (λ mirror. reverse (record { 0 = e }) mirror.0 i has.own has.from_first has.before_end mirror.1)
    has.is)

-- the first of the nearest segments of the run, as one of its own edge
pub own_near : (net : Net) (search : Search) (r : Run) (s : NearSegments) → AreNearestIn net search r s → IsNearEdge net search (record { edge = r.edge; segment = s.first; d2 = s.d2 })
own_near net search r s h = record {
  has = h.run.has;
  within = omega (arith, h.nearest.first_is.before_end, h.run.run.within);
  d2_is = h.nearest.first_is.d2_is;
  near = h.close;
}

-- and as one of the twin
pub twin_near : (net : Net) (search : Search) (r : Run) (twin : EdgeId) (s : NearSegments) (near : NearEdge) → IsLawful net → AreNearestIn net search r s → twin_of_run r ≡ Some twin
    → IsNearestOfTwin net r twin s near → IsNearEdge net search near
twin_near net search r twin s near lawful h twin_is is =
    let reverse = twin_of net r twin h.run twin_is in
    let base : IsNearEdge net search (record { edge = twin; segment = near.segment; d2 = near.d2 }) = record {
      has = reverse.has;
      within = omega (arith, is.segment_is, reverse.turned.count);
      d2_is = is.d2_is ∙ h.nearest.as_near ∙ sym (twin_d2 net r.edge.0 twin.0 near.segment s.last search.at lawful h.run.has reverse is.segment_is);
      near = omega (arith, is.d2_is, h.close);
    }
    in subst (λ e. IsNearEdge net search (record { edge = e; segment = near.segment; d2 = near.d2 })) (sym is.edge_is) base

-- where it is taken, all segments of the own edge are accounted for
pub taken_own : (net : Net) (search : Search) (found : List NearEdge) (r : Run) (s : NearSegments) → AreNearestIn net search r s
    → IsAccounted search.k found s.d2 r.edge.0 s.first → HasSeenOwn net search found r
taken_own net search found r s h taken i le lt =
    let d2 = (segment_snap (edge_line net r.edge.0) search.at i).d2 in
    let far = h.nearest.first_is.least i le lt in
    accounted_later search.k found s.d2 r.edge.0 s.first d2 i far
    (λ back.
    ⊎_elim
    (λ before. let up = h.nearest.first_is.earlier i le before in absurd (omega (arith, up, back)))
    (λ low. low)
    (cases_lt i s.first))
    taken

-- and all of the twin
pub taken_twin : (net : Net) (search : Search) (found : List NearEdge) (r : Run) (twin : EdgeId) (s : NearSegments) (near : NearEdge) → AreNearestIn net search r s
    → twin_of_run r ≡ Some twin → IsNearestOfTwin net r twin s near → IsAccounted search.k found near.d2 near.edge.0 near.segment → HasSeenTwin net search found r
taken_twin net search found r twin s near h twin_is is taken t t_is i own le lt count =
    let line = edge_line net r.edge.0 in
    let d2 = (segment_snap line search.at own).d2 in
    let far = h.nearest.first_is.least own le lt in
    let same : twin ≡ t = same_Some twin t (sym twin_is ∙ t_is) in
    let one = subst (λ (e : EdgeId). IsAccounted search.k found near.d2 e.0 near.segment) (is.edge_is ∙ same) taken in
    accounted_later search.k found near.d2 t.0 near.segment d2 i (omega (arith, far, is.d2_is))
    (λ back.
    ⊎_elim
    (λ after. let up = h.nearest.farther own (omega (arith, after)) lt in absurd (omega (arith, up, back, is.d2_is)))
    (λ low. omega (arith, low, count, is.segment_is))
    (cases_lt s.last own))
    one

-- where there is no twin, none of its segments is left
pub no_twin : (net : Net) (search : Search) (found : List NearEdge) (r : Run) → twin_of_run r ≡ None → HasSeenTwin net search found r
no_twin net search found r none twin is = let e = sym none ∙ is in absurd (cc)
