-- What was seen, when all cells near a point were visited, are the nearest edges.
use Rattle.std.proofs.Common.{◌≡◌, ℕ, suc, ◌+◌, ◌*◌, ◌<◌, ◌≤◌, List, [], length, sym, subst, arith, ⊎_elim, ◌-ℤ◌, pos, mul-le-mul}
use Rattle.std.specs.Int.RustNames.{unsigned_abs}
use Rattle.std.proofs.lemmas.Bool.{cases_lt}
use Rattle.polyline_geometry.specs.declared.plane.Point.{Point}
use Rattle.polyline_geometry.specs.Boxes.{InBox, InSquare}
use Rattle.polyline_geometry.specs.Nearest.{segment_snap}
use Rattle.polyline_geometry.specs.Plane.{distance2, point_at, share, snap_segment, snapped}
use Rattle.polyline_geometry.proofs.Boxes.{snapped_in_box}
use Rattle.road_network.specs.Net.{Net, HasEdge, IsLawful, edge_line}
use Rattle.grid_index.specs.declared.cells.Cells.{Cells}
use Rattle.grid_index.specs.Cells.{HasCell, cell}
use Rattle.grid_index.specs.GridOf.{GridOf, HasNoneWithin, IsGrid, StandsFor}
use Rattle.grid_index.specs.Runs.{HasSegment, IsRun}
use Rattle.grid_index.proofs.NearestCells.{nearest_place}
use Rattle.grid_index.proofs.RunBoxes.{run_holds}
use Rattle.candidate_search.specs.declared.best.NearEdge.{NearEdge}
use Rattle.candidate_search.specs.declared.wanted.Search.{Search}
use Rattle.candidate_search.specs.inside.Best.{AreBest, HasSeen, HasSeenRows, HasSeenWide}
use Rattle.candidate_search.specs.inside.Nearest.{AreNearestEdges}

-- a number whose square is at most another's is at most the other
square_le : (x y r : ℕ) → x * x + y ≤ r * r → x ≤ r
square_le x y r h =
    ⊎_elim (λ lt. let m : (r + 1) * (r + 1) ≤ x * x = mul-le-mul (omega (arith, lt)) (omega (arith, lt)) in absurd (omega (arith, m, h))) (λ le. le) (cases_lt r x)

close_square : (p q : Point) (reach : ℕ) → distance2 p q ≤ reach * reach → InSquare p reach q
close_square p q reach h = record {
  x = square_le (unsigned_abs (p.x -ℤ q.x)) (unsigned_abs (p.y -ℤ q.y) * unsigned_abs (p.y -ℤ q.y)) reach h;
  y = square_le (unsigned_abs (p.y -ℤ q.y)) (unsigned_abs (p.x -ℤ q.x) * unsigned_abs (p.x -ℤ q.x)) reach (omega (arith, h));
}

-- the cells of a square
abbrev pub HoldsSquare : GridOf → Point → ℕ → Cells → Type 0
HoldsSquare g p reach cells = (q : Point) → InSquare p reach q → HasCell cells (cell g.side q.x) (cell g.side q.y)

-- a run with a place in the square was seen
run_seen : (net : Net) (g : GridOf) (search : Search) (found : List NearEdge) (cells : Cells) (e i : ℕ) (q : Point) (s : StandsFor g e i) → IsRun net s.run
    → HoldsSquare g search.at search.radius cells → HasSeenWide net g search found → HasSeenRows net g search found cells cells.bottom cells.top
    → InBox s.run.low s.run.high q → InSquare search.at search.radius q → HasSeen net search found s.run
run_seen net g search found cells e i q s is holds wide rows inside close =
    ⊎_elim
    (λ there. wide s.run there)
    (λ there.
    let h = nearest_place net g.side search.radius search.at q s.run is search.at_in inside close in
    let at = holds h.place h.square in
    rows (cell g.side h.place.y) at.bottom at.top (cell g.side h.place.x) at.left at.right s.run (there h.place h.inside) h.cell_is)
    s.stands

-- the point of a segment to which p snaps lies in its box, and in the square where it is near
record HasNearPlace (net : Net) (p : Point) (reach e i : ℕ) : Type 0 where
  place : Point
  inside : InBox (point_at (edge_line net e) i) (point_at (edge_line net e) (i + 1)) place
  square : InSquare p reach place

near_place : (net : Net) (p : Point) (reach e i : ℕ) → IsLawful net → HasEdge net e → i + 1 < length (edge_line net e) → (segment_snap (edge_line net e) p i).d2 ≤ reach * reach
    → HasNearPlace net p reach e i
near_place net p reach e i lawful has lt near =
    let line = edge_line net e in
    let a = point_at line i in
    let b = point_at line (i + 1) in
    let s : suc i ≡ i + 1 = omega arith in
    let close : (snap_segment a b p).d2 ≤ reach * reach = subst (λ k. (snap_segment a (point_at line k) p).d2 ≤ reach * reach) s near in
    let differ = (lawful.lines e has).differ i (record { x = pos 0; y = pos 0 }) (omega (arith, lt)) in
    let q : Point = snapped a b (share a b p) (distance2 b a) in
    record { place = q; inside = snapped_in_box a b p differ; square = close_square p q reach close }

pub all_seen : (net : Net) (g : GridOf) (search : Search) (found : List NearEdge) (cells : Cells) → IsLawful net → g.net ≡ net → IsGrid g
    → HoldsSquare g search.at search.radius cells → AreBest net search found → HasSeenWide net g search found → HasSeenRows net g search found cells cells.bottom cells.top
    → AreNearestEdges net search found
all_seen net g search found cells lawful same grid holds best wide rows = record {
  best = best;
  every = λ e i has lt near.
      let close = near_place net search.at search.radius e i lawful has lt near in
      let q = close.place in
      let stands : StandsFor g e i = grid.complete e i (subst (λ (n : Net). HasEdge n e) (sym same) has) (subst (λ (n : Net). i + 1 < length (edge_line n e)) (sym same) lt) in
      let r = stands.run in
      let is : IsRun net r = subst (λ (n : Net). IsRun n r) same stands.is_run in
      let has_segment : HasSegment net r e i = subst (λ (n : Net). HasSegment n r e i) same stands.segment in
      let inside = run_holds net r e i q is has_segment close.inside in
      run_seen net g search found cells e i q stands is holds wide rows inside close.square e i has_segment near;
}

-- nothing is found yet
pub none_best : (net : Net) (search : Search) (found : List NearEdge) → found ≡ [] → AreBest net search found
none_best net search found is = subst (λ l. AreBest net search l) (sym is) (record {
  few = omega arith;
  apart = λ i j d lt under. absurd (omega (arith, under));
  each = λ i d lt. absurd (omega (arith, lt));
})

-- where no segment comes near, none is found
pub none_near : (net : Net) (search : Search) (found : List NearEdge) → IsLawful net → found ≡ [] → HasNoneWithin net search.at search.radius → AreNearestEdges net search found
none_near net search found lawful is none = record {
  best = none_best net search found is;
  every = λ e i has lt near.
      let close = near_place net search.at search.radius e i lawful has lt near in
      absurd (none e i has lt close.place close.inside close.square);
}
