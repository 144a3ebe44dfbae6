-- The cell of the place of a run's box that is nearest to a point.
use Rattle.std.proofs.Common.{◌≡◌, ℕ, ◌+◌, ◌-◌, ◌*◌, ◌/◌, ◌≤◌, List, min, max, arith, ℤ, pos, negsuc, ◌-ℤ◌, ◌≤ℤ◌, ⊎_elim, mul-le-mul, ap, sym, inl, ◌∙◌}
use Rattle.std.proofs.lemmas.Bool.{cases_lt}
use Rattle.std.proofs.lemmas.Int.{ints}
use Rattle.std.specs.Int.RustNames.{unsigned_abs}
use Rattle.polyline_geometry.specs.declared.plane.Point.{Point}
use Rattle.polyline_geometry.specs.Boxes.{InBox, InSquare, IsBetween}
use Rattle.polyline_geometry.specs.Plane.{InRange, distance2, point_at, square}
use Rattle.polyline_geometry.proofs.Boxes.{box_in_range}
use Rattle.road_network.specs.Net.{Net, edge_line}
use Rattle.grid_index.specs.declared.runs.Run.{Run}
use Rattle.grid_index.specs.Cells.{cell, shifted}
use Rattle.grid_index.specs.NearestCell.{IsNearestCell, apart2, nearest_between}
use Rattle.grid_index.specs.Runs.{HasCorners, IsBelow, IsBoxDistance, IsRun, IsRunOf}
use Rattle.grid_index.proofs.Places.{between, rises}
use Rattle.grid_index.proofs.RunBoxes.{below_twice}

-- what lies apart in the plane does so when both are shifted
apart_at_least : (p q : ℤ) → unsigned_abs p ≤ 1_000_000_000 → unsigned_abs q ≤ 1_000_000_000 → shifted p - shifted q + (shifted q - shifted p) ≤ unsigned_abs (p -ℤ q)
apart_at_least (pos p) (pos q) h k = omega (arith, ints)
apart_at_least (pos p) (negsuc q) h k = omega (arith, ints)
apart_at_least (negsuc p) (pos q) h k = omega (arith, ints)
apart_at_least (negsuc p) (negsuc q) h k = omega (arith, ints)

apart_at_most : (p q : ℤ) → unsigned_abs p ≤ 1_000_000_000 → unsigned_abs q ≤ 1_000_000_000 → unsigned_abs (p -ℤ q) ≤ shifted p - shifted q + (shifted q - shifted p)
apart_at_most (pos p) (pos q) h k = omega (arith, ints)
apart_at_most (pos p) (negsuc q) h k = omega (arith, ints)
apart_at_most (negsuc p) (pos q) h k = omega (arith, ints)
apart_at_most (negsuc p) (negsuc q) h k = omega (arith, ints)

-- the low corner of a run's box is below the high one
pub corners_rise : (line : List Point) (r : Run) → IsRunOf line r → IsBelow r.low r.high
corners_rise line r h =
    let a = h.above_low r.first (omega arith) (omega (arith, h.some)) in
    let b = h.below_high r.first (omega arith) (omega (arith, h.some)) in
    below_twice r.low (point_at line r.first) r.high a b

-- a coordinate of the box lies from that of the low corner to that of the high one
pub holds : (low high z : ℤ) → unsigned_abs low ≤ 1_000_000_000 → unsigned_abs high ≤ 1_000_000_000 → low ≤ℤ high → IsBetween low high z → (shifted low ≤ shifted z) × (shifted z ≤ shifted high)
holds low high z h k le is =
    let r = rises low high h le in
    let b = between low high z h k is in
    (omega (arith, b.0, r), omega (arith, b.1, r))

-- no place of the box is nearer than the gaps to the cell
pub gaps_least : (net : Net) (side : ℕ) (p q : Point) (r : Run) (column row x y : ℕ) → InRange p → IsRun net r → IsNearestCell side p r column row → InBox r.low r.high q
    → ((low high z : ℕ) → max low (min (shifted p.x) high) / side ≡ column → low ≤ z → z ≤ high → x ≤ shifted p.x - z + (z - shifted p.x))
    → ((low high z : ℕ) → max low (min (shifted p.y) high) / side ≡ row → low ≤ z → z ≤ high → y ≤ shifted p.y - z + (z - shifted p.y))
    → x * x + y * y ≤ distance2 p q
gaps_least net side p q r column row x y in_range is cell inside gx gy =
    let corners = is.run.corners in
    let rise = corners_rise (edge_line net r.edge.0) r is.run in
    let q_in = box_in_range r.low r.high q corners.low_in corners.high_in inside in
    let hx = holds r.low.x r.high.x q.x corners.low_in.x_abs corners.high_in.x_abs rise.x inside.x in
    let hy = holds r.low.y r.high.y q.y corners.low_in.y_abs corners.high_in.y_abs rise.y inside.y in
    let ax = apart_at_least p.x q.x in_range.x_abs q_in.x_abs in
    let ay = apart_at_least p.y q.y in_range.y_abs q_in.y_abs in
    let lx = gx (shifted r.low.x) (shifted r.high.x) (shifted q.x) cell.column_is hx.0 hx.1 in
    let ly = gy (shifted r.low.y) (shifted r.high.y) (shifted q.y) cell.row_is hy.0 hy.1 in
    let dx : x ≤ unsigned_abs (p.x -ℤ q.x) = omega (arith, lx, ax) in
    let dy : y ≤ unsigned_abs (p.y -ℤ q.y) = omega (arith, ly, ay) in
    let mx : x * x ≤ unsigned_abs (p.x -ℤ q.x) * unsigned_abs (p.x -ℤ q.x) = mul-le-mul dx dx in
    let my : y * y ≤ unsigned_abs (p.y -ℤ q.y) * unsigned_abs (p.y -ℤ q.y) = mul-le-mul dy dy in
    omega (arith, mx, my)

same_le : (z : ℤ) → z ≤ℤ z
same_le (pos z) = omega (arith, ints)
same_le (negsuc z) = omega (arith, ints)

unshifted : (a b : ℤ) → unsigned_abs a ≤ 1_000_000_000 → unsigned_abs b ≤ 1_000_000_000 → shifted a ≤ shifted b → a ≤ℤ b
unshifted (pos a) (pos b) h k le = omega (arith, ints, le)
unshifted (pos a) (negsuc b) h k le = absurd (omega (arith, ints, le))
unshifted (negsuc a) (pos b) h k le = omega (arith, ints)
unshifted (negsuc a) (negsuc b) h k le = omega (arith, ints, le)

-- the coordinate between two others that is nearest to z
pub record IsNearestTo (low high z w : ℤ) : Type 0 where
  pub between_them : IsBetween low high w
  pub shifted_is : shifted w ≡ nearest_between low high z
  pub least : (v : ℤ) → unsigned_abs v ≤ 1_000_000_000 → IsBetween low high v → unsigned_abs (z -ℤ w) ≤ unsigned_abs (z -ℤ v)

nearest_to : (low high z w : ℤ) → unsigned_abs low ≤ 1_000_000_000 → unsigned_abs high ≤ 1_000_000_000 → unsigned_abs z ≤ 1_000_000_000 → unsigned_abs w ≤ 1_000_000_000 → low ≤ℤ high
    → IsBetween low high w → shifted w ≡ nearest_between low high z → IsNearestTo low high z w
nearest_to low high z w h k l m le inside is = record {
  between_them = inside;
  shifted_is = is;
  least = λ v small there.
      let b = apart_at_least z v l small in
      let c = holds low high v h k le there in
      let d = apart_at_most z w l m in
      omega (arith, b, c.0, c.1, d, is);
}

nearest_coordinate : (low high z : ℤ) → unsigned_abs low ≤ 1_000_000_000 → unsigned_abs high ≤ 1_000_000_000 → unsigned_abs z ≤ 1_000_000_000 → low ≤ℤ high → (w : ℤ) × IsNearestTo low high z w
nearest_coordinate low high z h k l le =
    let up = rises low high h le in
    ⊎_elim
    (λ below. (low, nearest_to low high z low h k l h le (inl (same_le low, le)) (omega (arith, below, up))))
    (λ above.
    ⊎_elim
    (λ inside. (z, nearest_to low high z z h k l l le (inl (unshifted low z h l (omega (arith, above)), unshifted z high l k (omega (arith, inside)))) (omega (arith, above, inside))))
    (λ beyond. (high, nearest_to low high z high h k l k le (inl (le, same_le high)) (omega (arith, beyond, up))))
    (cases_lt (shifted z) (shifted high)))
    (cases_lt (shifted z) (shifted low))

-- the place of a run's box that is nearest to a point, of which some place is in a square round it
pub record HasNearest (side reach : ℕ) (p : Point) (r : Run) : Type 0 where
  pub place : Point
  pub inside : InBox r.low r.high place
  pub square : InSquare p reach place
  pub cell_is : IsNearestCell side p r (cell side place.x) (cell side place.y)

pub nearest_place : (net : Net) (side reach : ℕ) (p q : Point) (r : Run) → IsRun net r → InRange p → InBox r.low r.high q → InSquare p reach q → HasNearest side reach p r
nearest_place net side reach p q r is in_range inside close =
    let corners = is.run.corners in
    let rise = corners_rise (edge_line net r.edge.0) r is.run in
    let q_in = box_in_range r.low r.high q corners.low_in corners.high_in inside in
    let x = nearest_coordinate r.low.x r.high.x p.x corners.low_in.x_abs corners.high_in.x_abs in_range.x_abs rise.x in
    let y = nearest_coordinate r.low.y r.high.y p.y corners.low_in.y_abs corners.high_in.y_abs in_range.y_abs rise.y in
    let lx = x.1.least q.x q_in.x_abs inside.x in
    let ly = y.1.least q.y q_in.y_abs inside.y in
    record {
      place = record { x = x.0; y = y.0 };
      inside = record { x = x.1.between_them; y = y.1.between_them };
      square = record { x = omega (arith, lx, close.x); y = omega (arith, ly, close.y) };
      cell_is = record { column_is = ap (λ v. v / side) (sym x.1.shifted_is); row_is = ap (λ v. v / side) (sym y.1.shifted_is) };
    }

-- a shifted coordinate that stands for w is as far from that of z as w is from z
as_far : (z w : ℤ) (x : ℕ) → unsigned_abs z ≤ 1_000_000_000 → unsigned_abs w ≤ 1_000_000_000 → shifted w ≡ x
    → unsigned_abs (z -ℤ w) ≡ x - shifted z + (shifted z - x)
as_far z w x h k is =
    let a = apart_at_least z w h k in
    let b = apart_at_most z w h k in
    omega (arith, a, b, is)

-- the distance of the nearest place, from the shifted coordinates of both
pub box_distance : (r : Run) (p : Point) (x y d2 : ℕ) → HasCorners r → IsBelow r.low r.high → InRange p → x ≡ nearest_between r.low.x r.high.x p.x → y ≡ nearest_between r.low.y r.high.y p.y
    → d2 ≡ apart2 x (shifted p.x) + apart2 y (shifted p.y) → IsBoxDistance r p d2
box_distance r p x y d2 corners rise in_range xs ys value =
    let u = nearest_coordinate r.low.x r.high.x p.x corners.low_in.x_abs corners.high_in.x_abs in_range.x_abs rise.x in
    let v = nearest_coordinate r.low.y r.high.y p.y corners.low_in.y_abs corners.high_in.y_abs in_range.y_abs rise.y in
    let place : Point = record { x = u.0; y = v.0 } in
    let inside : InBox r.low r.high place = record { x = u.1.between_them; y = v.1.between_them } in
    let place_in = box_in_range r.low r.high place corners.low_in corners.high_in inside in
    let dx = as_far p.x u.0 x in_range.x_abs place_in.x_abs (u.1.shifted_is ∙ sym xs) in
    let dy = as_far p.y v.0 y in_range.y_abs place_in.y_abs (v.1.shifted_is ∙ sym ys) in
    let is : distance2 p place ≡ d2 = ap (λ a. a * a + square (p.y -ℤ v.0)) dx ∙ ap (λ b. apart2 x (shifted p.x) + b * b) dy ∙ sym value in
    record {
      least = λ q there.
          let q_in = box_in_range r.low r.high q corners.low_in corners.high_in there in
          let lx = u.1.least q.x q_in.x_abs there.x in
          let ly = v.1.least q.y q_in.y_abs there.y in
          let mx : square (p.x -ℤ u.0) ≤ square (p.x -ℤ q.x) = mul-le-mul lx lx in
          let my : square (p.y -ℤ v.0) ≤ square (p.y -ℤ q.y) = mul-le-mul ly ly in
          omega (arith, mx, my, is);
      place = place;
      inside = inside;
      is = is;
    }
