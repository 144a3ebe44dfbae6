-- Edges whose boxes are far from a box of points.
use Rattle.std.specs.Prelude.{◌&&◌}
use Rattle.std.proofs.Common.{◌≡◌, ℕ, ◌+◌, ◌*◌, ◌<◌, ◌≤◌, Bool, true, false, T, List, [], ◌∷◌, ◌++◌, map, All, refl, sym, ap, ◌∙◌, subst, arith, ℤ, pos, negsuc, ◌+ℤ◌, ◌-ℤ◌, ◌≤ℤ◌, ⊎_elim}
use Rattle.std.specs.Int.Signed.{le_z}
use Rattle.std.specs.Int.RustNames.{unsigned_abs}
use Rattle.std.proofs.lemmas.Int.{ints}
use Rattle.std.proofs.lemmas.Bool.{cases_lt, true≢false}
use Rattle.polyline_geometry.specs.declared.plane.Point.{Point}
use Rattle.polyline_geometry.specs.Plane.{point_at}
use Rattle.polyline_geometry.proofs.Nearest.{snap_line-meets}
use Rattle.road_network.specs.Net.{Net, IsLawful, edge_line}
use Rattle.road_network.specs.Near.{candidate_at}
use Rattle.std.proofs.lemmas.List.{map-append}
use Rattle.std.proofs.lemmas.List.Elements.{All-nil, All-push, All-weaker}
use Rattle.std.proofs.lemmas.List.FromFn.{map-range_with_len_more}
use Rattle.std.specs.List.{range_with_len}
use Rattle.grid_index.proofs.RunBoxes.{≤ℤ_twice}
use Rattle.grid_index.specs.declared.extent.Extent.{Extent}
use Rattle.grid_index.specs.Extent.{AreCorners, IsInside, Widens}
use Rattle.grid_index.proofs.Extents.{box_inside}
use Rattle.candidate_search.specs.declared.boxes.EdgeBox.{EdgeBox}
use Rattle.candidate_search.specs.declared.placed.Placed.{Placed}
use Rattle.candidate_search.specs.inside.Boxes.{HoldsPoints, IsEdgeBox, IsGrown, overlap, touches}

abbrev pub origin : Point
origin = record { x = pos 0; y = pos 0 }

abbrev pub no_point : Placed
no_point = record { place = 0; at = origin }

low_side : (l a q : ℤ) (r : ℕ) → l ≤ℤ a → unsigned_abs (a -ℤ q) ≤ r → (l -ℤ pos r) ≤ℤ q
low_side (pos l) (pos a) (pos q) r h k = omega (arith, ints, h, k)
low_side (pos l) (pos a) (negsuc q) r h k = omega (arith, ints, h, k)
low_side (pos l) (negsuc a) q r h k = absurd (omega (arith, ints, h))
low_side (negsuc l) (pos a) (pos q) r h k = omega (arith, ints, h, k)
low_side (negsuc l) (pos a) (negsuc q) r h k = omega (arith, ints, h, k)
low_side (negsuc l) (negsuc a) (pos q) r h k = omega (arith, ints, h, k)
low_side (negsuc l) (negsuc a) (negsuc q) r h k = omega (arith, ints, h, k)

high_side : (a u q : ℤ) (r : ℕ) → a ≤ℤ u → unsigned_abs (a -ℤ q) ≤ r → q ≤ℤ (u +ℤ pos r)
high_side (pos a) (pos u) (pos q) r h k = omega (arith, ints, h, k)
high_side (pos a) (pos u) (negsuc q) r h k = omega (arith, ints, h, k)
high_side (pos a) (negsuc u) q r h k = absurd (omega (arith, ints, h))
high_side (negsuc a) (pos u) (pos q) r h k = omega (arith, ints, h, k)
high_side (negsuc a) (pos u) (negsuc q) r h k = omega (arith, ints, h, k)
high_side (negsuc a) (negsuc u) (pos q) r h k = omega (arith, ints, h, k)
high_side (negsuc a) (negsuc u) (negsuc q) r h k = omega (arith, ints, h, k)

pub grown_by : (c d : Extent) (r : ℕ) → d.low.x ≡ c.low.x -ℤ pos r → d.low.y ≡ c.low.y -ℤ pos r → d.high.x ≡ c.high.x +ℤ pos r → d.high.y ≡ c.high.y +ℤ pos r → IsGrown r c d
grown_by c d r lx ly hx hy at q inside near = record {
  above_low = record {
    x = subst (λ z. z ≤ℤ q.x) (sym lx) (low_side c.low.x at.x q.x r inside.above_low.x near.x);
    y = subst (λ z. z ≤ℤ q.y) (sym ly) (low_side c.low.y at.y q.y r inside.above_low.y near.y);
  };
  below_high = record {
    x = subst (λ z. q.x ≤ℤ z) (sym hx) (high_side at.x c.high.x q.x r inside.below_high.x near.x);
    y = subst (λ z. q.y ≤ℤ z) (sym hy) (high_side at.y c.high.y q.y r inside.below_high.y near.y);
  };
}

holds : (b : Bool) → T b → b ≡ true
holds true h = refl
holds false h = absurd h

through : (a q b : ℤ) → a ≤ℤ q → q ≤ℤ b → le_z a b ≡ true
through a q b h k = holds (le_z a b) (≤ℤ_twice a q b h k).le

overlaps : (low high first last q : ℤ) → low ≤ℤ q → q ≤ℤ high → first ≤ℤ q → q ≤ℤ last → overlap low high first last ≡ true
overlaps low high first last q a b c d = ap (λ v. v && le_z first high) (through low q last a d) ∙ through first q high c b

-- boxes with a place in common touch
common : (c d : Extent) (q : Point) → IsInside c q → IsInside d q → touches c d ≡ true
common c d q h k =
    ap (λ v. v && overlap c.low.y c.high.y d.low.y d.high.y) (overlaps c.low.x c.high.x d.low.x d.high.x q.x h.above_low.x h.below_high.x k.above_low.x k.below_high.x)
    ∙ overlaps c.low.y c.high.y d.low.y d.high.y q.y h.above_low.y h.below_high.y k.above_low.y k.below_high.y

-- an edge whose box does not touch the grown box of a point is beyond the radius
pub far_edge : (net : Net) (radius : ℕ) (c d : Extent) (at : Point) (b : EdgeBox) → IsLawful net → IsEdgeBox net b → IsGrown radius c d → IsInside c at
    → touches d b.extent ≡ false → radius * radius < (candidate_at net at b.edge.0).d2
far_edge net radius c d at b lawful is grown inside apart =
    let line = edge_line net b.edge.0 in
    ⊎_elim
    (λ lt. lt)
    (λ near.
    let meets = snap_line-meets line at radius (lawful.lines b.edge.0 is.has) near in
    let i : ℕ = meets.0 in
    let q : Point = meets.2.0 in
    let in_edge = box_inside b.extent (point_at line i) (point_at line (i + 1)) q (is.line i origin (omega (arith, meets.1))) (is.line (i + 1) origin meets.1) meets.2.1 in
    absurd (true≢false (sym (common d b.extent q (grown at q inside meets.2.2) in_edge) ∙ apart)))
    (cases_lt (radius * radius) (candidate_at net at b.edge.0).d2)

pub holds_none : (x : Extent) → AreCorners x → HoldsPoints [] x
holds_none x corners = record { corners = corners; each = All-nil (IsInside x) }

-- one more place
pub one_more_inside : (points : List Point) (p : Point) (x y : Extent) → HoldsPoints points x → Widens x y (p ∷ []) → HoldsPoints (points ++ p ∷ []) y
one_more_inside points p x y h w = record {
  corners = w.corners;
  each = All-push (IsInside y) points p (All-weaker (IsInside x) (IsInside y) w.keeps points h.each) (w.has 0 origin (omega arith));
}

map_itself : (l : List ℕ) → map (λ x. x) l ≡ l
map_itself [] = refl
map_itself (x ∷ l) = ap (λ r. x ∷ r) (map_itself l)

range_more : (count : ℕ) → range_with_len 0 (count + 1) ≡ range_with_len 0 count ++ count ∷ []
range_more count =
    sym (map_itself (range_with_len 0 (count + 1))) ∙ map-range_with_len_more (λ x. x) 0 count count (omega arith) ∙ ap (λ l. l ++ count ∷ []) (map_itself (range_with_len 0 count))

-- the box of the next edge
pub next_box : (net : Net) (boxes new : List EdgeBox) (count : ℕ) (b : EdgeBox) → All (IsEdgeBox net) boxes → map (λ b. b.edge.0) boxes ≡ range_with_len 0 count → new ≡ boxes ++ b ∷ []
    → IsEdgeBox net b → b.edge.0 ≡ count → All (IsEdgeBox net) new × (map (λ b. b.edge.0) new ≡ range_with_len 0 (count + 1))
next_box net boxes new count b each all is one edge = (
  subst (All (IsEdgeBox net)) (sym is) (All-push (IsEdgeBox net) boxes b each one),
  ap (map (λ (x : EdgeBox). x.edge.0)) is ∙ map-append (λ (x : EdgeBox). x.edge.0) boxes (b ∷ []) ∙ ap (λ l. l ++ b.edge.0 ∷ []) all ∙ ap (λ v. range_with_len 0 count ++ v ∷ []) edge
      ∙ sym (range_more count),
)

pub same_overlap : (a b c d k l m n : ℤ) → a ≡ k → b ≡ l → c ≡ m → d ≡ n → overlap a b c d ≡ overlap k l m n
same_overlap a b c d k l m n ak bl cm dn =
    ap (λ v. overlap v b c d) ak ∙ ap (λ v. overlap k v c d) bl ∙ ap (λ v. overlap k l v d) cm ∙ ap (λ v. overlap k l m v) dn
