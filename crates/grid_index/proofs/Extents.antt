-- What lies between the corners of an extent.
use Rattle.std.proofs.Common.{◌≡◌, ℕ, ◌+◌, ◌<◌, ◌≤◌, ◌⊎◌, List, [], ◌∷◌, length, get_or, take, All, subst, arith, ℤ, ◌-ℤ◌, ◌≤ℤ◌, ⊎_elim}
use Rattle.std.specs.Int.RustNames.{unsigned_abs}
use Rattle.std.proofs.lemmas.Bool.{cases_lt}
use Rattle.std.proofs.lemmas.List.Elements.{All-cons, All-more, All-nil, All-weaker}
use Rattle.polyline_geometry.specs.declared.plane.Point.{Point}
use Rattle.polyline_geometry.specs.Boxes.{InBox, IsBetween}
use Rattle.polyline_geometry.specs.Plane.{point_at}
use Rattle.road_network.specs.Net.{Net, edge_line}
use Rattle.grid_index.specs.declared.extent.Extent.{Extent}
use Rattle.grid_index.specs.Cells.{shifted}
use Rattle.grid_index.specs.Extent.{AreCorners, IsApart, IsExtentOf, IsInside, Widens}
use Rattle.grid_index.specs.GridOf.{HasNoneWithin}
use Rattle.grid_index.specs.Runs.{IsBelow}
use Rattle.grid_index.proofs.Places.{around, falls, rises}
use Rattle.grid_index.proofs.RunBoxes.{below_twice, ≤ℤ_twice}

-- the corners of one more point
pub widens_point : (old new : Extent) (p : Point) → AreCorners new → IsBelow new.low old.low → IsBelow new.low p → IsBelow old.high new.high → IsBelow p new.high → Widens old new (p ∷ [])
widens_point old new p corners low low_p high high_p = record {
  corners = corners;
  keeps = λ q h. record { above_low = below_twice new.low old.low q low h.above_low; below_high = below_twice q old.high new.high h.below_high high };
  has = All-cons (IsInside new) p [] (record { above_low = low_p; below_high = high_p }) (All-nil (IsInside new));
}

pub widens_none : (x : Extent) → AreCorners x → Widens x x []
widens_none x corners = record { corners = corners; keeps = λ q h. h; has = All-nil (IsInside x) }

-- one more point of a line
pub widens_more : (old now new : Extent) (line : List Point) (i : ℕ) (d : Point) → i < length line → Widens old now (take i line) → Widens now new (get_or line i d ∷ []) → Widens old new (take (i + 1) line)
widens_more old now new line i d lt h k = record {
  corners = k.corners;
  keeps = λ q there. k.keeps q (h.keeps q there);
  has = All-more (IsInside new) line i d lt (All-weaker (IsInside now) (IsInside new) k.keeps (take i line) h.has) (k.has 0 d (omega arith));
}

-- one more line
pub extends_more : (net : Net) (number : ℕ) (now new : Extent) (line : List Point) → line ≡ edge_line net number → IsExtentOf net number now → Widens now new line → IsExtentOf net (number + 1) new
extends_more net number now new line is h k = record {
  corners = k.corners;
  lines = λ e under.
      ⊎_elim
      (λ below. All-weaker (IsInside now) (IsInside new) k.keeps (edge_line net e) (h.lines e below))
      (λ here. let same : number ≡ e = omega (arith, under, here) in subst (λ v. All (IsInside new) (edge_line net v)) same (subst (All (IsInside new)) is k.has))
      (cases_lt e number);
}

-- a coordinate between two others, which both lie between low and high
between_both : (low high a b z : ℤ) → low ≤ℤ a → low ≤ℤ b → a ≤ℤ high → b ≤ℤ high → IsBetween a b z → (low ≤ℤ z) × (z ≤ℤ high)
between_both low high a b z la lb ah bh is =
    ⊎_elim
    (λ up. (≤ℤ_twice low a z la up.0, ≤ℤ_twice z b high up.1 bh))
    (λ down. (≤ℤ_twice low b z lb down.0, ≤ℤ_twice z a high down.1 ah))
    is

-- the box of two points inside is inside
pub box_inside : (x : Extent) (a b q : Point) → IsInside x a → IsInside x b → InBox a b q → IsInside x q
box_inside x a b q h k inside =
    let xs = between_both x.low.x x.high.x a.x b.x q.x h.above_low.x k.above_low.x h.below_high.x k.below_high.x inside.x in
    let ys = between_both x.low.y x.high.y a.y b.y q.y h.above_low.y k.above_low.y h.below_high.y k.below_high.y inside.y in
    record { above_low = record { x = xs.0; y = ys.0 }; below_high = record { x = xs.1; y = ys.1 } }

-- what is apart from the extent of a network is near no segment
pub none_within : (net : Net) (x : Extent) (p : Point) (reach : ℕ) → IsExtentOf net (length net.edges) x → IsApart x p reach → HasNoneWithin net p reach
none_within net x p reach h apart = λ e i has lt q inside square.
    let line = edge_line net e in
    let points = h.lines e has in
    apart q (box_inside x (point_at line i) (point_at line (i + 1)) q (points i _ (omega (arith, lt))) (points (i + 1) _ lt) inside) square

-- a coordinate between low and high that differs from p by at most `reach`
coordinate_near : (low high p z : ℤ) (reach : ℕ) → unsigned_abs low ≤ 1_000_000_000 → unsigned_abs p ≤ 1_000_000_000 → reach ≤ 1_000_000 → low ≤ℤ z → z ≤ℤ high → unsigned_abs (p -ℤ z) ≤ reach
    → (shifted low ≤ shifted p + reach) × (shifted p ≤ shifted high + reach)
coordinate_near low high p z reach low_in p_in few above below near =
    let near_p = around p z reach p_in few near in
    let up = rises low z low_in above in
    let down = falls low z high low_in above below in
    (omega (arith, near_p.1, up), omega (arith, near_p.0, down))

pub coordinate_far : (low high p z : ℤ) (reach x left right : ℕ) → unsigned_abs low ≤ 1_000_000_000 → unsigned_abs p ≤ 1_000_000_000 → reach ≤ 1_000_000
    → x ≡ shifted p → left ≡ shifted low → right ≡ shifted high → (x + reach < left) ⊎ (right + reach < x) → low ≤ℤ z → z ≤ℤ high → unsigned_abs (p -ℤ z) ≤ reach → ⊥
coordinate_far low high p z reach x left right low_in p_in few x_is left_is right_is beside above below near =
    let k = coordinate_near low high p z reach low_in p_in few above below near in
    ⊎_elim (λ under. omega (arith, under, k.0, x_is, left_is)) (λ over. omega (arith, over, k.1, x_is, right_is)) beside
