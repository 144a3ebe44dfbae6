-- Worked rows, as small theorems.
use Rattle.std.proofs.Common.{◌≡◌, ℕ, ◌*◌, ◌/◌, ap, lit<, lit≤, pos, negsuc}
use Rattle.polyline_geometry.specs.declared.plane.Point.{Point}
use Rattle.polyline_geometry.specs.declared.plane.Snap.{Snap}
use Rattle.polyline_geometry.specs.Plane.{snap_segment, straight}
use Rattle.polyline_geometry.proofs.Roots.{root-is}

abbrev point : ℕ → ℕ → Point
point x y = record { x = pos x; y = pos y }

-- (0, 0), (-3, -1) and the point (-2, 1): d2 is 4 and the offset is 1
row_of_negative : snap_segment (point 0 0) (record { x = negsuc 2; y = negsuc 0 }) (record { x = negsuc 1; y = pos 1 }) ≡ record { d2 = 4; offset = 1 }
row_of_negative = ap (λ r. let s : Snap = record { d2 = 4; offset = r * 5 / 10 } in s) (root-is 10 3 (lit≤ tt) (lit< tt))

-- the straight distance of two points whose root is not whole
row_of_straight : straight (point 1000 300) (record { x = pos 9000; y = negsuc 299 }) ≡ 8022
row_of_straight = root-is 64360000 8022 (lit≤ tt) (lit< tt)
