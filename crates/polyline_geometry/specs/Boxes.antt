-- The box of a segment, and the square round a point. Both are closed.
use Rattle.std.specs.Prelude.{ℕ, ◌+◌, ◌<◌, ◌≤◌, List, length, ℤ, ◌-ℤ◌, ◌≤ℤ◌, ◌⊎◌}
use Rattle.std.specs.Int.RustNames.{unsigned_abs}
use Rattle.polyline_geometry.specs.declared.plane.Point.{Point}
use Rattle.polyline_geometry.specs.Plane.{point_at}

-- z is between a and b, in either order
abbrev pub IsBetween : ℤ → ℤ → ℤ → Type 0
IsBetween a b z = ((a ≤ℤ z) × (z ≤ℤ b)) ⊎ ((b ≤ℤ z) × (z ≤ℤ a))

-- the coordinates of q lie between those of a and b
pub record InBox (a b q : Point) : Type 0 where
  pub x : IsBetween a.x b.x q.x
  pub y : IsBetween a.y b.y q.y

-- the coordinates of q differ from those of p by at most `reach`
pub record InSquare (p : Point) (reach : ℕ) (q : Point) : Type 0 where
  pub x : unsigned_abs (p.x -ℤ q.x) ≤ reach
  pub y : unsigned_abs (p.y -ℤ q.y) ≤ reach

-- the box of the segment from a to b, and the square of half side `reach` round p, have a
-- place in common
abbrev pub BoxMeetsSquare : Point → Point → Point → ℕ → Type 0
BoxMeetsSquare a b p reach = (q : Point) × InBox a b q × InSquare p reach q

-- some segment of the line has a box that meets the square of half side `reach` round p
abbrev pub LineMeetsSquare : List Point → Point → ℕ → Type 0
LineMeetsSquare line p reach =
    (i : ℕ) × (i + 1 < length line)
    × BoxMeetsSquare (point_at line i) (point_at line (i + 1)) p reach
