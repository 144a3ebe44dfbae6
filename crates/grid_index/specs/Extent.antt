-- Extents: two corners of a box, and what lies between them.
use Rattle.std.specs.Prelude.{ℕ, ◌<◌, List}
use Rattle.std.specs.List.{All}
use Rattle.polyline_geometry.specs.declared.plane.Point.{Point}
use Rattle.polyline_geometry.specs.Boxes.{InSquare}
use Rattle.polyline_geometry.specs.Plane.{InRange}
use Rattle.road_network.specs.Net.{Net, edge_line}
use Rattle.grid_index.specs.declared.extent.Extent.{Extent}
use Rattle.grid_index.specs.Runs.{IsBelow}

-- both corners are in range
pub record AreCorners (x : Extent) : Type 0 where
  pub low_in : InRange x.low
  pub high_in : InRange x.high

-- the place lies between the corners
pub record IsInside (x : Extent) (q : Point) : Type 0 where
  pub above_low : IsBelow x.low q
  pub below_high : IsBelow q x.high

-- the extent holds what it held, and these points
pub record Widens (old new : Extent) (points : List Point) : Type 0 where
  pub corners : AreCorners new
  pub keeps : (q : Point) → IsInside old q → IsInside new q
  pub has : All (IsInside new) points

-- the extent holds the lines of the first `count` edges
pub record IsExtentOf (net : Net) (count : ℕ) (x : Extent) : Type 0 where
  pub corners : AreCorners x
  pub lines : (e : ℕ) → e < count → All (IsInside x) (edge_line net e)

-- no place between the corners is in the square of half side `reach` round p
abbrev pub IsApart : Extent → Point → ℕ → Type 0
IsApart x p reach = (q : Point) → IsInside x q → InSquare p reach q → ⊥
