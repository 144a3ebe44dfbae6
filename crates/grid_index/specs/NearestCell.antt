-- The one cell at which a look takes a run.
use Rattle.std.specs.Prelude.{ℕ, ◌≡◌, ◌+◌, ◌-◌, ◌*◌, ◌/◌, ◌≤◌, ℤ, max, min}
use Rattle.polyline_geometry.specs.declared.plane.Point.{Point}
use Rattle.polyline_geometry.specs.Boxes.{InBox}
use Rattle.polyline_geometry.specs.Plane.{distance2}
use Rattle.road_network.specs.Net.{Net}
use Rattle.grid_index.specs.declared.runs.Run.{Run}
use Rattle.grid_index.specs.Cells.{shifted}
use Rattle.grid_index.specs.Runs.{IsRun}

-- of the coordinates from `low` to `high` the one that is nearest to z, shifted
abbrev pub nearest_between : ℤ → ℤ → ℤ → ℕ
nearest_between low high z = max (shifted low) (min (shifted z) (shifted high))

-- how far apart two shifted coordinates are, squared
abbrev pub apart2 : ℕ → ℕ → ℕ
apart2 a b = (a - b + (b - a)) * (a - b + (b - a))

-- the place of the run's box that is nearest to p lies in the cell of this column and row
pub record IsNearestCell (side : ℕ) (p : Point) (r : Run) (column row : ℕ) : Type 0 where
  pub column_is : nearest_between r.low.x r.high.x p.x / side ≡ column
  pub row_is : nearest_between r.low.y r.high.y p.y / side ≡ row

-- p is at least this far, squared, from each place of the boxes of the network's runs that have
-- their nearest place in the cell of this column and row
abbrev pub HasNoneNearer : Net → ℕ → Point → ℕ → ℕ → ℕ → Type 0
HasNoneNearer net side p column row least =
    (r : Run) (q : Point) → IsRun net r → IsNearestCell side p r column row
    → InBox r.low r.high q → least ≤ distance2 p q
