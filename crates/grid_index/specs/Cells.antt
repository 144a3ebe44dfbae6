-- Cells of the plane, and the slots of a table that repeats over the plane.
use Rattle.std.specs.Prelude.{ℕ, ◌+◌, ◌*◌, ◌/◌, ◌%◌, ◌<◌, ◌≤◌, ℤ, pos, ◌+ℤ◌}
use Rattle.std.specs.Int.RustNames.{unsigned_abs}
use Rattle.grid_index.specs.declared.cells.Cells.{Cells}

-- how far a coordinate is above the least one that any square reaches
abbrev pub shifted : ℤ → ℕ
shifted z = unsigned_abs (z +ℤ pos 1_001_000_000)

-- the number of the column, or of the row, of cells in which a coordinate lies
abbrev pub cell : ℕ → ℤ → ℕ
cell side z = shifted z / side

-- these cells have that of column c and row r
pub record HasCell (cells : Cells) (c r : ℕ) : Type 0 where
  pub left : cells.left ≤ c
  pub right : c < cells.right
  pub bottom : cells.bottom ≤ r
  pub top : r < cells.top

-- the first column is not past the last, nor is the first row
pub record AreOrdered (cells : Cells) : Type 0 where
  pub columns : cells.left ≤ cells.right
  pub rows : cells.bottom ≤ cells.top

-- the slot of a cell
abbrev pub slot : ℕ → ℕ → ℕ → ℕ
slot width column row = row % width * width + column % width
