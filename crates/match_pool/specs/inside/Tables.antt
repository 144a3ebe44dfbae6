-- Tables of turns by rows and by columns.
use Rattle.std.specs.Prelude.{◌≡◌, ◌<◌, ℕ, List, [], ◌∷◌, ◌++◌, map, length, slice_index_or}
use Rattle.match_pool.specs.declared.turn.Turn.{Turn}

-- each column has its turn of the row as well
pub record AddsTurns (row : List Turn) (before after : List (List Turn)) : Type 0 where
  pub count : length after ≡ length before
  pub each : (place : ℕ) (d : Turn) → place < length before
      → slice_index_or after place [] ≡ slice_index_or before place [] ++ slice_index_or row place d ∷ []

-- each column has the turns at its place in the rows
pub record AreColumnsOf (rows : List (List Turn)) (width : ℕ) (columns : List (List Turn)) : Type 0 where
  pub count : length columns ≡ width
  pub long : (place : ℕ) → place < width → length (slice_index_or columns place []) ≡ length rows
  pub each : (place : ℕ) (d : Turn) → place < width
      → slice_index_or columns place [] ≡ map (λ row. slice_index_or row place d) rows
