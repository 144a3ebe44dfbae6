-- Steps back along pointers, from the live ranks of the last position to where they meet.
use Rattle.std.specs.Prelude.{◌≡◌, ℕ, ◌<◌, List, length, slice_index, unwrap_or}
use Rattle.matching.specs.declared.parts.Cell.{Cell}
use Rattle.matching.specs.Cells.{cell_at, IsLive}

abbrev pub AllSame : List ℕ → Type 0
AllSame at = (i : ℕ) → i < length at → slice_index at i ≡ slice_index at 0

abbrev pub Differ : List ℕ → Type 0
Differ at = (i : ℕ) × (i < length at) × (slice_index at i ≡ slice_index at 0 → ⊥)

-- the list has the live ranks and no others
pub record HasLive (cells : List Cell) (at : List ℕ) : Type 0 where
  pub covers : (j : ℕ) → IsLive cells j → (i : ℕ) × (i < length at) × (slice_index at i ≡ j)
  pub each : (i : ℕ) → i < length at → IsLive cells (slice_index at i)

-- each rank is the pointer of the cell of the rank that was there before
pub record IsStepBack (cells : List Cell) (at after : List ℕ) : Type 0 where
  pub count : length after ≡ length at
  pub each : (i : ℕ) → i < length at
      → slice_index after i ≡ unwrap_or ((cell_at cells (slice_index at i)).«from») 0
