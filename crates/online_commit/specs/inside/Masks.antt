-- Sets of ranks as the bits of a number. In this file tables are in the order of the positions.
use Rattle.std.specs.Prelude.{◌≡◌, ◌≢◌, ◌↔◌, ◌⊎◌, ℕ, ◌+◌, ◌-◌, ◌<◌, ◌≤◌, nat_lt, if◌then◌else◌, List, [], Some, length, slice_index_or}
use Rattle.std.specs.Int.{bit_at}
use Rattle.matching.specs.declared.parts.Cell.{Cell}
use Rattle.matching.specs.Cells.{cell_at, IsLive}

-- rank r is in the set
abbrev pub HasBit : ℕ → ℕ → Type 0
HasBit mask r = bit_at mask r ≡ 1

-- the live ranks of a position
abbrev pub IsLiveMask : List Cell → ℕ → Type 0
IsLiveMask cells mask = (r : ℕ) → HasBit mask r ↔ IsLive cells r

-- the ranks at the position before that the cells of these ranks point to
abbrev pub ArePreviousRanks : List Cell → ℕ → ℕ → Type 0
ArePreviousRanks cells mask behind =
    (a : ℕ) → HasBit behind a ↔ ((r : ℕ) × HasBit mask r × ((cell_at cells r).«from» ≡ Some a))

-- r alone is in the set
abbrev pub IsOnlyRank : ℕ → ℕ → Type 0
IsOnlyRank mask r = HasBit mask r × ((a : ℕ) → HasBit mask a → a ≡ r)

-- none is, or two are
abbrev pub IsNotOne : ℕ → Type 0
IsNotOne mask =
    ((r : ℕ) → HasBit mask r → ⊥) ⊎ ((a : ℕ) × (b : ℕ) × HasBit mask a × HasBit mask b × (a ≢ b))

-- pointers of these cells fit the bits of a mask
pub record HasFewRanks (cells : List Cell) : Type 0 where
  pub count : length cells ≤ 32
  pub pointers : (r a : ℕ) → (cell_at cells r).«from» ≡ Some a → a < 32

-- of n positions with these tables, at each the ranks that the best sequences to all live ranks of the last
-- position have there
pub record AreMasks (tables : List (List Cell)) (mask : ℕ → ℕ) (n : ℕ) : Type 0 where
  pub live : IsLiveMask (slice_index_or tables (n - 1) []) (mask (n - 1))
  pub back : (i : ℕ) → i + 1 < n → ArePreviousRanks (slice_index_or tables (i + 1) []) (mask (i + 1)) (mask i)

-- the mask of a position, where the masks of the last positions changed, from the last of all back
abbrev pub mask_after : List ℕ → List ℕ → ℕ → ℕ
mask_after masks changed i =
    if nat_lt (length masks - i) (length changed) then slice_index_or changed (length masks - i) 0
    else slice_index_or masks i 0

-- the same, where the masks have a place for the last position already
abbrev pub mask_written : List ℕ → List ℕ → ℕ → ℕ
mask_written masks changed i =
    if nat_lt (length masks - 1 - i) (length changed)
    then slice_index_or changed (length masks - 1 - i) 0 else slice_index_or masks i 0

abbrev pub mask_at : List ℕ → ℕ → ℕ
mask_at masks i = slice_index_or masks i 0
