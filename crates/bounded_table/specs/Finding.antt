-- Where in a list of entries a node can be.
use Rattle.std.specs.Prelude.{ℕ, ◌≡◌, ◌<◌, ◌≤◌, List, Some, length, slice_index_or}
use Rattle.bounded_table.specs.declared.table_row.Entry.{Entry}
use Rattle.bounded_table.specs.Table.{entry_in}

-- the entries before a place are of nodes below v
abbrev pub AllBelow : List Entry → ℕ → ℕ → Type 0
AllBelow entries place v = (k : ℕ) (d : Entry) → k < place → (slice_index_or entries k d).node.0 < v

-- the entries from a place on are of nodes above v
abbrev pub AllAbove : List Entry → ℕ → ℕ → Type 0
AllAbove entries place v = (k : ℕ) (d : Entry) → place ≤ k → k < length entries → v < (slice_index_or entries k d).node.0

-- node v is at this place, and its entry is found there
abbrev pub IsPlaceOf : List Entry → ℕ → ℕ → Type 0
IsPlaceOf entries v place = (place < length entries) × ((d : Entry) → entry_in entries v ≡ Some (slice_index_or entries place d))
