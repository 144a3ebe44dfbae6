-- What a reader keeps for one node.
use Rattle.std.specs.Prelude.{◌≡◌, ℕ, Option, Some, None, length, slice_index}
use Rattle.std.specs.Option.{IfSome}
use Rattle.road_network.specs.Net.{HasNode, Net}
use Rattle.bounded_table.specs.Table.{BoundedTable, TableRow, IsRow}
use Rattle.row_store.specs.Store.{SlotSet}
use Rattle.row_store.specs.declared.place.Place.{Place}
use Rattle.row_store.specs.declared.place.Seen.{Seen}
use Rattle.row_store.specs.declared.place.Seen.TheVariants.{Nothing, Right, Foreign, Replaced}

-- the row that is known of a cell
abbrev pub row_in : Seen → Option TableRow
row_in Nothing = None
row_in (Right r) = Some r.now
row_in (Foreign r) = Some r.now
row_in (Replaced b) = Some b.value.foreign.now

-- the row of the cell of node v is told right or foreign truly, and one that was made here is the row of v
abbrev pub IsCheckedFor : Net → ℕ → ℕ → Seen → Type 0
IsCheckedFor net bound v Nothing = Unit {0}
IsCheckedFor net bound v (Right r) = IsRow net bound v r.now
IsCheckedFor net bound v (Foreign r) = IsRow net bound v r.now → ⊥
IsCheckedFor net bound v (Replaced b) =
    (IsRow net bound v b.value.foreign.now → ⊥) × IsRow net bound v b.value.own

-- the place of node v, at the cell of this name: its note, and what it says of the row that the note knows
pub record Fits (net : Net) (bound v name : ℕ) (p : Place) : Type 0 where
  pub cell : p.note.cell ≡ name
  pub known : p.note.known ≡ row_in p.seen
  pub checked : IsCheckedFor net bound v p.seen

-- the node's row is at hand, if any row is known
abbrev pub IsReady : Seen → Type 0
IsReady Nothing = Unit {0}
IsReady (Right r) = Unit {0}
IsReady (Foreign r) = ⊥
IsReady (Replaced b) = Unit {0}

-- the place knows a row afterwards, and if it knew one before, it is the same
abbrev pub KeepsSight : Option TableRow → Option TableRow → Type 0
KeepsSight before after = (row : TableRow) × (after ≡ Some row) × IfSome before (λ r. r ≡ row)

-- nothing is known, as before
abbrev pub StaysBlind : Option TableRow → Option TableRow → Type 0
StaysBlind before after = (before ≡ None) × (after ≡ None)

-- searches for rows of these slots
abbrev pub IsSearcherOf : SlotSet → BoundedTable → Type 0
IsSearcherOf slots t = t ≡ record { network = slots.network; bound = slots.bound }

-- the place of node v of some slots, and a searcher for their rows
pub record IsPlaceOf (slots : SlotSet) (v : ℕ) (t : SlotSet) (p : Place) : Type 0 where
  pub node : HasNode slots.network v
  pub cells_count : length slots.cells ≡ length slots.network.nodes
  pub judge : t ≡ slots
  pub fits : Fits slots.network slots.bound v (slice_index slots.cells v) p
