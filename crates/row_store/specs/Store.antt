-- What contracts see of a store of rows, and of one who reads in it.
use Rattle.std.specs.Prelude.{◌≡◌, ℕ, ◌/◌, Bool, false, ◌||◌, ◌&&◌, if◌then◌else◌, IsSomeAnd, OnOk, Result, List, [], ◌∷◌, ◌++◌, Option, Some, None, is_some, length, nat_le, not, replicate, slice_get, slice_index_or, slice_set, count_by}
use Rattle.std.specs.List.{list_any, range_with_len}
use Rattle.road_network.specs.Net.{Net}
use Rattle.bounded_table.specs.Known.{known_nodes}
use Rattle.bounded_table.specs.Rows.{AsksFor, RowsState}
use Rattle.bounded_table.specs.Table.{TableRow, IsRow}

-- ---- the slots for one bound, and who looks at them

-- the network and the bound of the rows, and the names of the slots, one for each node
pub record SlotSet : Type 0 where
  pub network : Net
  pub bound : ℕ
  pub cells : List ℕ

-- these slots, and for each node nothing, or the row that was seen in its slot
pub record Viewing : Type 0 where
  pub slots : SlotSet
  pub places : List (Option TableRow)

-- nothing was seen
abbrev pub fresh_view : SlotSet → Viewing
fresh_view slots = record { slots = slots; places = replicate (length slots.network.nodes) None }

-- whether a row of node v was seen
abbrev pub is_seen : Viewing → ℕ → Bool
is_seen view v = is_some (slice_index_or view.places v None)

abbrev pub IsSeen : Viewing → ℕ → Type 0
IsSeen view v = (row : TableRow) × (slice_get view.places v ≡ Some (Some row))

-- the row that was seen for node v is the row of v within the bound of these slots
abbrev pub SeesRow : Viewing → ℕ → Type 0
SeesRow view v = (row : TableRow) × (slice_get view.places v ≡ Some (Some row)) × IsRow view.slots.network view.slots.bound v row

-- this row was seen for node v, of the same slots, and else what was seen before
pub record Sees (before : Viewing) (v : ℕ) (row : TableRow) (after : Viewing) : Type 0 where
  pub slots : after.slots ≡ before.slots
  pub places : after.places ≡ slice_set before.places v (Some row)
  pub stays : (r : TableRow) → slice_get before.places v ≡ Some (Some r) → row ≡ r
  pub known : slice_get after.places v ≡ Some (Some row)

-- ---- a store

-- the bound of near rows: the next position of a trace is most often much nearer than the bound
abbrev pub near_bound : ℕ → ℕ
near_bound bound = bound / 3

-- the bound of the near rows, and the names of their slots
pub record NearSlots : Type 0 where
  pub bound : ℕ
  pub cells : List ℕ

-- a store: the network and the bound of the table's rows, the names of the table's slots, and the near rows' slots, if it has any
pub record Stored : Type 0 where
  pub network : Net
  pub bound : ℕ
  pub cells : List ℕ
  pub near : Option NearSlots

-- a store for the rows of this network within this bound
pub record IsOpened (network : Net) (bound : ℕ) (store : Stored) : Type 0 where
  pub network_is : store.network ≡ network
  pub bound_is : store.bound ≡ bound
  pub cells_count : length store.cells ≡ length network.nodes

-- it has slots for near rows, of which a third of its bound is the bound
abbrev pub HasNearRows : Stored → Type 0
HasNearRows store = IsSomeAnd store.near (λ near. near.bound ≡ near_bound store.bound)

-- the slots of the table, and those of the near rows
abbrev pub table_slots : Stored → SlotSet
table_slots store = record { network = store.network; bound = store.bound; cells = store.cells }

abbrev pub near_slots : Stored → NearSlots → SlotSet
near_slots store near = record { network = store.network; bound = near.bound; cells = near.cells }

-- ---- a reader

-- a reader: the store that it is of, and for each node nothing, or the row that it knows, in the table's slots and in those of
-- the near rows
pub record Reading : Type 0 where
  pub store : Stored
  pub places : List (Option TableRow)
  pub near : List (Option TableRow)

-- what it sees of the table, and of near rows
abbrev pub table_of : Reading → Viewing
table_of r = record { slots = table_slots r.store; places = r.places }

abbrev pub near_of : Reading → NearSlots → Viewing
near_of r near = record { slots = near_slots r.store near; places = r.near }

-- no row was seen in the near slots of a store; without such slots there are no places
abbrev pub fresh_near : Stored → Option NearSlots → List (Option TableRow)
fresh_near store None = []
fresh_near store (Some near) = (fresh_view (near_slots store near)).places

-- a reader that knows nothing
abbrev pub fresh_reading : Stored → Reading
fresh_reading store = record {
  store = store;
  places = (fresh_view (table_slots store)).places;
  near = fresh_near store store.near;
}

-- whether a reader knows a row for node v: its row, or its near row, or a foreign one in place of either
abbrev pub knows : Reading → ℕ → Bool
knows r v = is_some (slice_index_or r.places v None) || is_some (slice_index_or r.near v None)

-- the reader is of the same store, saw this row in the table's slot of node v, and else knows what it knew
pub record SeesTable (before : Reading) (v : ℕ) (row : TableRow) (after : Reading) : Type 0 where
  pub store : after.store ≡ before.store
  pub table : Sees (table_of before) v row (table_of after)
  pub near : after.near ≡ before.near

-- so for the near slot
pub record SeesNear (slots : NearSlots) (before : Reading) (v : ℕ) (row : TableRow) (after : Reading) : Type 0 where
  pub store : after.store ≡ before.store
  pub near : Sees (near_of before slots) v row (near_of after slots)
  pub places : after.places ≡ before.places

-- Where the reader looks for a row of node v that reaches so far: in the near slots, if their rows do, and otherwise in the
-- table. If it knows a row of v in the table's slot alone, it takes that one.
abbrev pub looks_near : Reading → ℕ → Bool
looks_near r v = is_some (slice_index_or r.near v None) || not (is_some (slice_index_or r.places v None))

abbrev pub takes_near : Reading → Option NearSlots → (reach v : ℕ) → Bool
takes_near r None reach v = false
takes_near r (Some near) reach v = nat_le reach near.bound && looks_near r v

abbrev pub lender : Reading → Option NearSlots → (reach v : ℕ) → Viewing
lender r None reach v = table_of r
lender r (Some near) reach v = if takes_near r (Some near) reach v then near_of r near else table_of r

-- whether one of these readers knows a row for node v
abbrev pub is_known_to_any : List Reading → ℕ → Bool
is_known_to_any readers v = list_any (λ r. knows r v) readers

-- for how many nodes of the network at least one of these readers knows a row
abbrev pub count_known : List Reading → ℕ
count_known [] = 0
count_known (r ∷ rs) = count_by (is_known_to_any (r ∷ rs)) (range_with_len 0 (length r.store.network.nodes))

-- the rows that were seen: in the table's slots by node, and then in those of near rows
abbrev pub rows_seen : Reading → List (Option TableRow)
rows_seen r = r.places ++ r.near

-- both bounds and the names of all slots
abbrev pub near_source : Option NearSlots → List ℕ
near_source None = []
near_source (Some near) = near.bound ∷ near.cells

abbrev pub source_of : Stored → List ℕ
source_of store = store.bound ∷ length store.cells ∷ store.cells ++ near_source store.near

-- what a reader is to those who ask it for rows
abbrev pub rows_state : Reading → RowsState
rows_state r = record {
  network = r.store.network;
  bound = r.store.bound;
  source = source_of r.store;
  known = known_nodes r.places ++ known_nodes r.near;
  held = rows_seen r;
}

-- The reader asked for the row of node v, and learned no more. After Ok it has seen a row of v in the slot of these places.
pub record AsksSlot {A E : Type 0} (old : Reading) (v : ℕ) (result : Result A E) (new : Reading)
    (places : List (Option TableRow)) : Type 0 where
  pub asks : AsksFor (rows_state old) (λ w. w ≡ v) result (rows_state new)
  pub seen : OnOk result ((row : TableRow) × (slice_get places v ≡ Some (Some row)))

-- the places of the slots where the reader looked for such a row
abbrev pub lent_places : (old new : Reading) → (reach v : ℕ) → List (Option TableRow)
lent_places old new reach v = if takes_near old old.store.near reach v then new.near else new.places
