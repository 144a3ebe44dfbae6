-- What a view of slots is made of.
use Rattle.std.specs.Prelude.{◌≡◌, ◌⊎◌, ℕ, List, Option, Some, None, IfSome, IsSome, Result, OnOk, map, length, slice_get, slice_index}
use Rattle.road_network.specs.Net.{HasNode, Net}
use Rattle.row_store.specs.inside.Places.{Fits, IsReady}
use Rattle.bounded_table.specs.Table.{TableRow}
use Rattle.row_store.specs.Store.{Sees, SlotSet, Viewing, fresh_view}
use Rattle.row_store.specs.declared.place.Place.{Place}
use Rattle.row_store.specs.declared.view.View.{View}

abbrev pub viewing : SlotSet → List Place → Viewing
viewing slots places = record { slots = slots; places = map (λ p. p.note.known) places }

abbrev pub viewing_of : View → Viewing
viewing_of view = viewing view.slots.now view.places.items

-- each place is that of its node
abbrev pub AllFit : SlotSet → List Place → Type 0
AllFit slots places =
    (k : ℕ) (p : Place) → slice_get places k ≡ Some p
    → Fits slots.network slots.bound k (slice_index slots.cells k) p

-- a slot and a place for each node
pub record IsView (view : View) : Type 0 where
  pub cells_count : length view.slots.now.cells ≡ length view.slots.now.network.nodes
  pub places_count : length view.places.items ≡ length view.slots.now.network.nodes
  pub fit : AllFit view.slots.now view.places.items
  pub judge : view.judge ≡ view.slots.now

-- node v is one of its nodes
pub record IsViewAt (view : View) (v : ℕ) : Type 0 where
  pub is : IsView view
  pub node : HasNode view.slots.now.network v

-- it is a view of the same slots as before
pub record StaysView (before after : View) : Type 0 where
  pub slots : after.slots ≡ before.slots
  pub is : IsView after

-- at most node v was seen, and after Ok it was
pub record Fills {A E : Type 0} (before : Viewing) (v : ℕ) (result : Result A E) (after : Viewing) : Type 0 where
  pub learns : (after ≡ before) ⊎ ((row : TableRow) × Sees before v row after)
  pub seen : OnOk result ((row : TableRow) × Sees before v row after)

-- the row of node v is at hand
pub record HasRow (view : View) (v : ℕ) : Type 0 where
  pub place : Place
  pub at : slice_get view.places.items v ≡ Some place
  pub known : IsSome place.note.known
  pub ready : IsReady place.seen

-- ---- a view that is opened at first need

-- it is a view of these slots
pub record IsViewOf (slots : SlotSet) (view : View) : Type 0 where
  pub slots_are : view.slots.now ≡ slots
  pub is : IsView view

-- what was seen of these slots
abbrev pub seen_of : SlotSet → Option View → Viewing
seen_of slots None = fresh_view slots
seen_of slots (Some view) = viewing_of view

-- it is a view of these slots, and node v and the fans are of their network
pub record CanLook (slots : SlotSet) (fans : Net) (v : ℕ) (view : Option View) : Type 0 where
  pub is : IfSome view (IsViewOf slots)
  pub node : HasNode slots.network v
  pub fans_are : fans ≡ slots.network

-- the view is open
abbrev pub IsOpen : SlotSet → Option View → Type 0
IsOpen slots view = (shown : View) × (view ≡ Some shown) × IsViewOf slots shown

-- the view is open, and the row of node v is at hand
abbrev pub HasOpenRow : ℕ → Option View → Type 0
HasOpenRow v view = (shown : View) × (view ≡ Some shown) × HasRow shown v

-- this row is the one that was seen for node v, and nothing changed
pub record Agreed (slots : SlotSet) (v : ℕ) (row : TableRow) (before after : Option View) : Type 0 where
  pub same : seen_of slots after ≡ seen_of slots before
  pub row_is : slice_get (seen_of slots before).places v ≡ Some (Some row)
