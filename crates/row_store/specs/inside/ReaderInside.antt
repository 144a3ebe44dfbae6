-- What a reader is made of.
use Rattle.std.specs.Prelude.{◌≡◌, List, [], Option, Some, None}
use Rattle.std.specs.Option.{IfSome}
use Rattle.bounded_table.specs.Table.{TableRow}
use Rattle.row_store.specs.Store.{NearSlots, Reading, SlotSet, Stored, near_slots, table_slots}
use Rattle.row_store.specs.inside.Views.{IsViewOf, seen_of}
use Rattle.row_store.specs.declared.view.View.{View}
use Rattle.row_store.specs.declared.reader.Reader.TheInside.{Inside}

-- what was seen in the near slots of a store
abbrev pub near_seen : Stored → Option NearSlots → Option View → List (Option TableRow)
near_seen store None view = []
near_seen store (Some near) view = (seen_of (near_slots store near) view).places

abbrev pub reading_of : Inside → Reading
reading_of a = record {
  store = a.store.now;
  places = (seen_of (table_slots a.store.now) a.table).places;
  near = near_seen a.store.now a.store.now.near a.near;
}

-- the view is one of the near slots
abbrev pub IsNearView : Stored → Option NearSlots → Option View → Type 0
IsNearView store None view = view ≡ None
IsNearView store (Some near) view = IfSome view (IsViewOf (near_slots store near))

-- a view of the table and one of the near rows, each if it was opened
pub record IsKept (a : Inside) : Type 0 where
  pub table : IfSome a.table (IsViewOf (table_slots a.store.now))
  pub near : IsNearView a.store.now a.store.now.near a.near

-- these are the near slots of the store
abbrev pub IsNearOf : Stored → SlotSet → Type 0
IsNearOf store slots = (near : NearSlots) × (store.near ≡ Some near) × (slots ≡ near_slots store near)
