-- The two views of a reader, and the slots of its store.
use Rattle.std.proofs.Common.{◌≡◌, ◌≤◌, ℕ, [], map, length, Option, Some, None, Bool, ◌&&◌, cond, false, true, true≢false, is_some, refl, sym, ap, ◌∙◌, subst, arith}
use Rattle.std.proofs.lemmas.Bool.{leb-true}
use Rattle.std.specs.Option.{IfSome, option_map}
use Rattle.std.specs.Prelude.{MatchOption, nat_le, slice_index_or}
use Rattle.std.proofs.lemmas.List.{length-map, length-replicate}
use Rattle.bounded_table.specs.Table.{TableRow}
use Rattle.row_store.specs.Store.{NearSlots, Reading, SlotSet, Stored, lender, looks_near, near_bound, near_of, near_slots, table_of, table_slots, takes_near}
use Rattle.row_store.specs.inside.StoreInside.{AreOfOne, IsStored, near_of_set, stored}
use Rattle.row_store.specs.inside.ReaderInside.{IsNearOf, IsNearView, near_seen}
use Rattle.row_store.specs.inside.Views.{IsViewOf, seen_of}
use Rattle.row_store.specs.declared.store.RowStore.TheInside.{Inside}
use Rattle.row_store.specs.declared.place.Place.{Place}
use Rattle.row_store.specs.declared.view.View.{View}

-- the table's slots of a store
pub table_is : (a : Inside) (s : Stored) → stored a ≡ s → a.table ≡ table_slots s
table_is a s is = ap table_slots is

pub table_view : (a : Inside) (s : Stored) (view : Option View) → stored a ≡ s → IfSome view (IsViewOf (table_slots s)) → IfSome view (IsViewOf a.table)
table_view a s view is kept = subst (λ (x : SlotSet). IfSome view (IsViewOf x)) (sym (table_is a s is)) kept

pub fans_are : (a : Inside) → IsStored a → a.fans ≡ a.table.network
fans_are a is = is.fans

-- the near slots of a store
near_part : (table : SlotSet) (near : Option SlotSet) (slots : SlotSet) → IfSome near (AreOfOne table) → near ≡ Some slots → AreOfOne table slots
near_part table near slots is some = subst (λ (o : Option SlotSet). IfSome o (AreOfOne table)) some is

pub near_is : (a : Inside) (s : Stored) (slots : SlotSet) → IsStored a → stored a ≡ s → a.near ≡ Some slots → IsNearOf s slots
near_is a s slots kept is some =
    let part = near_part a.table a.near slots kept.near some in
    let network : slots.network ≡ s.network = part.network ∙ ap (λ (x : Stored). x.network) is in (
      near_of_set slots,
      sym (ap (λ (x : Stored). x.near) is) ∙ ap (option_map near_of_set) some,
      λ i. record { network = network i; bound = slots.bound; cells = slots.cells },
    )

-- near rows reach no further than rows
pub near_short : (a : Inside) (s : Stored) (slots : SlotSet) → IsStored a → stored a ≡ s → a.near ≡ Some slots → slots.bound ≤ s.bound
near_short a s slots kept is some =
    let part = near_part a.table a.near slots kept.near some in
    let third : slots.bound ≡ near_bound a.table.bound = part.bound in
    let same : a.table.bound ≡ s.bound = ap (λ (x : Stored). x.bound) is in
    omega (arith, third, same)

pub near_none : (a : Inside) (s : Stored) → stored a ≡ s → a.near ≡ None → s.near ≡ None
near_none a s is none = sym (ap (λ (x : Stored). x.near) is) ∙ ap (option_map near_of_set) none

pub near_view : (s : Stored) (slots : SlotSet) (view : Option View) (of : IsNearOf s slots) → IsNearView s s.near view → IfSome view (IsViewOf slots)
near_view s slots view of kept =
    let here : IsNearView s (Some of.0) view = subst (λ (o : Option NearSlots). IsNearView s o view) of.1 kept in
    subst (λ (x : SlotSet). IfSome view (IsViewOf x)) (sym of.2) here

-- a view of the near slots is kept
pub near_kept : (s : Stored) (slots : SlotSet) (view : Option View) (of : IsNearOf s slots) → IfSome view (IsViewOf slots) → IsNearView s s.near view
near_kept s slots view of is =
    subst (λ (o : Option NearSlots). IsNearView s o view) (sym of.1) (subst (λ (x : SlotSet). IfSome view (IsViewOf x)) of.2 is)

-- what was seen in the near slots
pub near_places : (s : Stored) (slots : SlotSet) (view : Option View) (of : IsNearOf s slots) → near_seen s s.near view ≡ (seen_of slots view).places
near_places s slots view of =
    ap (λ (o : Option NearSlots). near_seen s o view) of.1 ∙ ap (λ (x : SlotSet). (seen_of x view).places) (sym of.2)

-- whether a row is known in the near slots
pub near_unseen : (s : Stored) (view : Option View) (v : ℕ) → s.near ≡ None → is_some (slice_index_or (near_seen s s.near view) v None) ≡ false
near_unseen s view v none = ap (λ (o : Option NearSlots). is_some (slice_index_or (near_seen s o view) v None)) none

-- a view shows what it shows of these slots
pub seen_is : (slots : SlotSet) (view : Option View) → IfSome view (IsViewOf slots) → seen_of slots view ≡ record { slots = slots; places = (seen_of slots view).places }
seen_is slots None is = refl
seen_is slots (Some view) is = λ i. record { slots = is.slots_are i; places = map (λ (p : Place). p.note.known) view.places.items }

-- a view has a place for each node
pub view_places : (slots : SlotSet) (view : Option View) → IfSome view (IsViewOf slots) → length (seen_of slots view).places ≡ length slots.network.nodes
view_places slots None is = length-replicate (length slots.network.nodes) (let none : Option TableRow = None in none)
view_places slots (Some view) is = length-map view.places.items (λ (p : Place). p.note.known) ∙ is.is.places_count ∙ ap (λ (s : SlotSet). length s.network.nodes) is.slots_are

pub near_places_count : (s : Stored) (near : Option NearSlots) (view : Option View) → IsNearView s near view → MatchOption near (near_seen s near view ≡ []) (λ _. length (near_seen s near view) ≡ length s.network.nodes)
near_places_count s None view is = refl
near_places_count s (Some near) view is = view_places (near_slots s near) view is

-- what the view of the near slots of a reader shows
pub seen_near : (s : Stored) (slots : SlotSet) (view : Option View) (of : IsNearOf s slots) → IfSome view (IsViewOf slots) → seen_of slots view ≡ record { slots = near_slots s of.0; places = near_seen s s.near view }
seen_near s slots view of is = seen_is slots view is ∙ (λ i. record { slots = of.2 i; places = (sym (near_places s slots view of)) i })

-- ---- where a reader looks for a row that reaches so far

pub lender_near : (r : Reading) (near : Option NearSlots) (reach v : ℕ) → takes_near r near reach v ≡ true → (s : NearSlots) × (near ≡ Some s) × (lender r near reach v ≡ near_of r s) × (reach ≤ s.bound)
lender_near r None reach v is = absurd (true≢false (sym is))
lender_near r (Some s) reach v is = (s, refl, ap (λ (b : Bool). cond b (near_of r s) (table_of r)) is, reaches (nat_le reach s.bound) refl is)
  where
    reaches : (b : Bool) → nat_le reach s.bound ≡ b → (b && looks_near r v) ≡ true → reach ≤ s.bound
    reaches true e f = leb-true reach s.bound e
    reaches false e f = absurd (true≢false (sym f))

pub lender_table : (r : Reading) (near : Option NearSlots) (reach v : ℕ) → takes_near r near reach v ≡ false → lender r near reach v ≡ table_of r
lender_table r None reach v is = refl
lender_table r (Some s) reach v is = ap (λ (b : Bool). cond b (near_of r s) (table_of r)) is
