-- Notes of right rows, kept beside the slots that contain these rows, and the rule that they follow.
use Rattle.std.specs.Prelude.{◌≡◌, ◌≢◌, ◌<◌, ◌∷◌, [], ℕ, Option, Some, length, slice_index}
use mathlib.Core.Option.{some}
use lib.ListN.{get_elem?}
use Rattle.atomic_table.specs.Seated.{TableId}
use Rattle.atomic_table.specs.Table.{Me, State}
use Rattle.atomic_table.specs.declared.badge.Badge.{Badge}
use Rattle.once_cell.specs.declared.race.note.Note.{Note}
use Rattle.bounded_table.specs.Table.{TableRow, IsRow}
use Rattle.row_store.specs.Store.{SlotSet}

-- the badge that names some slots
abbrev pub Name : Type 0
Name = Badge SlotSet

-- a note of the slot of node v, which knows that this slot contains the row of v
pub record IsVoucher (slots : SlotSet) (v : ℕ) (note : Note TableRow) : Type 0 where
  pub cell : note.cell ≡ slice_index slots.cells v
  pub row : TableRow
  pub known : note.known ≡ Some row
  pub right : IsRow slots.network slots.bound v row

-- what is in the place of node v is such a note, of the slots that have this name
pub record HasVoucher (name : Name) (v : ℕ) (held : Option (Note TableRow)) : Type 0 where
  pub slots : SlotSet
  pub named : name.views ≡ slots ∷ []
  pub note : Note TableRow
  pub is : held ≡ Some note
  pub right : IsVoucher slots v note

-- the rule: a place is at home unless its word is 2, there is a voucher in it if the word is 1, and each seat knows the name
pub record Vouched (name : Name) (s : State (Option (Note TableRow)) Name) : Type 0 where
  pub long : length s.words ≡ length s.homes
  pub home : (v : ℕ) → v < length s.homes → slice_index s.words v ≢ 2
      → (held : Option (Note TableRow)) × (get_elem? s.homes v ≡ some (some held)) × (slice_index s.words v ≡ 1 → HasVoucher name v held)
  pub named : (seat : ℕ) (view : Name) → get_elem? s.views seat ≡ some view → view ≡ name

-- one try at the place of node v: if the word was the expected one, the seat has what was in the place, and else nothing changed
pub record Takes (expected v : ℕ) (me : Me (Option (Note TableRow)) Name) (found : ℕ) (new : Me (Option (Note TableRow)) Name) : Type 0 where
  pub taken : found ≡ expected → (held : Option (Note TableRow)) × (new ≡ (me.0, (v, held) ∷ me.1)) × (found ≡ 1 → HasVoucher me.0 v held)
  pub not : found ≢ expected → new ≡ me

-- a table of notes for these slots, with a word and a place for each
pub record IsTableFor (slots : SlotSet) (name : Name) (id : TableId) : Type 0 where
  pub named : name.views ≡ slots ∷ []
  pub words : id.words ≡ length slots.network.nodes
  pub places : id.slots ≡ length slots.network.nodes

-- a seat of such a table, which has taken nothing
pub record IsSeated (slots : SlotSet) (name : Name) (id seat_of : TableId) (me : Me (Option (Note TableRow)) Name) : Type 0 where
  pub table : IsTableFor slots name id
  pub seat : seat_of ≡ id
  pub view : me ≡ (name, [])
