-- A view that is opened at first need.
use Rattle.std.proofs.Common.{◌≡◌, ℕ, zero, suc, Option, Some, None, Bool, false, is_some, not, true≢false, length, replicate, refl, sym, ap, ◌∙◌, subst}
use Rattle.std.specs.Option.{IfSome}
use Rattle.std.specs.Prelude.{slice_get, slice_index_or}
use Rattle.road_network.specs.Net.{HasNode}
use Rattle.bounded_table.specs.Table.{TableRow}
use Rattle.row_store.specs.Store.{IsSeen, SlotSet, is_seen}
use Rattle.row_store.specs.inside.Views.{IsOpen, IsViewAt, IsViewOf, StaysView, seen_of, viewing_of}
use Rattle.row_store.specs.declared.view.View.{View}

abbrev no_row : Option TableRow
no_row = None

nothing_there : (n v : ℕ) (row : TableRow) → slice_get (replicate n no_row) v ≡ Some (Some row) → ⊥
nothing_there zero v row e = cc
nothing_there (suc n) zero row e = cc
nothing_there (suc n) (suc v) row e = nothing_there n v row e

nothing_seen : (n v : ℕ) → is_some (slice_index_or (replicate n no_row) v no_row) ≡ false
nothing_seen zero v = refl
nothing_seen (suc n) zero = refl
nothing_seen (suc n) (suc v) = nothing_seen n v

-- a view that shows a row is open
pub seen_open : (slots : SlotSet) (view : Option View) (v : ℕ) → IfSome view (IsViewOf slots) → IsSeen (seen_of slots view) v → IsOpen slots view
seen_open slots None v is seen = absurd (nothing_there (length slots.network.nodes) v seen.0 seen.1)
seen_open slots (Some view) v is seen = (view, refl, is)

pub not_none : (slots : SlotSet) (view : Option View) (b : Bool) → IfSome view (IsViewOf slots) → is_some view ≡ not b → b ≡ false → IsOpen slots view
not_none slots None b is e f = absurd (true≢false (sym (e ∙ ap not f)))
not_none slots (Some view) b is e f = (view, refl, is)

pub none_seen : (slots : SlotSet) (view : Option View) (v : ℕ) → view ≡ None → is_seen (seen_of slots view) v ≡ false
none_seen slots view v none = ap (λ (o : Option View). is_seen (seen_of slots o) v) none ∙ nothing_seen (length slots.network.nodes) v

pub open_is : (slots : SlotSet) (view : Option View) (shown : View) → IsOpen slots view → view ≡ Some shown → IsViewOf slots shown
open_is slots view shown is some = let same : is.0 ≡ shown = (let e : Some is.0 ≡ Some shown = sym is.1 ∙ some in cc) in subst (IsViewOf slots) same is.2

pub some_is_view : (slots : SlotSet) (view : Option View) (shown : View) → IfSome view (IsViewOf slots) → view ≡ Some shown → IsViewOf slots shown
some_is_view slots view shown is some = subst (λ (o : Option View). IfSome o (IsViewOf slots)) some is

pub view_at : (slots : SlotSet) (shown : View) (n : ℕ) → IsViewOf slots shown → HasNode slots.network n → IsViewAt shown n
view_at slots shown n is node = record { is = is.is; node = subst (λ (s : SlotSet). HasNode s.network n) (sym is.slots_are) node }

pub view_after : (slots : SlotSet) (before after : View) → IsViewOf slots before → StaysView before after → IsViewOf slots after
view_after slots before after is stays = record { slots_are = ap (λ s. s.now) stays.slots ∙ is.slots_are; is = stays.is }

pub seen_some : (slots : SlotSet) (view : Option View) (shown : View) → view ≡ Some shown → seen_of slots view ≡ viewing_of shown
seen_some slots view shown some = ap (seen_of slots) some
