use Rattle.std.proofs.Common.{◌≡◌, ◌∙◌, Option, Some, None, ap, sym, subst}
use Rattle.road_network.specs.Net.{HasNode}
use Rattle.bounded_table.specs.Table.{TableRow}
use Rattle.once_cell.specs.Once.{Agrees}
use Rattle.once_cell.specs.declared.race.note.Note.{Note}
use Rattle.row_store.specs.Store.{SlotSet}
use Rattle.row_store.specs.declared.place.Place.{Place}
use Rattle.row_store.proofs.place.Place.offer_right.Goals as goal

agrees_on : (k : Option TableRow) (x y : TableRow) → Agrees k x → x ≡ y → Agrees k y
agrees_on None x y a e = tt
agrees_on (Some z) x y a e = a ∙ e

pub returns-then-is_known-clause-place : goal.returns-then-is_known-clause-place
returns-then-is_known-clause-place c = c.requires.place

pub is_right_or-right-requires-clause-node : goal.is_right_or-right-requires-clause-node
is_right_or-right-requires-clause-node c = subst (λ (t : SlotSet). HasNode t.network c.args.n.0) (sym c.requires.place.judge) c.requires.place.node

pub returns-clause-seen : goal.returns-clause-seen
returns-clause-seen c =
    let made = c.set_as.ensures.known in
    let same : made.0 ≡ c.in-Some.held.now = subst (λ (k : Option TableRow). Agrees k c.in-Some.held.now) made.1 c.in-Some.ensures.value.1 in (
      c.in-Some.held.now,
      ap (λ (p : Place). p.note.known) c.vouch.ensures.same.0 ∙ ap (λ (n : Note TableRow). n.known) c.is_right_or-right.ensures.same.1 ∙ c.in-Some.ensures.value.0,
      agrees_on c.args.self.now.note.known made.0 c.in-Some.held.now made.2 same,
    )
