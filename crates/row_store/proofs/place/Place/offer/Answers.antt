use Rattle.std.proofs.Common.{◌∙◌, ap, sym, subst}
use Rattle.road_network.specs.Net.{HasNode}
use Rattle.bounded_table.specs.Table.{TableRow}
use Rattle.once_cell.specs.declared.race.note.Note.{Note}
use Rattle.row_store.specs.Store.{SlotSet}
use Rattle.row_store.specs.declared.place.Place.{Place}
use Rattle.row_store.proofs.place.Place.offer.Goals as goal

pub returns-then-is_known-clause-place : goal.returns-then-is_known-clause-place
returns-then-is_known-clause-place c = c.requires

pub is_right-right-requires-clause-node : goal.is_right-right-requires-clause-node
is_right-right-requires-clause-node c = subst (λ (t : SlotSet). HasNode t.network c.args.n.0) (sym c.requires.judge) c.requires.node

pub returns-clause-seen : goal.returns-clause-seen
returns-clause-seen c = (
  c.get_or_init_as-held.result.now,
  ap (λ (p : Place). p.note.known) c.vouch.ensures.same.0 ∙ ap (λ (n : Note TableRow). n.known) c.is_right-right.ensures.same.1 ∙ c.get_or_init_as-held.ensures.value.0,
  c.get_or_init_as-held.ensures.value.1,
)
