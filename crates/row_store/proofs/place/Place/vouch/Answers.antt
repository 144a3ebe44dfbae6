use Rattle.std.proofs.Common.{◌∙◌, ap, sym, subst}
use Rattle.std.specs.Prelude.{slice_index}
use Rattle.road_network.specs.Net.{HasNode}
use Rattle.bounded_table.specs.Table.{IsRow}
use Rattle.row_store.specs.inside.Places.{IsCheckedFor, row_in}
use Rattle.row_store.specs.Store.{SlotSet}
use Rattle.row_store.proofs.place.Place.vouch.Goals as goal

pub vouch-requires-clause-node : goal.vouch-requires-clause-node
vouch-requires-clause-node c = subst (λ (t : SlotSet). HasNode t.network c.args.n.0) (sym c.requires.judge) c.requires.node

pub vouch-requires-clause-note : goal.vouch-requires-clause-note
vouch-requires-clause-note c = (
  c.requires.fits.cell ∙ ap (λ (t : SlotSet). slice_index t.cells c.args.n.0) (sym c.requires.judge),
  c.requires.fits.known ∙ ap row_in c.in-Right.is,
)

pub vouch-requires-clause-right : goal.vouch-requires-clause-right
vouch-requires-clause-right c =
    subst (λ (t : SlotSet). IsRow t.network t.bound c.args.n.0 c.in-Right.row.now) (sym c.requires.judge)
    (subst (IsCheckedFor c.args._slots.now.network c.args._slots.now.bound c.args.n.0) c.in-Right.is c.requires.fits.checked)
