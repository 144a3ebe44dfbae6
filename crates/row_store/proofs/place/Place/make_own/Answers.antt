use Rattle.std.proofs.Common.{sym, subst}
use Rattle.road_network.specs.Net.{HasNode}
use Rattle.row_store.specs.Store.{SlotSet}
use Rattle.row_store.specs.inside.Places.{IsPlaceOf}
use Rattle.row_store.proofs.place.Place.make_own.Goals as goal

pub row-requires : goal.row-requires
row-requires c = subst (λ (t : SlotSet). HasNode t.network c.args.n.0) (sym c.requires.judge) c.requires.node

pub returns-in_err-own-clause-place : goal.returns-in_err-own-clause-place
returns-in_err-own-clause-place c = subst (λ t. IsPlaceOf c.args.slots.now c.args.n.0 t c.args.self.now) (sym c.row.ensures.same) c.requires

pub returns-in_err-new-clause-place : goal.returns-in_err-new-clause-place
returns-in_err-new-clause-place c = subst (λ t. IsPlaceOf c.args.slots.now c.args.n.0 t c.args.self.now) (sym c.row.ensures.same) c.requires
