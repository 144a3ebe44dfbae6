use Rattle.std.proofs.Common.{length, Bor, ◌≡◌, ◌<◌, ◌∙◌, Some, sym, subst}
use Rattle.bounded_table.specs.Table.{TableRow}
use Rattle.row_store.specs.Store.{SlotSet, Sees}
use Rattle.row_store.specs.inside.Views.{viewing_of}
use Rattle.row_store.proofs.view.View.offer.Goals as goal

pub seen-requires : goal.seen-requires
seen-requires c =
    let s = c.in_ok-settle_with.ensures.seen in
    (record { is = c.in_ok-settle_with.ensures.stays.is; node = subst (λ (y : Bor SlotSet). c.args.n.0 < length y.now.network.nodes) (sym c.in_ok-settle_with.ensures.stays.slots) c.requires.node }, (s.0, s.1.known))

pub returns-clause-seen : goal.returns-clause-seen
returns-clause-seen c =
    let s = c.in_ok-settle_with.ensures.seen in
    let same : s.0 ≡ c.seen.result.now = (let e : Some (Some s.0) ≡ Some (Some (c.seen.result.now)) = sym s.1.known ∙ c.seen.ensures in cc) in
    subst (λ (r : TableRow). Sees (viewing_of c.args.self.now) c.args.n.0 r (viewing_of c.settle_with.new.self)) same s.1
