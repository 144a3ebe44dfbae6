use Rattle.std.proofs.Common.{Bor, length, ◌<◌, sym, subst}
use Rattle.row_store.specs.Store.{SlotSet}
use Rattle.row_store.proofs.view.View.fill.Goals as goal

pub make_own-requires : goal.make_own-requires
make_own-requires c =
    let s = c.in_ok-settle.ensures.seen in
    (record { is = c.in_ok-settle.ensures.stays.is; node = subst (λ (y : Bor SlotSet). c.args.n.0 < length y.now.network.nodes) (sym c.in_ok-settle.ensures.stays.slots) c.requires.node }, (s.0, s.1.known))
