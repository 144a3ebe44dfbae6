use Rattle.std.proofs.Common.{◌<◌, ◌∙◌, length, sym, subst, refl, arith}
use Rattle.once_cell.specs.declared.race.note.Note.{Note}
use Rattle.bounded_table.specs.Table.{TableRow}
use Rattle.row_store.specs.Store.{SlotSet}
use Rattle.row_store.specs.inside.Vouchers.{IsVoucher}
use Rattle.row_store.proofs.Vouching.{exchanged_for, gives_back, takes_out}
use Rattle.row_store.proofs.vouchers.VoucherSeat.leave.Goals as goal

pub compare_exchange-requires : goal.compare_exchange-requires
compare_exchange-requires c =
    let i = c.self.invariant in
    let node : c.args.n.0 < length c.self.inside.slots.now.network.nodes = subst (λ (s : SlotSet). c.args.n.0 < length s.network.nodes) (sym c.self.view_is) c.requires.node in
    let words = i.table.words in
    let places = i.table.places in (
      i.seat,
      omega (arith, node, words),
      takes_out c.self.inside.vouchers.now.shared.key c.self.inside.vouchers.now.shared.table_id.slots c.self.inside.seat.id c.args.n.0 0 c.self.inside.seat.me (omega (arith, node, places)) (λ e. omega arith),
    )

pub store-requires : goal.store-requires
store-requires c =
    let i = c.self.invariant in
    let node : c.args.n.0 < length c.self.inside.slots.now.network.nodes = subst (λ (s : SlotSet). c.args.n.0 < length s.network.nodes) (sym c.self.view_is) c.requires.node in
    let words = i.table.words in
    let places = i.table.places in
    let out = c.compare_exchange.ensures.2.taken c.if-compare_exchange-ne-NONE.false in
    let right = subst (λ (s : SlotSet). IsVoucher s c.args.n.0 c.again.result) (sym c.self.view_is) (subst (λ (n : Note TableRow). IsVoucher c.args.self.now c.args.n.0 n) (sym c.again.ensures.1) c.requires.right) in (
      c.exchange.ensures.0 ∙ c.compare_exchange.ensures.0 ∙ i.seat,
      omega (arith, node, words),
      gives_back c.self.inside.vouchers.now.shared.key c.self.inside.vouchers.now.shared.table_id.slots _ c.args.n.0 _ _ (omega (arith, node, places))
          record { slots = c.self.inside.slots.now; named = i.table.named; note = c.again.result; is = refl; right = right }
          (exchanged_for c.self.inside.vouchers.now.shared.key c.args.n.0 out.0 _ c.self.inside.seat.me c.compare_exchange.new.seat.me c.exchange.new.seat.me i.view out.1 c.exchange.ensures.3),
    )
