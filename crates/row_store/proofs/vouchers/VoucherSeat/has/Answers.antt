use Rattle.std.proofs.Common.{◌<◌, ◌∙◌, length, sym, subst, refl, ap, arith}
use Rattle.std.specs.Prelude.{slice_index}
use Rattle.once_cell.specs.declared.race.note.Note.{Note}
use Rattle.bounded_table.specs.Table.{TableRow}
use Rattle.row_store.specs.Store.{SlotSet}
use Rattle.row_store.specs.inside.Vouchers.{HasVoucher}
use Rattle.row_store.proofs.Vouching.{Seat, agreed, exchanged_for, gives_back, out_is, takes_out, voucher_of}
use Rattle.row_store.proofs.vouchers.VoucherSeat.has.Goals as goal

pub compare_exchange-requires : goal.compare_exchange-requires
compare_exchange-requires c =
    let i = c.self.invariant in
    let node : c.args.n.0 < length c.self.inside.slots.now.network.nodes = subst (λ (s : SlotSet). c.args.n.0 < length s.network.nodes) (sym c.self.view_is) c.requires.node in
    let words = i.table.words in
    let places = i.table.places in (
      i.seat,
      omega (arith, node, words),
      takes_out c.self.inside.vouchers.now.shared.key c.self.inside.vouchers.now.shared.table_id.slots c.self.inside.seat.id c.args.n.0 1 c.self.inside.seat.me (omega (arith, node, places)) (λ e. omega arith),
    )

pub store-requires : goal.store-requires
store-requires c =
    let i = c.self.invariant in
    let node : c.args.n.0 < length c.self.inside.slots.now.network.nodes = subst (λ (s : SlotSet). c.args.n.0 < length s.network.nodes) (sym c.self.view_is) c.requires.node in
    let words = i.table.words in
    let places = i.table.places in
    let key = c.self.inside.vouchers.now.shared.key in
    let slots = c.self.inside.slots.now in
    let out = c.compare_exchange.ensures.2.taken c.if-compare_exchange-ne-HERE.false in
    let held = out_is c.args.n.0 out.0 c.exchange.result c.self.inside.seat.me c.compare_exchange.new.seat.me out.1 c.exchange.ensures.2 in
    let has = subst (λ (m : Seat). HasVoucher m.0 c.args.n.0 out.0) i.view (out.2 c.if-compare_exchange-ne-HERE.false) in
    let voucher = voucher_of key slots c.args.n.0 out.0 c.in-Some.left has i.table.named (sym held ∙ c.in-Some.is) in
    let known = ap (λ (n : Note TableRow). n.known) c.again.ensures.1 ∙ c.requires.note.1 in
    let right = agreed slots c.args.n.0 c.again.new.self.known c.args._row.now c.in-Some.left (ap (λ (n : Note TableRow). n.known) c.again.ensures.0 ∙ c.requires.note.1) voucher c.compare.ensures.1 in
    let cell = ap (λ (n : Note TableRow). n.cell) c.again.ensures.1 ∙ c.requires.note.0 ∙ ap (λ (s : SlotSet). slice_index s.cells c.args.n.0) (sym c.self.view_is) in (
      c.exchange.ensures.0 ∙ c.compare_exchange.ensures.0 ∙ i.seat,
      omega (arith, node, words),
      gives_back key c.self.inside.vouchers.now.shared.table_id.slots _ c.args.n.0 _ _ (omega (arith, node, places))
          record { slots = slots; named = i.table.named; note = c.again.result; is = refl; right = record { cell = cell; row = c.args._row.now; known = known; right = right } }
          (exchanged_for key c.args.n.0 out.0 _ c.self.inside.seat.me c.compare_exchange.new.seat.me c.exchange.new.seat.me i.view out.1 c.exchange.ensures.3),
    )
