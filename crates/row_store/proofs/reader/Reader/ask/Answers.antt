use Rattle.std.proofs.Common.{◌∙◌, ap, refl, sym, subst, true≢false}
use Rattle.std.proofs.lemmas.Result.{IfOk-from_err}
use Rattle.bounded_table.specs.Table.{IsRow}
use Rattle.row_store.specs.inside.ReaderInside.{reading_of}
use Rattle.row_store.specs.Store.{AsksSlot, Reading, SeesRow, SlotSet, Viewing, table_of, table_slots}
use Rattle.row_store.specs.inside.Views.{Fills, seen_of}
use Rattle.row_store.proofs.Kept.{seen_is, table_is}
use Rattle.row_store.proofs.Readings.{slot_err, slot_ok, table_fills, with_table}
use Rattle.row_store.proofs.reader.Reader.ask.Goals as goal

pub returns-in_err-fill_in : goal.returns-in_err-fill_in
returns-in_err-fill_in c =
    let n = c.args.n.0 in
    let store = c.self.inside.store.now in
    let slots = table_is c.store.inside store c.store.view_is in
    let seen = seen_is (table_slots store) c.self.inside.table c.self.invariant.table in
    let after = seen_of (table_slots store) c.fill_in.new.view in
    let fills = subst (λ (x : SlotSet). Fills (seen_of x c.self.inside.table) n c.fill_in.result (seen_of x c.fill_in.new.view)) slots c.fill_in.ensures.fills in
    let filled = table_fills (reading_of c.self.inside) n c.fill_in.result after (subst (λ (v : Viewing). Fills v n c.fill_in.result after) seen fills) in (
      (refl, λ _. tt, subst (λ (y : Reading). AsksSlot y n c.from_residual.result (with_table (reading_of c.self.inside) after) after.places) c.self.view_is (slot_err filled c.from_residual.ensures.0)),
      record {
        value = IfOk-from_err _ _ c.from_residual.ensures.0;
        again = λ known.
            let here = subst (λ (y : Reading). SeesRow (table_of y) n) (sym c.self.view_is) known in
            let there = subst (λ (v : Viewing). SeesRow v n) (sym seen) here in
            absurd (true≢false (sym (c.in_err-fill_in.ensures.again (subst (λ (x : SlotSet). SeesRow (seen_of x c.self.inside.table) n) (sym slots) there))));
        after = tt;
      },
    )

pub returns : goal.returns
returns c =
    let n = c.args.n.0 in
    let store = c.self.inside.store.now in
    let slots = table_is c.store.inside store c.store.view_is in
    let seen = seen_is (table_slots store) c.self.inside.table c.self.invariant.table in
    let after = seen_of (table_slots store) c.fill_in.new.view in
    let fills = subst (λ (x : SlotSet). Fills (seen_of x c.self.inside.table) n c.fill_in.result (seen_of x c.fill_in.new.view)) slots c.fill_in.ensures.fills in
    let filled = table_fills (reading_of c.self.inside) n c.fill_in.result after (subst (λ (v : Viewing). Fills v n c.fill_in.result after) seen fills) in (
      (refl, λ _. tt, slot_ok (subst (λ (y : Reading). AsksSlot y n c.fill_in.result (with_table (reading_of c.self.inside) after) after.places) c.self.view_is filled) c.in_ok-fill_in.was),
      record {
        value = subst (λ (x : SlotSet). IsRow x.network x.bound n c.lend_from.result.now) (slots ∙ ap (λ (y : Reading). table_slots y.store) c.self.view_is) c.lend_from.ensures;
        again = λ known. refl;
        after = tt;
      },
    )
