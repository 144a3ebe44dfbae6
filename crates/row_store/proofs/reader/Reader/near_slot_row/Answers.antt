use Rattle.std.proofs.Common.{◌≡◌, ◌≤◌, ap, arith, refl, sym, subst, true, true≢false, IsOk, List, None, Option, Some}
use Rattle.std.specs.Option.{IfSome}
use Rattle.std.proofs.lemmas.Result.{IfOk-from_err}
use Rattle.bounded_table.specs.Table.{IsRow, TableRow}
use Rattle.row_store.specs.inside.ReaderInside.{near_seen, reading_of}
use Rattle.row_store.specs.Store.{AsksSlot, NearSlots, Reading, SeesRow, SlotSet, Viewing, near_of}
use Rattle.row_store.specs.inside.Views.{Fills, seen_of}
use Rattle.row_store.proofs.Kept.{near_is, near_places, near_short, near_view, seen_near}
use Rattle.row_store.proofs.Readings.{near_fills, slot_err, slot_ok}
use Rattle.row_store.proofs.reader.Reader.near_slot_row.Goals as goal

-- a statement that holds of each value holds of one that may be absent
always : (o : Option NearSlots) (P : NearSlots → Type 0) → IfSome o (λ s. P s → true ≡ true)
always None P = tt
always (Some s) P = λ _. refl

pub returns-in_err-fill_both : goal.returns-in_err-fill_both
returns-in_err-fill_both c =
    let n = c.args.n.0 in
    let store = c.self.inside.store.now in
    let slots = c.in-Some.slots in
    let of = near_is c.store.inside store slots c.store.invariant c.store.view_is c.in-Some.is in
    let r = reading_of c.self.inside in
    let eq = seen_near store slots c.self.inside.near of (near_view store slots c.self.inside.near of c.self.invariant.near) in
    let after = seen_of slots c.fill_both.new.view in
    let filled = near_fills of.0 r n c.fill_both.result after (subst (λ (v : Viewing). Fills v n c.fill_both.result after) eq c.fill_both.ensures.fills) in
    let places = sym (near_places store slots c.fill_both.new.view of) in
    let left = subst (λ (l : List (Option TableRow)). AsksSlot r n c.from_residual.result (record r { near = l }) l) places (slot_err filled c.from_residual.ensures.0) in
    let seen = near_seen store store.near c.fill_both.new.view in (
      (refl, λ _. tt, subst (λ (y : Reading). AsksSlot y n c.from_residual.result (record r { near = seen }) seen) c.self.view_is left),
      record {
        value = IfOk-from_err _ _ c.from_residual.ensures.0;
        again = subst (λ (y : Reading). IfSome y.store.near (λ (s : NearSlots). SeesRow (near_of y s) n → IsOk c.from_residual.result)) c.self.view_is
            (subst (λ (o : Option NearSlots). IfSome o (λ (s : NearSlots). SeesRow (near_of r s) n → IsOk c.from_residual.result)) (sym of.1)
            (λ known. absurd (true≢false (sym (c.in_err-fill_both.ensures.again (subst (λ (v : Viewing). SeesRow v n) (sym eq) known))))));
        after = tt;
      },
    )

pub returns : goal.returns
returns c =
    let n = c.args.n.0 in
    let store = c.self.inside.store.now in
    let slots = c.in-Some.slots in
    let of = near_is c.store.inside store slots c.store.invariant c.store.view_is c.in-Some.is in
    let r = reading_of c.self.inside in
    let eq = seen_near store slots c.self.inside.near of (near_view store slots c.self.inside.near of c.self.invariant.near) in
    let after = seen_of slots c.fill_both.new.view in
    let filled = near_fills of.0 r n c.fill_both.result after (subst (λ (v : Viewing). Fills v n c.fill_both.result after) eq c.fill_both.ensures.fills) in
    let places = sym (near_places store slots c.fill_both.new.view of) in
    let left = subst (λ (l : List (Option TableRow)). AsksSlot r n c.fill_both.result (record r { near = l }) l) places filled in
    let seen = near_seen store store.near c.fill_both.new.view in
    let short = near_short c.store.inside store slots c.store.invariant c.store.view_is c.in-Some.is in
    let same = ap (λ (x : SlotSet). x.bound) of.2 in
    let row = subst (λ (x : SlotSet). IsRow x.network x.bound n c.lend_from.result.now) of.2 c.lend_from.ensures in (
      (refl, λ _. tt, slot_ok (subst (λ (y : Reading). AsksSlot y n c.fill_both.result (record r { near = seen }) seen) c.self.view_is left) c.in_ok-fill_both.was),
      record {
        value = subst (λ (y : Reading). IfSome y.store.near (λ (s : NearSlots). (s.bound ≤ y.store.bound) × IsRow y.store.network s.bound n c.lend_from.result.now)) c.self.view_is
            (subst (λ (o : Option NearSlots). IfSome o (λ (s : NearSlots). (s.bound ≤ store.bound) × IsRow store.network s.bound n c.lend_from.result.now)) (sym of.1)
            (omega (arith, short, same), row));
        again = always c.args.self.now.store.near _;
        after = tt;
      },
    )
