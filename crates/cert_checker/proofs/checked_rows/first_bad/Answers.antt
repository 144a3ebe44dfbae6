use Rattle.std.proofs.Common.{◌≡◌, ◌+◌, ℕ, true, false, drop, get_or, arith, sym, ap, ◌∙◌}
use Rattle.bounded_table.specs.Table.{BoundedTable, TableRow}
use Rattle.std.proofs.lemmas.List.{get_or_default}
use Rattle.cert_checker.specs.Rows.{bad_row_from, is_next_row}
use Rattle.cert_checker.proofs.RightRows.{all_rows, bad_row, good_row}
use Rattle.cert_checker.proofs.checked_rows.first_bad.Goals as goal

pub returns-then-not-is_next : goal.returns-then-not-is_next
returns-then-not-is_next c =
    let s = c.loop-place in
    let net = c.args.net.now in
    let part = c.args.part.now in
    let rows = part.rows.now in
    let row : TableRow = get_or rows s.place c.index-part-place.result in
    let place : get_or rows s.place row ≡ row = get_or_default rows s.place row c.index-part-place.result c.loop-place-test.true in
    let bad : is_next_row net c.args.checker.now.bound s.least row ≡ false =
    ap (λ (t : BoundedTable). is_next_row net t.bound s.least row) (sym s.invariant.same) ∙ sym c.is_next.ensures.next ∙ c.if-not-is_next.true in
    bad_row net c.args.checker.now.bound s.least (part.first + s.place) s.place rows row c.loop-place-test.true place bad ∙ s.invariant.rest

pub loop-place-preserved : goal.loop-place-preserved
loop-place-preserved c =
    let s = c.loop-place in
    let net = c.args.net.now in
    let bound = c.args.checker.now.bound in
    let part = c.args.part.now in
    let rows = part.rows.now in
    let row : TableRow = get_or rows s.place c.index-part-place.result in
    let good : is_next_row net bound s.least row ≡ true =
    ap (λ (t : BoundedTable). is_next_row net t.bound s.least row) (sym s.invariant.same) ∙ sym c.is_next.ensures.next ∙ c.if-not-is_next.false in
    let place : get_or rows s.place row ≡ row = get_or_default rows s.place row c.index-part-place.result c.loop-place-test.true in
    let same : get_or rows s.place c.index-part-place-in-loop-place.result ≡ row = get_or_default rows s.place c.index-part-place-in-loop-place.result c.index-part-place.result c.loop-place-test.true in
    let origin : c.from-least.result ≡ row.origin = c.from-least.ensures ∙ c.origin.ensures ∙ ap (λ (r : TableRow). r.origin) same in
    let number : part.first + (s.place + 1) ≡ part.first + s.place + 1 = omega arith in
    record {
      same = c.is_next.ensures.same ∙ s.invariant.same;
      rest = ap (λ (m : ℕ). bad_row_from net bound (c.from-least.result + 1) m (drop (s.place + 1) rows)) number
          ∙ ap (λ (v : ℕ). bad_row_from net bound (v + 1) (part.first + s.place + 1) (drop (s.place + 1) rows)) origin
          ∙ good_row net bound s.least (part.first + s.place) s.place rows row c.loop-place-test.true place good
          ∙ s.invariant.rest;
    }

pub returns : goal.returns
returns c =
    let part = c.args.part.now in
    all_rows c.args.net.now c.args.checker.now.bound c.loop-place.least (part.first + c.loop-place.place) c.loop-place.place part.rows.now (omega (arith, c.loop-place-test.false)) ∙ c.loop-place.invariant.rest
