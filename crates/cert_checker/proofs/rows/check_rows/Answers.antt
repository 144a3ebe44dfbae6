use Rattle.std.proofs.Common.{◌≡◌, ◌+◌, drop, get_or, arith, sym, ap, ◌∙◌}
use Rattle.bounded_table.specs.Table.{TableRow}
use Rattle.std.proofs.lemmas.List.{get_or_default}
use Rattle.cert_checker.specs.Rows.{bad_row_from}
use Rattle.cert_checker.proofs.RightRows.{all_rows, bad_row, good_row, next_within}
use Rattle.cert_checker.proofs.rows.check_rows.Goals as goal

pub returns-then-not-is_next : goal.returns-then-not-is_next
returns-then-not-is_next c =
    let s = c.loop-place in
    let row : TableRow = c.index-rows-place.result in
    bad_row c.args.net.now c.args.bound s.least s.place s.place c.args.rows.now row c.loop-place-test.true (sym c.index-rows-place.is) (sym c.is_next.ensures ∙ c.if-not-is_next.true) ∙ s.invariant.rest

pub loop-place-preserved : goal.loop-place-preserved
loop-place-preserved c =
    let s = c.loop-place in
    let net = c.args.net.now in
    let rows = c.args.rows.now in
    let row : TableRow = c.index-rows-place.result in
    let good = sym c.is_next.ensures ∙ c.if-not-is_next.false in
    let within = next_within net c.args.bound s.least row good in
    let place : get_or rows s.place row ≡ row = sym c.index-rows-place.is in
    let same = c.index-rows-place-in-loop-place.is ∙ get_or_default rows s.place c.index-rows-place-in-loop-place.result row c.loop-place-test.true ∙ place in
    let origin : c.origin-least.result.0 ≡ row.origin = c.origin-least.ensures ∙ ap (λ (r : TableRow). r.origin) same in
    record {
      few = omega (arith, origin, within.0, s.invariant.few);
      within = omega (arith, origin, within.1);
      rest = ap (λ v. bad_row_from net c.args.bound (v + 1) (s.place + 1) (drop (s.place + 1) rows)) origin ∙ good_row net c.args.bound s.least s.place s.place rows row c.loop-place-test.true place good ∙ s.invariant.rest;
    }

pub returns : goal.returns
returns c = all_rows c.args.net.now c.args.bound c.loop-place.least c.loop-place.place c.loop-place.place c.args.rows.now (omega (arith, c.loop-place-test.false)) ∙ c.loop-place.invariant.rest
