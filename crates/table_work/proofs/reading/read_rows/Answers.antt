use Rattle.std.proofs.Common.{◌≡◌, ◌+◌, ap, eq-eqb, inr, length, sym, ◌∙◌}
use Rattle.std.proofs.lemmas.Bool.{eqb-true}
use Rattle.table_work.proofs.RowsOfText.{begins, read_fails, read_more, read_past_end, read_whole, row_goes_down}
use Rattle.table_work.proofs.reading.read_rows.Goals as goal

pub loop-rows-init : goal.loop-rows-init
loop-rows-init c = rw c.new-rows.ensures (begins c.args.counts c.args.text.now)

pub returns-then-is_empty : goal.returns-then-is_empty
returns-then-is_empty c =
    read_whole c.args.counts c.args.text.now c.loop-rows.rows c.loop-rows.least c.len-lines.result c.loop-rows.rest.now c.in-Some.behind.now c.len-lines.ensures
    (rw c.in-Some.is at c.in_ok-behind.ensures) (eqb-true (length c.in-Some.behind.now) 0 (sym c.if-is_empty.ensures)) c.loop-rows.invariant

pub returns-in-Some : goal.returns-in-Some
returns-in-Some c =
    inr (read_past_end c.args.counts c.args.text.now c.loop-rows.rows c.loop-rows.least c.len-lines.result c.loop-rows.rest.now c.in-Some.behind.now c.len-lines.ensures
    (rw c.in-Some.is at c.in_ok-behind.ensures) (λ none. absurd (cc (eq-eqb (length c.in-Some.behind.now) 0 none))) c.loop-rows.invariant)

pub returns-in_default-2 : goal.returns-in_default-2
returns-in_default-2 c =
    inr (read_fails c.args.counts c.args.text.now c.loop-rows.rows c.loop-rows.least c.len-lines.result c.loop-rows.rest.now c.fault_at.result c.len-lines.ensures
    (rw c.in_default.is at c.in_ok-behind.ensures) (rw c.in_default-2.is at c.in_ok-row.ensures) c.fault_at.ensures c.loop-rows.invariant)

pub loop-rows-smaller : goal.loop-rows-smaller
loop-rows-smaller c =
    row_goes_down c.args.counts c.loop-rows.least c.loop-rows.rest.now c.in-Some-2.row c.in-Some-2.next.now (sym (rw c.in-Some-2.is at c.in_ok-row.ensures))

pub loop-rows-preserved : goal.loop-rows-preserved
loop-rows-preserved c =
    let least : c.from-least.result + 1 ≡ c.in-Some-2.row.origin + 1 = ap (λ n. n + 1) (c.from-least.ensures ∙ c.origin.ensures) in
    read_more c.args.counts c.args.text.now c.loop-rows.rows c.push.new.self c.loop-rows.least c.len-lines.result (c.from-least.result + 1) c.loop-rows.rest.now c.in-Some-2.row c.in-Some-2.next.now c.len-lines.ensures
    (rw c.in_default.is at c.in_ok-behind.ensures) (rw c.in-Some-2.is at c.in_ok-row.ensures) least c.in_ok-push.ensures.ok c.loop-rows.invariant
