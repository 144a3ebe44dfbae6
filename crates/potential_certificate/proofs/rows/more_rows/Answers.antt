use Rattle.std.proofs.Common.{◌≡◌, ◌+◌, ℕ, List, ap, sym, ◌∙◌}
use Rattle.bounded_table.specs.Table.{TableRow}
use Rattle.potential_certificate.proofs.RowsRead.{begins, ends, goes_on, read_behind, row_goes_down}
use Rattle.potential_certificate.proofs.rows.more_rows.Goals as goal

pub loop-rows-init : goal.loop-rows-init
loop-rows-init c = begins c.args.front c.args.least c.args.text.now

pub loop-rows-smaller : goal.loop-rows-smaller
loop-rows-smaller c = row_goes_down c.loop-rows.least c.loop-rows.rest.now c.in-Some.row c.in-Some.next.now (sym (rw c.in-Some.is at c.in_ok-row.ensures))

pub loop-rows-preserved : goal.loop-rows-preserved
loop-rows-preserved c =
    let least : c.from-least.result + 1 ≡ c.in-Some.row.origin + 1 = ap (λ n. n + 1) (c.from-least.ensures ∙ c.origin.ensures) in
    rw (c.in_ok-push.ensures.ok, least) (goes_on (read_behind c.args.front c.args.least c.args.text.now) c.loop-rows.rows c.loop-rows.least c.loop-rows.rest.now c.in-Some.row c.in-Some.next.now (sym (rw c.in-Some.is at c.in_ok-row.ensures)) c.loop-rows.invariant)

pub returns-clause-rows : goal.returns-clause-rows
returns-clause-rows c =
    let whole = read_behind c.args.front c.args.least c.args.text.now in
    ap (λ (read : List TableRow × List ℕ). read.0) (sym (ends whole c.loop-rows.rows c.loop-rows.least c.loop-rows.rest.now (sym (rw c.in_default.is at c.in_ok-row.ensures)) c.loop-rows.invariant))

pub returns-clause-left : goal.returns-clause-left
returns-clause-left c =
    let whole = read_behind c.args.front c.args.least c.args.text.now in
    ap (λ (read : List TableRow × List ℕ). read.1) (sym (ends whole c.loop-rows.rows c.loop-rows.least c.loop-rows.rest.now (sym (rw c.in_default.is at c.in_ok-row.ensures)) c.loop-rows.invariant))
