use Rattle.std.proofs.Common.{◌∙◌, length, drop}
use Rattle.trellis.proofs.OfferedCells.{offer_taken, passed_over}
use Rattle.cert_checker.proofs.RightRows.{no_row}
use Rattle.cert_checker.proofs.RowsAtPlaces.{row_for}
use Rattle.cert_checker.proofs.step_ways.cells_by_rows.Goals as goal

pub loop-rank-preserved-in_default-origin : goal.loop-rank-preserved-in_default-origin
loop-rank-preserved-in_default-origin c =
    let inv = c.loop-rank.invariant in
    record {
      offered = passed_over c.args.step.now c.loop-rank.rank c.loop-rank.cells c.in_default-origin.ensures.dead inv.offered;
      pairs = inv.pairs;
    }

pub offer_by_row-requires-clause-row : goal.offer_by_row-requires-clause-row
offer_by_row-requires-clause-row c =
    row_for c.args.step.now c.loop-rank.rank c.node.result.0 c.in_ok-place.place c.in-Some.from c.args.rows.now c.at.result.now c.invariants.ensures c.requires.rows
    c.in-Some.ensures.live c.node.ensures.node c.in_ok-place.ensures.at (c.at.ensures no_row)

pub loop-rank-preserved : goal.loop-rank-preserved
loop-rank-preserved c =
    let inv = c.loop-rank.invariant in
    let cells = c.loop-rank.cells in
    let new = c.offer_by_row.new.cells in
    record {
      offered = offer_taken c.args.step.now c.loop-rank.rank c.in-Some.from cells new (drop (length new) cells) c.in-Some.ensures.live inv.offered c.offer_by_row.ensures.cells;
      pairs = c.offer_by_row.ensures.same ∙ inv.pairs;
    }
