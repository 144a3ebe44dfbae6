use Rattle.std.proofs.Common.{sym}
use Rattle.potential_certificate.proofs.CellWords.{cell_goes_down}
use Rattle.potential_certificate.proofs.WordsOfLine.{goes_on}
use Rattle.potential_certificate.specs.Reading.{cell_at_front}
use Rattle.potential_certificate.proofs.layers.cells.Goals as goal

pub loop-cell-smaller : goal.loop-cell-smaller
loop-cell-smaller c = cell_goes_down c.loop-cell.rest.now c.in-Some.cell c.in-Some.next.now (sym c.in-Some.ensures)

pub loop-cell-preserved : goal.loop-cell-preserved
loop-cell-preserved c =
    rw c.in_ok-push.ensures.ok (goes_on cell_at_front c.args.text.now c.loop-cell.cells c.loop-cell.rest.now c.in-Some.cell c.in-Some.next.now (sym c.in-Some.ensures)
    (cell_goes_down c.loop-cell.rest.now c.in-Some.cell c.in-Some.next.now (sym c.in-Some.ensures)) c.loop-cell.invariant)
