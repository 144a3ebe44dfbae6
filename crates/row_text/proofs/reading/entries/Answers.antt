use Rattle.std.proofs.Common.{sym}
use Rattle.row_text.proofs.Entries.{entry_goes_down, goes_on}
use Rattle.row_text.proofs.reading.entries.Goals as goal

pub loop-entry-smaller : goal.loop-entry-smaller
loop-entry-smaller c = entry_goes_down c.loop-entry.rest.now c.in-Some.entry c.in-Some.next.now (sym c.in-Some.ensures)

pub loop-entry-preserved : goal.loop-entry-preserved
loop-entry-preserved c =
    rw c.in_ok-push.ensures.ok (goes_on c.args.text.now c.loop-entry.entries c.loop-entry.rest.now c.in-Some.entry c.in-Some.next.now (sym c.in-Some.ensures) c.loop-entry.invariant)
