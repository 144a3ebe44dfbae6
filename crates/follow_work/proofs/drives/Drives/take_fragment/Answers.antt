use Rattle.std.proofs.Common.{sym, subst}
use Rattle.follow_work.specs.inside.DrivesDone.{TakesAll}
use Rattle.follow_work.proofs.DriveRows.{all-points, first_points, next-point, point-few, rows-then, taken-any}
use Rattle.follow_work.proofs.drives.Drives.take_fragment.Goals as goal

pub take_row-requires-clause-drives : goal.take_row-requires-clause-drives
take_row-requires-clause-drives c = (taken-any c.args.idle _ _ _ _ _ c.requires.drives c.loop-fix.invariant).any

pub take_row-requires-clause-few : goal.take_row-requires-clause-few
take_row-requires-clause-few c =
    point-few c.args.trace.now c.as_slice-fix-items.result.now c.loop-fix.fix-index _ _ c.as_slice-fix-items.ensures c.loop-fix-test.true
    (taken-any c.args.idle _ _ _ _ _ c.requires.drives c.loop-fix.invariant).count c.requires.few

pub loop-fix-preserved : goal.loop-fix-preserved
loop-fix-preserved c =
    subst (λ ps. TakesAll c.args.idle ps c.args.self.now c.take_row.new.self c.args.into.now c.take_row.new.into)
    (sym (next-point c.args.trace.now c.as_slice-fix-items.result.now c.loop-fix.fix-index _ c.as_slice-fix-items.ensures c.loop-fix-test.true))
    (rows-then c.args.idle (first_points c.args.trace.now c.loop-fix.fix-index) _ c.args.self.now c.loop-fix.self c.take_row.new.self _ _ _ c.loop-fix.invariant c.in_ok-take_row.ensures)

pub returns : goal.returns
returns c =
    subst (λ ps. TakesAll c.args.idle ps c.args.self.now c.loop-fix.self c.args.into.now c.loop-fix.into)
    (all-points c.args.trace.now c.as_slice-fix-items.result.now c.loop-fix.fix-index c.as_slice-fix-items.ensures c.loop-fix-test.false) c.loop-fix.invariant
