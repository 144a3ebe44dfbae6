use Rattle.std.proofs.Common.{sym, subst, take}
use Rattle.std.proofs.lemmas.List.{take_all}
use Rattle.trace_sessions.specs.StreamText.{points_in}
use Rattle.follow_work.specs.inside.DrivesDone.{TakesAll}
use Rattle.follow_work.proofs.DriveRows.{fragment-few, rows-then, taken-any}
use Rattle.follow_work.proofs.StreamJobs.{next-fragment}
use Rattle.follow_work.proofs.drives.Drives.take_fragments.Goals as goal

pub take_fragment-requires-clause-drives : goal.take_fragment-requires-clause-drives
take_fragment-requires-clause-drives c = (taken-any c.args.idle _ _ _ _ _ c.requires.drives c.loop-trace.invariant).any

pub take_fragment-requires-clause-few : goal.take_fragment-requires-clause-few
take_fragment-requires-clause-few c =
    fragment-few c.args.traces.now c.loop-trace.trace-index c.trace-item.result _ _ c.loop-trace-test.true c.trace-item.is
    (taken-any c.args.idle _ _ _ _ _ c.requires.drives c.loop-trace.invariant).count c.requires.few

pub loop-trace-preserved : goal.loop-trace-preserved
loop-trace-preserved c =
    subst (λ ps. TakesAll c.args.idle ps c.args.self.now c.take_fragment.new.self c.args.into.now c.take_fragment.new.into)
    (sym (next-fragment c.args.traces.now c.loop-trace.trace-index c.trace-item.result c.loop-trace-test.true c.trace-item.is))
    (rows-then c.args.idle (points_in (take c.loop-trace.trace-index c.args.traces.now)) _ c.args.self.now c.loop-trace.self c.take_fragment.new.self _ _ _ c.loop-trace.invariant c.in_ok-take_fragment.ensures)

pub returns : goal.returns
returns c =
    subst (λ ts. TakesAll c.args.idle (points_in ts) c.args.self.now c.loop-trace.self c.args.into.now c.loop-trace.into)
    (take_all c.loop-trace.trace-index c.args.traces.now c.loop-trace-test.false) c.loop-trace.invariant
