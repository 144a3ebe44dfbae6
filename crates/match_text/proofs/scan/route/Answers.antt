use Rattle.std.proofs.Common.{sym}
use Rattle.match_text.proofs.Routes.{goes_on, goes_down, fails, ends}
use Rattle.match_text.proofs.scan.route.Goals as goal

pub loop-edge-smaller : goal.loop-edge-smaller
loop-edge-smaller c = goes_down c.loop-edge.rest.now c.in-Some.edge c.in-Some.next.now (sym c.in-Some.ensures)

pub loop-edge-preserved : goal.loop-edge-preserved
loop-edge-preserved c = λ read reads. rw c.in_ok-push.ensures.ok (goes_on c.args.text.now c.loop-edge.route c.loop-edge.rest.now c.in-Some.edge c.in-Some.next.now (sym c.in-Some.ensures) c.loop-edge.invariant read reads)

pub returns-in_default-after : goal.returns-in_default-after
returns-in_default-after c = fails c.args.text.now c.loop-edge.route c.loop-edge.rest.now (sym c.in_default.ensures) (sym c.in_default-after.ensures) c.loop-edge.invariant

pub returns : goal.returns
returns c = ends c.args.text.now c.loop-edge.route c.loop-edge.rest.now c.in-Some-after.rest.now (sym c.in-Some-after.ensures) c.loop-edge.invariant
