use Rattle.online_commit.proofs.MaskSteps.{live-begin, live-done, live-step}
use Rattle.online_commit.proofs.masks.live_ranks.Goals as goal

pub loop-rank-init : goal.loop-rank-init
loop-rank-init c = live-begin c.args.cells.now

pub loop-rank-preserved : goal.loop-rank-preserved
loop-rank-preserved c = live-step c.args.cells.now c.loop-rank.mask c.with_live-mask.result c.loop-rank.rank c.loop-rank.invariant c.with_live-mask.ensures

pub returns : goal.returns
returns c = live-done c.args.cells.now c.loop-rank.mask c.loop-rank.rank c.loop-rank-test.false c.loop-rank.invariant
