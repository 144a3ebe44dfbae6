use Rattle.online_commit.proofs.MaskSteps.{behind-begin, behind-done, behind-step}
use Rattle.online_commit.proofs.masks.ranks_behind.Goals as goal

pub loop-rank-init : goal.loop-rank-init
loop-rank-init c = behind-begin c.args.cells.now c.args.mask

pub loop-rank-preserved : goal.loop-rank-preserved
loop-rank-preserved c = behind-step c.args.cells.now c.args.mask c.loop-rank.behind c.with_pointer-behind.result c.loop-rank.rank c.loop-rank.invariant c.with_pointer-behind.ensures

pub returns : goal.returns
returns c = behind-done c.args.cells.now c.args.mask c.loop-rank.behind c.loop-rank.rank c.loop-rank-test.false c.loop-rank.invariant
