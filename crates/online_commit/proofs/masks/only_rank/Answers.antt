use Rattle.online_commit.proofs.Bits.{only-told, not-told}
use Rattle.online_commit.proofs.masks.only_rank.Goals as goal

pub returns-then-mask-rank : goal.returns-then-mask-rank
returns-then-mask-rank c = only-told c.args.mask c.if-mask-eq0.false c.ranges.mask.fits c.if-mask-rank.true

pub returns-else-mask-rank : goal.returns-else-mask-rank
returns-else-mask-rank c = not-told c.args.mask c.if-mask-eq0.false c.ranges.mask.fits c.if-mask-rank.false
