use Rattle.online_commit.proofs.Bits.{set-bit}
use Rattle.online_commit.proofs.masks.with_rank.Goals as goal

pub returns : goal.returns
returns c = λ r. set-bit c.args.mask c.args.rank r c.requires
