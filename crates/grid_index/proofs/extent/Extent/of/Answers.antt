use Rattle.grid_index.proofs.Extents.{extends_more}
use Rattle.grid_index.proofs.extent.Extent.of.Goals as goal

pub loop-number-preserved : goal.loop-number-preserved
loop-number-preserved c =
    let s = c.loop-number in
    extends_more c.args.net.now s.number s.extent c.with_line-extent.result c.line.result.now c.line.ensures s.invariant c.with_line-extent.ensures
