use Rattle.std.proofs.Common.{subst}
use Rattle.std.proofs.lemmas.List.{take_all}
use Rattle.grid_index.specs.Extent.{Widens}
use Rattle.grid_index.proofs.Extents.{widens_more, widens_none}
use Rattle.grid_index.proofs.RunBoxes.{origin}
use Rattle.grid_index.proofs.extent.Extent.with_line.Goals as goal

pub loop-point-preserved : goal.loop-point-preserved
loop-point-preserved c =
    let s = c.loop-point in
    widens_more c.args.self s.extent c.with_point-extent.result c.args.line.now s.point-index _ c.loop-point-test.true s.invariant c.with_point-extent.ensures

pub with_point-extent-requires-clause-in_range : goal.with_point-extent-requires-clause-in_range
with_point-extent-requires-clause-in_range c = c.requires.line.in_range c.loop-point.point-index origin c.loop-point-test.true

pub loop-point-init : goal.loop-point-init
loop-point-init c = widens_none c.args.self c.requires.corners

pub with_point-extent-requires-clause-corners : goal.with_point-extent-requires-clause-corners
with_point-extent-requires-clause-corners c = c.loop-point.invariant.corners

pub returns : goal.returns
returns c = subst (Widens c.args.self c.loop-point.extent) (take_all c.loop-point.point-index c.args.line.now c.loop-point-test.false) c.loop-point.invariant
