use Rattle.std.proofs.Common.{◌∙◌, refl}
use Rattle.follow_work.proofs.DriveEnds.{all-ended, next-ended, next-open, none-ended}
use Rattle.follow_work.proofs.drives.Drives.end_idle.Goals as goal

pub loop-id-init : goal.loop-id-init
loop-id-init c = none-ended c.args.idle _ c.args.self.now c.args.into.now (c.as_slice-id-items.ensures ∙ c.in_ok-ids.ensures)

pub end-requires : goal.end-requires
end-requires c = next-open c.args.idle _ c.loop-id.id-index _ _ c.args.self.now _ _ _ c.loop-id-test.true refl c.requires c.loop-id.invariant

pub loop-id-preserved : goal.loop-id-preserved
loop-id-preserved c =
    next-ended c.args.idle _ c.loop-id.id-index _ _ c.args.self.now c.loop-id.self _ _ _ _ c.loop-id-test.true refl c.loop-id.invariant c.in_ok-end.ensures

pub returns : goal.returns
returns c = all-ended c.args.idle _ c.loop-id.id-index c.args.self.now _ _ _ c.loop-id-test.false c.loop-id.invariant
