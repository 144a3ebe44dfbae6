use Rattle.std.proofs.Common.{◌≡◌, ◌-◌, length, ap, arith}
use Rattle.std.proofs.lemmas.Grind.{common_steps}
use Rattle.online_commit.proofs.Writing.{written-begin, written-done, written-more}
use Rattle.online_commit.proofs.feeding.write_masks.Goals as goal

pub loop-back-init : goal.loop-back-init
loop-back-init c = written-begin c.args.masks.now c.args.changed.now

pub loop-back-preserved : goal.loop-back-preserved
loop-back-preserved c =
    written-more c.args.masks.now c.args.changed.now c.loop-back.masks c.loop-back.back (length c.loop-back.masks - 1 - c.loop-back.back) c.loop-back.invariant c.loop-back-test.true c.requires
    (ap (λ k. k - 1 - c.loop-back.back) c.loop-back.auto.masks) (grind (arith, common_steps))

pub returns : goal.returns
returns c =
    let e : c.loop-back.back ≡ length c.args.changed.now = omega arith in
    written-done c.args.masks.now c.args.changed.now c.loop-back.masks c.loop-back.back e c.loop-back.invariant
