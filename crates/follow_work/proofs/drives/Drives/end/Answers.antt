use Rattle.std.proofs.Common.{refl, arith}
use Rattle.follow_work.proofs.DriveSteps.{counts-few, drive-ended, end-few, end-written}
use Rattle.follow_work.proofs.drives.Drives.end.Goals as goal

pub overflow_add-self : goal.overflow_add-self
overflow_add-self c =
    let few = (counts-few _ _ _ _ _ _ _ c.requires.drove).traces in
    omega (arith, few)

pub overflow_add-self-in-Ok : goal.overflow_add-self-in-Ok
overflow_add-self-in-Ok c =
    let some = c.requires in
    let few = end-few some.on c.args.self.now.sessions _ _ _ _ _ _ _ _ _ _ _ some.drove (c.in-Ok.ensures.ends some.drives some.drove.stands) c.in-Ok.ensures.asks in
    omega (arith, few)

pub returns-in-Ok : goal.returns-in-Ok
returns-in-Ok c on ended drives drove =
    let ends = c.in-Ok.ensures.ends drives drove.stands in
    record {
      drove = drive-ended on c.args.self.now.sessions _ _ _ _ _ _ _ ended drives _ _ _ _ drove ends c.in-Ok.ensures.asks c.remove.ensures refl refl refl;
      stays = record { clock = refl; points = refl };
      written = end-written on c.args.self.now.sessions _ _ _ _ ended drives _ _ _ _ drove ends;
    }
