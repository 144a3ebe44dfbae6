use Rattle.std.proofs.Common.{refl, arith}
use Rattle.std.proofs.lemmas.Result.{on_ok_weaker}
use Rattle.follow_work.proofs.DriveSteps.{fix-few, fix-taken, fix-written}
use Rattle.follow_work.proofs.drives.Drives.take_fix.Goals as goal

pub overflow_add-self-in-Ok : goal.overflow_add-self-in-Ok
overflow_add-self-in-Ok c =
    let some = c.requires.drives in
    let few = fix-few some.on c.args.self.now.sessions _ _ _ _ _ _ _ _ _ _ _ some.drove c.requires.place (c.in-Ok.ensures.streams some.drives some.drove.stands) c.requires.few in
    omega (arith, few)

pub returns-in-Ok : goal.returns-in-Ok
returns-in-Ok c =
    on_ok_weaker c.note.result
    (λ noted on ended drives drove.
    let takes = c.in-Ok.ensures.streams drives drove.stands in
    record {
      drove = fix-taken on c.args.self.now.sessions _ _ _ _ _ _ _ ended drives _ _ _ _ _ drove c.requires.place takes c.in-Ok.ensures.asks noted c.requires.few refl refl refl;
      clock = refl;
      points = refl;
      written = fix-written on c.args.self.now.sessions _ _ _ _ ended drives _ _ _ _ _ drove takes;
    })
    c.note.ensures
