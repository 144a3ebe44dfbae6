use Rattle.std.proofs.Common.{◌≡◌, ◌∙◌, OnOk, arith, subst}
use Rattle.follow_work.proofs.DriveJobs.{ending-is, few-in-all}
use Rattle.follow_work.proofs.drives.Drives.finish.Goals as goal

pub overflow_add-tally : goal.overflow_add-tally
overflow_add-tally c =
    let some = c.requires in
    let few = few-in-all some.on c.args.self.now.sessions _ _ _ _ _ _ _ _ c.in_ok-pieces.pieces some.drove (c.in_ok-pieces.ensures.ends some.drives some.drove.stands) (c.count-open.ensures some.drives some.drove.stands) in
    omega (arith, few.0)

pub overflow_add-tally-2 : goal.overflow_add-tally-2
overflow_add-tally-2 c =
    let some = c.requires in
    let few = few-in-all some.on c.args.self.now.sessions _ _ _ _ _ _ _ _ c.in_ok-pieces.pieces some.drove (c.in_ok-pieces.ensures.ends some.drives some.drove.stands) (c.count-open.ensures some.drives some.drove.stands) in
    omega (arith, few.1)

pub returns : goal.returns
returns c on ended drives drove =
    subst (λ t. OnOk c.append_line.result (c.append_line.new.into ≡ t))
    (ending-is on c.args.self.now.sessions _ _ c.close_all.new.rows _ ended drives c.count-open.result c.in_ok-pieces.pieces c.from.result c.args.into.now c.close_all.new.into
    drove (c.in_ok-pieces.ensures.ends drives drove.stands) (c.close_all.ensures.asks drives drove.stands) c.invariants.ensures (c.from.ensures ∙ c.count.ensures) (c.count-open.ensures drives drove.stands)) c.append_line.ensures
