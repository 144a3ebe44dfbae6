use Rattle.std.proofs.Common.{◌≡◌, ◌++◌, ◌∙◌, OnOk, subst}
use Rattle.follow_work.proofs.FollowJobs.{total_is}
use Rattle.follow_work.proofs.job.FollowJobJob.finish.Goals as goal

pub returns : goal.returns
returns c taken has =
    subst (λ t. OnOk c.append_line.result (c.append_line.new.into ≡ c.args.into.now ++ t)) (total_is c.args.self.now.matcher taken c.args.self.now.rows c.args.self.now.tally c.from.result has c.invariants.ensures (c.from.ensures ∙ c.count.ensures)) c.append_line.ensures
