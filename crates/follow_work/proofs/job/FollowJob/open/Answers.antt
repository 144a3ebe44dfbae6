use Rattle.std.proofs.Common.{ap, refl}
use Rattle.follow_work.specs.Follow.{follow_job}
use Rattle.follow_work.proofs.FollowJobs.{begun}
use Rattle.follow_work.proofs.job.FollowJob.open.Goals as goal

pub returns-clause-begun : goal.returns-clause-begun
returns-clause-begun c = begun c.in_ok-matcher.matcher c.in_ok-rows.rows _ c.in_ok-rows.ensures refl refl refl

pub returns-clause-text : goal.returns-clause-text
returns-clause-text c = ap follow_job c.in_ok-matcher.ensures
