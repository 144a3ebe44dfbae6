use Rattle.follow_work.proofs.FollowedIds.{streams_follow_each_id}
use Rattle.follow_work.proofs.laws.streams_follow_each_id.Goals as goal

pub returns : goal.returns
returns c = streams_follow_each_id
