use Rattle.follow_work.proofs.FollowedDrives.{streams_follow_each_drive}
use Rattle.follow_work.proofs.laws.streams_follow_each_drive.Goals as goal

pub returns : goal.returns
returns c = streams_follow_each_drive
