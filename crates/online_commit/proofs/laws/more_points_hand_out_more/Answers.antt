use Rattle.online_commit.proofs.Growing.{handed-grows}
use Rattle.online_commit.proofs.laws.more_points_hand_out_more.Goals as goal

pub returns : goal.returns
returns c = handed-grows
