use Rattle.online_commit.proofs.Growing.{handed-stays}
use Rattle.online_commit.proofs.laws.what_is_handed_out_stays.Goals as goal

pub returns : goal.returns
returns c = handed-stays
