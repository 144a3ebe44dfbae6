use Rattle.match_law.proofs.Runs.{match_is_least}
use Rattle.match_law.proofs.match_is_least.Goals as goal

pub returns : goal.returns
returns c = match_is_least
