use Rattle.match_law.proofs.Matches.{matches_are_least}
use Rattle.match_law.proofs.matches_are_least.Goals as goal

pub returns : goal.returns
returns c = matches_are_least
