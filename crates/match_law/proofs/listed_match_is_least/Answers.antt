use Rattle.match_law.proofs.Runs.{listed_match_is_least}
use Rattle.match_law.proofs.listed_match_is_least.Goals as goal

pub returns : goal.returns
returns c = listed_match_is_least c.match_words_are_read.ensures c.networks_are_read.ensures c.traces_are_read.ensures
