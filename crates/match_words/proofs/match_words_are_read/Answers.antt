use Rattle.match_words.proofs.MatchWords.{match_words_are_read}
use Rattle.match_words.proofs.match_words_are_read.Goals as goal

pub returns : goal.returns
returns c = match_words_are_read
