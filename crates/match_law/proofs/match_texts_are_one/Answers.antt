use Rattle.match_law.proofs.Unique.{match_texts_are_one}
use Rattle.match_law.proofs.match_texts_are_one.Goals as goal

pub returns : goal.returns
returns c = match_texts_are_one
