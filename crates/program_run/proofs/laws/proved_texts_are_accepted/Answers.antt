use Rattle.program_run.proofs.ProvedTexts.{proved_texts_are_accepted}
use Rattle.program_run.proofs.laws.proved_texts_are_accepted.Goals as goal

pub returns : goal.returns
returns c = proved_texts_are_accepted
