use Rattle.trace_match.proofs.Lawful.{match_lawful}
use Rattle.trace_match.proofs.laws.matches_are_lawful.Goals as goal

pub returns : goal.returns
returns c = match_lawful
