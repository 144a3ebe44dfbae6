use Rattle.cert_checker.proofs.WholeVerdict.{proved_are_the_matches}
use Rattle.cert_checker.proofs.laws.proved_are_the_matches.Goals as goal

pub returns : goal.returns
returns c = proved_are_the_matches
