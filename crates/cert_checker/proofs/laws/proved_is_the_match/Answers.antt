use Rattle.cert_checker.proofs.TheMatch.{proved_is_the_match}
use Rattle.cert_checker.proofs.laws.proved_is_the_match.Goals as goal

pub returns : goal.returns
returns c = proved_is_the_match
