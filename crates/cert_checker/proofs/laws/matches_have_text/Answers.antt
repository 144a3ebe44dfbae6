use Rattle.cert_checker.proofs.MatchTexts.{matches_have_text}
use Rattle.cert_checker.proofs.laws.matches_have_text.Goals as goal

pub returns : goal.returns
returns c = matches_have_text
