use Rattle.cert_checker.proofs.WholeVerdict.{matches_are_proved}
use Rattle.cert_checker.proofs.laws.matches_are_proved.Goals as goal

pub returns : goal.returns
returns c = matches_are_proved
