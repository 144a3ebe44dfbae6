use Rattle.decimal_text.proofs.Laws.{signed_has_one_spelling}
use Rattle.decimal_text.proofs.laws_of_numbers.signed_has_one_spelling.Goals as goal

pub returns : goal.returns
returns c = signed_has_one_spelling
