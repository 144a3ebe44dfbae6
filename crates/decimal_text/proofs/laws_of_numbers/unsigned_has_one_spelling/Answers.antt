use Rattle.decimal_text.proofs.Laws.{unsigned_has_one_spelling}
use Rattle.decimal_text.proofs.laws_of_numbers.unsigned_has_one_spelling.Goals as goal

pub returns : goal.returns
returns c = unsigned_has_one_spelling
