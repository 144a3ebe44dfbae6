use Rattle.decimal_text.proofs.Laws.{unsigned_reads_back}
use Rattle.decimal_text.proofs.laws_of_numbers.unsigned_reads_back.Goals as goal

pub returns : goal.returns
returns c = unsigned_reads_back
