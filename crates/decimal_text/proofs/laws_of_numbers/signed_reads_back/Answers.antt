use Rattle.decimal_text.proofs.Laws.{signed_reads_back}
use Rattle.decimal_text.proofs.laws_of_numbers.signed_reads_back.Goals as goal

pub returns : goal.returns
returns c = signed_reads_back
