use Rattle.decimal_text.proofs.EightDigits.{eight_is}
use Rattle.decimal_text.proofs.words.value_of_eight.Goals as goal

pub returns : goal.returns
returns c ds eight e = eight_is ds c.args.word eight e
