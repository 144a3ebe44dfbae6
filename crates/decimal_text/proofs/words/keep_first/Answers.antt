use Rattle.decimal_text.proofs.EightDigits.{bytes_up}
use Rattle.decimal_text.proofs.words.keep_first.Goals as goal

pub returns : goal.returns
returns c = bytes_up c.args.word c.args.count c.requires
