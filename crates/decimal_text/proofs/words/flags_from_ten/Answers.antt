use Rattle.decimal_text.proofs.WordBytes.{flags_are}
use Rattle.decimal_text.proofs.words.flags_from_ten.Goals as goal

pub returns : goal.returns
returns c xs eight is = flags_are xs c.args.word eight is
