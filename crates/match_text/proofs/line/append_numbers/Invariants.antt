use Rattle.std.proofs.Common.{◌≡◌, ◌++◌, take}
use Rattle.match_text.specs.inside.Parts.{numbers_text}
use Rattle.match_text.proofs.line.append_numbers.Given as goal

abbrev pub invariant-loop-number : goal.invariant-loop-number
invariant-loop-number l = l.into ≡ l.fn.into ++ numbers_text (take l.number-index l.numbers)
