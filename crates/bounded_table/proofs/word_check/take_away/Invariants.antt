use Rattle.std.proofs.Common.{◌≡◌, ℕ, None, drop}
use Rattle.bounded_table.specs.LabelWords.{no_label, word_at}
use Rattle.bounded_table.specs.Table.{entry_in}
use Rattle.bounded_table.proofs.word_check.take_away.Given as goal

abbrev pub invariant-loop-x : goal.invariant-loop-x
invariant-loop-x l = (v : ℕ) → entry_in (drop l.x-index l.entries) v ≡ None → word_at l.bound l.words v ≡ no_label l.bound
