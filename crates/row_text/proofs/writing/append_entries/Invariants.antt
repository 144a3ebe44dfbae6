use Rattle.std.proofs.Common.{◌≡◌, ◌++◌, take}
use Rattle.row_text.specs.RowLine.{entries_text}
use Rattle.row_text.proofs.writing.append_entries.Given as goal

abbrev pub invariant-loop-x : goal.invariant-loop-x
invariant-loop-x l = l.into ≡ l.fn.into ++ entries_text (take l.x-index l.entries)
