use Rattle.std.proofs.Common.{length}
use Rattle.row_text.proofs.Entries.{GoesOn}
use Rattle.row_text.proofs.reading.entries.Given as goal

-- the entries so far and those of what is left are those of all
abbrev pub invariant-loop-entry : goal.invariant-loop-entry
invariant-loop-entry l = GoesOn l.text l.entries l.rest

abbrev pub decreases-loop-entry : goal.decreases-loop-entry
decreases-loop-entry l = length l.rest
