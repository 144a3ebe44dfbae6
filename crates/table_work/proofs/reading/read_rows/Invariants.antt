use Rattle.std.proofs.Common.{length}
use Rattle.table_work.proofs.RowsOfText.{GoesOn}
use Rattle.table_work.proofs.reading.read_rows.Given as goal

-- the rows so far and those of what is left are those of all
abbrev pub invariant-loop-rows : goal.invariant-loop-rows
invariant-loop-rows l = GoesOn l.counts l.text l.rows l.least l.rest

abbrev pub decreases-loop-rows : goal.decreases-loop-rows
decreases-loop-rows l = length l.rest
