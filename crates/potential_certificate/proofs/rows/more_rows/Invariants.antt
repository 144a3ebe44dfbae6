use Rattle.std.proofs.Common.{length}
use Rattle.potential_certificate.proofs.RowsRead.{GoesOn, read_behind}
use Rattle.potential_certificate.proofs.rows.more_rows.Given as goal

-- the rows so far and those of what is left are those of all
abbrev pub invariant-loop-rows : goal.invariant-loop-rows
invariant-loop-rows l = GoesOn (read_behind l.fn.front l.fn.least l.text) l.rows l.least l.rest

abbrev pub decreases-loop-rows : goal.decreases-loop-rows
decreases-loop-rows l = length l.rest
