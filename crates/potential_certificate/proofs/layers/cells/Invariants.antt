use Rattle.std.proofs.Common.{length}
use Rattle.potential_certificate.proofs.WordsOfLine.{GoesOn}
use Rattle.potential_certificate.specs.Reading.{cell_at_front}
use Rattle.potential_certificate.proofs.layers.cells.Given as goal

-- the cells so far and those of what is left are those of all
abbrev pub invariant-loop-cell : goal.invariant-loop-cell
invariant-loop-cell l = GoesOn cell_at_front l.text l.cells l.rest

abbrev pub decreases-loop-cell : goal.decreases-loop-cell
decreases-loop-cell l = length l.rest
