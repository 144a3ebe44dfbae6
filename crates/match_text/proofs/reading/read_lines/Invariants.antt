use Rattle.std.proofs.Common.{length}
use Rattle.match_text.proofs.Steps.{SoFar}
use Rattle.match_text.proofs.reading.read_lines.Given as goal

abbrev pub invariant-loop-pieces : goal.invariant-loop-pieces
invariant-loop-pieces l = SoFar l.id l.text l.place l.rest l.number l.labels l.pieces

abbrev pub decreases-loop-pieces : goal.decreases-loop-pieces
decreases-loop-pieces l = length l.rest
