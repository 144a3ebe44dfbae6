use Rattle.std.proofs.Common.{length}
use Rattle.potential_certificate.proofs.ProofLists.{ProofsGoOn}
use Rattle.potential_certificate.proofs.reading.read_proofs.Given as goal

-- the proofs so far and those of what is left are those of all
abbrev pub invariant-loop-id : goal.invariant-loop-id
invariant-loop-id l = ProofsGoOn l.whole l.text l.proofs l.rest

abbrev pub decreases-loop-id : goal.decreases-loop-id
decreases-loop-id l = length l.rest
