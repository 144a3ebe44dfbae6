use Rattle.std.proofs.Common.{length}
use Rattle.potential_certificate.proofs.ProofsRead.{GoesOn}
use Rattle.potential_certificate.proofs.reading.read_proof.Given as goal

abbrev pub invariant-loop-proof : goal.invariant-loop-proof
invariant-loop-proof l = GoesOn l.whole l.id l.text l.proof l.place l.rest

abbrev pub decreases-loop-proof : goal.decreases-loop-proof
decreases-loop-proof l = length l.rest
