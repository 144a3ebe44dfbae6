use Rattle.std.proofs.Common.{sym}
use Rattle.potential_certificate.proofs.ProofLists.{proof_goes_down, proofs_go_on}
use Rattle.potential_certificate.proofs.reading.read_proofs.Goals as goal

pub loop-id-smaller : goal.loop-id-smaller
loop-id-smaller c =
    proof_goes_down c.args.whole.now c.loop-id.rest.now c.in-Some.id c.in-Some.lines.now c.in_ok-proof.proof c.in_ok-proof.next.now (sym c.in-Some.ensures) c.in_ok-proof.ensures.ok

pub loop-id-preserved : goal.loop-id-preserved
loop-id-preserved c =
    rw c.in_ok-push.ensures.ok (proofs_go_on c.args.whole.now c.args.text.now c.loop-id.proofs c.loop-id.rest.now c.in-Some.id c.in-Some.lines.now c.in_ok-proof.proof c.in_ok-proof.next.now (sym c.in-Some.ensures) c.in_ok-proof.ensures.ok c.loop-id.invariant)
