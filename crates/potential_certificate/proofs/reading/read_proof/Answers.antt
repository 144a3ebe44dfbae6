use Rattle.std.proofs.Common.{rules, sym}
use Rattle.potential_certificate.specs.declared.proof_line.ProofLine.TheVariants.{Missing, Layer, Piece}
use Rattle.potential_certificate.proofs.ProofLines.{line_takes}
use Rattle.potential_certificate.proofs.NextLines.{line_goes_down}
use Rattle.potential_certificate.proofs.ProofsRead.{reads_on}
use Rattle.potential_certificate.proofs.reading.read_proof.Goals as goal

pub place_after-place-requires : goal.place_after-place-requires
place_after-place-requires c =
    (line_takes c.loop-proof.place c.loop-proof.rest.now c.in-Some.line c.in-Some.next.now (sym (rw c.in-Some.is at c.in_ok-line.ensures))).allowed

pub loop-proof-smaller-in-Continue-branch-3 : goal.loop-proof-smaller-in-Continue-branch-3
loop-proof-smaller-in-Continue-branch-3 c =
    line_goes_down c.loop-proof.place c.loop-proof.rest.now c.in-Some.line c.in-Some.next.now (sym (rw c.in-Some.is at c.in_ok-line.ensures))

pub loop-proof-smaller-in-Continue-branch-4 : goal.loop-proof-smaller-in-Continue-branch-4
loop-proof-smaller-in-Continue-branch-4 c =
    line_goes_down c.loop-proof.place c.loop-proof.rest.now c.in-Some.line c.in-Some.next.now (sym (rw c.in-Some.is at c.in_ok-line.ensures))

pub loop-proof-smaller : goal.loop-proof-smaller
loop-proof-smaller c =
    line_goes_down c.loop-proof.place c.loop-proof.rest.now c.in-Some.line c.in-Some.next.now (sym (rw c.in-Some.is at c.in_ok-line.ensures))

pub loop-proof-preserved-in-Continue-branch-3 : goal.loop-proof-preserved-in-Continue-branch-3
loop-proof-preserved-in-Continue-branch-3 c =
    reads_on c.args.whole.now c.args.id c.args.text.now c.loop-proof.proof c.loop-proof.place c.loop-proof.rest.now c.in-Some.line Missing c.in-Some.next.now
    c.add_point.new.self c.place_after-place.result (rw c.in-Some.is at c.in_ok-line.ensures) c.in-Missing.is (λ h. h) (search rules) c.place_after-place.ensures c.loop-proof.invariant

pub loop-proof-preserved-in-Continue-branch-4 : goal.loop-proof-preserved-in-Continue-branch-4
loop-proof-preserved-in-Continue-branch-4 c =
    reads_on c.args.whole.now c.args.id c.args.text.now c.loop-proof.proof c.loop-proof.place c.loop-proof.rest.now c.in-Some.line (Layer c.in-Layer.rank c.in-Layer.cells) c.in-Some.next.now
    c.add_point-in-Layer.new.self c.place_after-place.result (rw c.in-Some.is at c.in_ok-line.ensures) c.in-Layer.is (λ h. h) c.in_ok-add_point-in-Layer.ensures c.place_after-place.ensures c.loop-proof.invariant

pub loop-proof-preserved : goal.loop-proof-preserved
loop-proof-preserved c =
    reads_on c.args.whole.now c.args.id c.args.text.now c.loop-proof.proof c.loop-proof.place c.loop-proof.rest.now c.in-Some.line (Piece c.in-Piece.piece) c.in-Some.next.now
    (record { id = c.loop-proof.proof.id; ranks = c.loop-proof.proof.ranks; tables = c.loop-proof.proof.tables; pieces = c.push.new.self }) c.place_after-place.result (rw c.in-Some.is at c.in_ok-line.ensures)
    c.in-Piece.is (λ h. h) (λ i. record { id = c.loop-proof.proof.id; ranks = c.loop-proof.proof.ranks; tables = c.loop-proof.proof.tables; pieces = c.in_ok-push-in-Piece.ensures.ok i }) c.place_after-place.ensures c.loop-proof.invariant
