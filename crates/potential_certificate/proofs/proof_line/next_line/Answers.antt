use Rattle.potential_certificate.proofs.NextLines.{next_end, next_layer, next_missing, next_piece, no_next}
use Rattle.potential_certificate.proofs.proof_line.next_line.Goals as goal

pub returns-in-Some : goal.returns-in-Some
returns-in-Some c = next_missing c.args.place c.args.text.now c.in-Some.rest.now c.in-Some.ensures

pub returns-in-Some-2 : goal.returns-in-Some-2
returns-in-Some-2 c = next_layer c.args.place c.args.text.now (c.in-Some-2.read.0, c.in-Some-2.read.1.now) c.in_default.ensures (rw c.in-Some-2.is at c.in_ok-read.ensures)

pub returns-in-Some-3 : goal.returns-in-Some-3
returns-in-Some-3 c =
    next_piece c.args.place c.args.text.now c.in-Some-3.piece c.in-Some-3.rest.now c.in_default.ensures (rw c.in_default-2.is at c.in_ok-read.ensures) (rw c.in-Some-3.is at c.in_ok-piece.ensures)

pub returns-in_default-end_line : goal.returns-in_default-end_line
returns-in_default-end_line c =
    no_next c.args.place c.args.text.now c.in_default.ensures (rw c.in_default-2.is at c.in_ok-read.ensures) (rw c.in_default-3.is at c.in_ok-piece.ensures) c.in_default-end_line.ensures

pub returns : goal.returns
returns c =
    next_end c.args.place c.args.text.now c.in-Some-end_line.rest.now c.in_default.ensures (rw c.in_default-2.is at c.in_ok-read.ensures) (rw c.in_default-3.is at c.in_ok-piece.ensures) c.in-Some-end_line.ensures
