use Rattle.std.proofs.Common.{◌≡◌, [], length, sym, ◌∙◌, eq-eqb}
use Rattle.std.proofs.lemmas.Bool.{eqb-true, false≢true}
use Rattle.std.proofs.lemmas.List.{nil_from_length}
use Rattle.match_text.proofs.Steps.{begins, point_goes_on, piece_goes_on, fails, is_whole, fails_past_end}
use Rattle.match_text.proofs.reading.read_lines.Goals as goal

pub loop-pieces-init : goal.loop-pieces-init
loop-pieces-init c = rw (c.new-labels.ensures, c.new-pieces.ensures) (begins c.args.id c.args.text.now)

pub returns-in_default : goal.returns-in_default
returns-in_default c = fails c.args.id c.args.text.now c.loop-pieces.place c.loop-pieces.rest.now c.loop-pieces.number c.loop-pieces.labels c.loop-pieces.pieces (rw c.in_default.is at c.in_ok-line.ensures) c.loop-pieces.invariant

pub loop-pieces-preserved-in-Continue-branch-3 : goal.loop-pieces-preserved-in-Continue-branch-3
loop-pieces-preserved-in-Continue-branch-3 c =
    point_goes_on c.args.id c.args.text.now c.loop-pieces.place c.loop-pieces.rest.now c.loop-pieces.number c.loop-pieces.labels c.loop-pieces.pieces c.in-Some.line c.in-Some.after.now c.in-Point.label c.place_after-place.result c.push.new.self
    (rw c.in-Some.is at c.in_ok-line.ensures) c.in-Point.is c.place_after-place.ensures c.in_ok-push-in-Point.ensures.ok c.loop-pieces.invariant

pub loop-pieces-preserved : goal.loop-pieces-preserved
loop-pieces-preserved c =
    piece_goes_on c.args.id c.args.text.now c.loop-pieces.place c.loop-pieces.rest.now c.loop-pieces.number c.loop-pieces.labels c.loop-pieces.pieces c.in-Some.line c.in-Some.after.now c.in-Piece.piece c.place_after-place.result c.push-in-Piece.new.self
    (rw c.in-Some.is at c.in_ok-line.ensures) c.in-Piece.is c.place_after-place.ensures c.in_ok-push-in-Piece.ensures.ok c.loop-pieces.invariant

pub returns-then-is_empty : goal.returns-then-is_empty
returns-then-is_empty c =
    let none : c.in-Some.after.now ≡ [] = nil_from_length c.in-Some.after.now (eqb-true (length c.in-Some.after.now) 0 (sym c.if-is_empty.ensures)) in
    is_whole c.args.id c.args.text.now c.loop-pieces.place c.loop-pieces.rest.now c.loop-pieces.number c.loop-pieces.labels c.loop-pieces.pieces c.in-Some.line c.in-Some.after.now (rw c.in-Some.is at c.in_ok-line.ensures) c.in-End.is none c.loop-pieces.invariant

pub returns-else-is_empty : goal.returns-else-is_empty
returns-else-is_empty c =
    fails_past_end c.args.id c.args.text.now c.loop-pieces.place c.loop-pieces.rest.now c.loop-pieces.number c.loop-pieces.labels c.loop-pieces.pieces c.in-Some.line c.in-Some.after.now (rw c.in-Some.is at c.in_ok-line.ensures) c.in-End.is (λ none. false≢true (c.if-is_empty.ensures ∙ eq-eqb (length c.in-Some.after.now) 0 none)) c.loop-pieces.invariant
