use Rattle.std.proofs.Common.{ap, option_copied, sym, ◌∙◌}
use Rattle.cert_checker.proofs.PiecesInHand.{ending_is, no_ending, none_ending}
use Rattle.cert_checker.proofs.pieces.ending.Goals as goal
use Rattle.cert_checker.proofs.pieces.ending.Goals.{in_default-via-in-Some+else-piece-i, in_default-via-in_default}

pub returns-in-Some : goal.returns-in-Some
returns-in-Some c = λ pieces h. ending_is pieces c.args.left.now c.args.i c.in-Some.piece.now h c.in-Some.ensures.value c.if-piece-i.true

pub returns-in_default : goal.returns-in_default
returns-in_default c = λ pieces h. elim c.in_default.branch [ in_default-via-in-Some+else-piece-i w ↦ no_ending pieces c.args.left.now c.args.i w.in-Some.piece.now h w.in-Some.ensures.value w.if-piece-i.false | in_default-via-in_default w ↦ none_ending pieces c.args.left.now c.args.i h (ap option_copied (sym w.in_default.is) ∙ c.first.ensures.value) ]
