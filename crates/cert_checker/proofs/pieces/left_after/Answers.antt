use Rattle.std.proofs.Common.{ap, option_copied, sym, ◌∙◌}
use Rattle.cert_checker.proofs.PiecesInHand.{empty_left, next_left, same_left}
use Rattle.cert_checker.proofs.pieces.left_after.Goals as goal

pub returns-in-Some : goal.returns-in-Some
returns-in-Some c = λ pieces h. next_left pieces c.args.left.now c.args.i c.in-Some.piece.now h c.in-Some.ensures.value c.if-piece-i.true

pub returns-in_default : goal.returns-in_default
returns-in_default c = λ pieces h. same_left pieces c.args.left.now c.args.i c.in-Some.piece.now h c.in-Some.ensures.value c.if-piece-i.false

pub returns-in_default-2 : goal.returns-in_default-2
returns-in_default-2 c = λ pieces h. empty_left pieces c.args.left.now c.args.i h (ap option_copied (sym c.in_default.is) ∙ c.first.ensures.value)
