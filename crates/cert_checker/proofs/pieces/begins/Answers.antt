use Rattle.cert_checker.proofs.PiecesInHand.{begins_by_first, begins_by_none}
use Rattle.cert_checker.proofs.pieces.begins.Goals as goal

pub returns-in-Some : goal.returns-in-Some
returns-in-Some c = λ pieces h. begins_by_first pieces c.args.left.now c.args.i c.in-Some.piece.now h c.in-Some.ensures.value

pub returns-in-None : goal.returns-in-None
returns-in-None c = λ pieces h. begins_by_none pieces c.args.left.now c.args.i h c.in-None.ensures.value
