use Rattle.std.proofs.Common.{◌≡◌, drop}
use Rattle.cert_checker.specs.Pieces.{rise_from}
use Rattle.cert_checker.proofs.pieces.pieces_rise.Given as goal

abbrev pub invariant-loop-piece : goal.invariant-loop-piece
invariant-loop-piece l = rise_from l.least (drop l.piece-index l.pieces) ≡ rise_from 0 l.pieces
