use Rattle.tickets.proofs.Moves.{drawn_once}
use Rattle.tickets.proofs.laws.each_number_is_drawn_once.Goals as goal

pub returns : goal.returns
returns c = drawn_once
