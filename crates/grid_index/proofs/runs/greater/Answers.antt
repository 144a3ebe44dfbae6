use Rattle.grid_index.proofs.Coordinates.{small_back}
use Rattle.grid_index.proofs.runs.greater.Goals as goal

pub returns-then-a-b-clause-small : goal.returns-then-a-b-clause-small
returns-then-a-b-clause-small c = small_back c.args.b c.requires.b_in

pub returns-else-a-b-clause-small : goal.returns-else-a-b-clause-small
returns-else-a-b-clause-small c = small_back c.args.a c.requires.a_in
