use Rattle.arrivals.proofs.Reversed.{none-kept}
use Rattle.arrivals.proofs.Arrivals.new.Goals as goal

pub invariant_of-result : goal.invariant_of-result
invariant_of-result g c = none-kept g.row.V.Denot
