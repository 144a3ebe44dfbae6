use Rattle.match_pool.specs.inside.Partitions.{AreSpotsOf}
use Rattle.match_pool.proofs.partitions.spots_of.Given as goal

abbrev pub invariant-loop-number : goal.invariant-loop-number
invariant-loop-number l = AreSpotsOf l.number l.spots.items
