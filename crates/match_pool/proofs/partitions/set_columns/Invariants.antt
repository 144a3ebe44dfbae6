use Rattle.std.proofs.Common.{◌≡◌, ℕ, length}
use Rattle.match_pool.specs.inside.Partitions.{AreSpotsOf}
use Rattle.match_pool.proofs.partitions.set_columns.Given as goal

abbrev pub invariant-loop-rank : goal.invariant-loop-rank
invariant-loop-rank l = record {
  long : length l.spots.items ≡ length l.initial.spots.items;
  spots : (count : ℕ) → AreSpotsOf count l.initial.spots.items → AreSpotsOf count l.spots.items;
}
