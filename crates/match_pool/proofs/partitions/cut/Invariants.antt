use Rattle.std.proofs.Common.{◌≡◌, length}
use Rattle.match_pool.proofs.Spots.{Cutting}
use Rattle.match_pool.proofs.partitions.cut.Given as goal

abbrev pub invariant-loop-rank : goal.invariant-loop-rank
invariant-loop-rank l = record {
  count : length l.partitions.items ≡ l.count;
  cutting : Cutting (length l.traces) l.spots.items l.rank l.partitions.items;
}
