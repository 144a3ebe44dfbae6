use Rattle.std.proofs.Common.{◌≡◌, ◌++◌, All, IsSome, Some, length, map}
use Rattle.std.specs.Vec.Iter.{into_iter_items, into_iter_len}
use Rattle.match_pool.proofs.gathering.filled.Given as goal

abbrev pub invariant-loop-slot : goal.invariant-loop-slot
invariant-loop-slot l = record {
  whole : l.yielded ++ into_iter_items l.slot-iterator ≡ into_iter_items l.initial.slot-iterator;
  left : into_iter_len l.slot-iterator ≡ length (into_iter_items l.slot-iterator);
  some : All IsSome (into_iter_items l.slot-iterator);
  all : map Some l.all.items ≡ l.yielded;
}
