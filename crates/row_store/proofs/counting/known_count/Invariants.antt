use Rattle.std.proofs.Common.{◌≡◌}
use Rattle.std.specs.List.{count_by, range_with_len}
use Rattle.row_store.specs.Store.{is_known_to_any}
use Rattle.row_store.proofs.counting.known_count.Given as goal

abbrev pub invariant-loop-n : goal.invariant-loop-n
invariant-loop-n l = l.count ≡ count_by (is_known_to_any l.readers) (range_with_len 0 l.n)
