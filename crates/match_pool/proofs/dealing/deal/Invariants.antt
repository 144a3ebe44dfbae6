use Rattle.std.proofs.Common.{◌≡◌, ◌≤◌, ◌^◌, ◌++◌, ℕ, List, All, length, map}
use Rattle.std.specs.List.{AllZip}
use Rattle.std.specs.Vec.Iter.{into_iter_items, into_iter_len}
use Rattle.match_pool.specs.inside.Dealing.{HasClaims, partition_numbers}
use Rattle.match_pool.proofs.Started.{AreFreshAt}
use Rattle.match_pool.proofs.dealing.deal.Given as goal

abbrev pub invariant-loop-numbers : goal.invariant-loop-numbers
invariant-loop-numbers l = record {
  whole : l.yielded ++ into_iter_items l.numbers-iterator ≡ into_iter_items l.initial.numbers-iterator;
  left : into_iter_len l.numbers-iterator ≡ length (into_iter_items l.numbers-iterator);
  few : All (λ (l : List ℕ). length l ≤ 2 ^ 32) (into_iter_items l.numbers-iterator);
  cuts : map partition_numbers l.partitions.items ≡ l.yielded;
  claims : All (HasClaims l.workers) l.partitions.items;
  turns : AllZip (AreFreshAt l.workers) l.partitions.items l.turns.items;
}
