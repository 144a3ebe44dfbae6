use Rattle.std.proofs.Common.{ℕ, ◌<◌, ◌≤◌, ◌+◌, length, slice_index_or}
use Rattle.bounded_table.specs.declared.table_row.Entry.{Entry}
use Rattle.bounded_table.proofs.places.place_between.Given as goal

abbrev pub invariant-loop-count : goal.invariant-loop-count
invariant-loop-count l = record {
  inside : l.low + l.count ≤ l.past;
  below : (k : ℕ) (d : Entry) → k < l.low → (slice_index_or l.entries k d).node.0 < l.n.0;
  above : (k : ℕ) (d : Entry) → l.low + l.count ≤ k → k < length l.entries → l.n.0 < (slice_index_or l.entries k d).node.0;
}

abbrev pub decreases-loop-count : goal.decreases-loop-count
decreases-loop-count l = l.count
