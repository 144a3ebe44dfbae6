use Rattle.std.proofs.Common.{◌≡◌, ℕ, drop, length}
use Rattle.row_search.specs.inside.Marked.{AreListsFor, IsDoneTo, MarkLists, lists_of}
use Rattle.row_search.specs.inside.Merging.{MarksAlso, merged}
use Rattle.bounded_table.specs.Table.{RisesFrom}
use Rattle.row_search.proofs.merging.merge_entries.Given as goal

abbrev pub invariant-loop-entry : goal.invariant-loop-entry
invariant-loop-entry l = record {
  sized : AreListsFor (length l.words) (lists_of l.octets l.regions l.areas);
  words : (bound : ℕ) → merged bound l.row.distance (drop l.entry-index l.row.entries.now) l.words ≡ merged bound l.row.distance l.row.entries.now l.initial.words;
  marks : (after : MarkLists) → MarksAlso (drop l.entry-index l.row.entries.now) (lists_of l.octets l.regions l.areas) after → MarksAlso l.row.entries.now (lists_of l.initial.octets l.initial.regions l.initial.areas) after;
  done : (b : ℕ) × RisesFrom b (drop l.entry-index l.row.entries.now) × IsDoneTo (lists_of l.octets l.regions l.areas) b l.end;
}
