use Rattle.std.proofs.Common.{◌≤◌, ◌+◌, take}
use Rattle.row_search.specs.inside.Marked.{TakesNodes}
use Rattle.row_search.proofs.found_entries.take_octet.Given as goal

abbrev pub invariant-loop-k : goal.invariant-loop-k
invariant-loop-k l = record {
  inside : l.k ≤ l.octet.nodes;
  room : l.end ≤ l.count + l.k;
  takes : TakesNodes l.bound l.octet.first (l.octet.first + l.k) l.initial.words (take l.count l.initial.places) l.words (take l.end l.places);
}
