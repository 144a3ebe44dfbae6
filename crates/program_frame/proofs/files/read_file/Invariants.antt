use Rattle.std.proofs.Common.{◌≡◌, ◌≤◌, ◌+◌, ◌-◌, length}
use Rattle.program_frame.specs.Read.{IsReadSoFar}
use Rattle.program_frame.proofs.files.read_file.Given as goal

abbrev pub invariant-loop-file : goal.invariant-loop-file
invariant-loop-file g l = record {
  front : IsReadSoFar (g.S.Shelf.state l.initial.shelf).holds l.name l.bytes.items;
  within : length l.bytes.items ≤ l.limit + 1;
  same : g.S.Shelf.state l.shelf ≡ g.S.Shelf.state l.initial.shelf;
}

abbrev pub decreases-loop-file : goal.decreases-loop-file
decreases-loop-file g l = l.limit + 1 - length l.bytes.items
