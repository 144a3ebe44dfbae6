use Rattle.std.proofs.Common.{◌≡◌, ◌*◌, ◌/◌, ◌-◌, [], length}
use Rattle.row_search.specs.inside.Marked.{IsTaken, KeepsSizes}
use Rattle.row_search.proofs.dijkstra.Workspace.take_entries.Given as goal

abbrev pub invariant-loop-sector : goal.invariant-loop-sector
invariant-loop-sector l = record {
  sized : KeepsSizes l.fn.self l.self;
  regions : length l.self.marks.regions.items ≡ length l.fn.self.marks.regions.items;
  taken : IsTaken l.fn.self.words.items (l.sector * 4_096) l.self;
  queue : l.self.queue ≡ [];
}

abbrev pub decreases-loop-sector : goal.decreases-loop-sector
decreases-loop-sector l = length l.fn.self.marks.regions.items / 8 - l.sector
