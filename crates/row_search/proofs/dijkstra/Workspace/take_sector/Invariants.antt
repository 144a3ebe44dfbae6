use Rattle.std.proofs.Common.{◌≡◌, ◌≤◌, ◌+◌, ◌*◌, ℕ, List}
use Rattle.row_search.specs.inside.Marked.{IsTaken, KeepsSizes}
use Rattle.row_search.proofs.dijkstra.Workspace.take_sector.Given as goal

abbrev pub invariant-loop-region : goal.invariant-loop-region
invariant-loop-region l = record {
  inside : l.region ≤ (l.sector + 1) * 8;
  sized : KeepsSizes l.fn.self l.self;
  taken : (before : List ℕ) → IsTaken before (l.sector * 4_096) l.fn.self → IsTaken before (l.region * 512) l.self;
  queue : l.self.queue ≡ l.fn.self.queue;
}
