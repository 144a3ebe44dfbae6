use Rattle.std.proofs.Common.{[]}
use Rattle.row_search.specs.inside.Marked.{KeepsSizes}
use Rattle.row_search.specs.inside.Searching.{IsSearching}
use Rattle.row_search.specs.inside.Underway.{effort, state_of}
use Rattle.row_search.proofs.dijkstra.Workspace.entries.Given as goal

abbrev pub invariant-loop-next : goal.invariant-loop-next
invariant-loop-next g l = record {
  sized : KeepsSizes l.fn.self l.self;
  searching : IsSearching l.fans l.fn.origin.0 l.self [];
}

abbrev pub decreases-loop-next : goal.decreases-loop-next
decreases-loop-next g l = effort (state_of l.self)
