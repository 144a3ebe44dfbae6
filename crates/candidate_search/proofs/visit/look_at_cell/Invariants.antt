use Rattle.candidate_search.specs.inside.Best.{Steps}
use Rattle.candidate_search.proofs.Visiting.{HasSeenUpTo}
use Rattle.candidate_search.proofs.visit.look_at_cell.Given as goal

abbrev pub invariant-loop-run : goal.invariant-loop-run
invariant-loop-run l = record {
  steps : Steps l.fn.look.net.now l.fn.look.search l.fn.found.items l.found.items;
  seen : HasSeenUpTo l.fn.look.net.now l.fn.look.grid.now l.fn.look.search l.found.items l.runs l.fn.column l.fn.row l.run-index;
}
