use Rattle.candidate_search.specs.inside.Best.{HasSeenRow, Steps}
use Rattle.candidate_search.proofs.visit.look_at_columns.Given as goal

abbrev pub invariant-loop-column : goal.invariant-loop-column
invariant-loop-column l = record {
  steps : Steps l.fn.look.net.now l.fn.look.search l.fn.found.items l.found.items;
  seen : HasSeenRow l.fn.look.net.now l.fn.look.grid.now l.fn.look.search l.found.items l.fn.left l.column l.fn.row;
}
