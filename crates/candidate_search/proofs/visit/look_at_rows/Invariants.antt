use Rattle.candidate_search.specs.inside.Best.{HasSeenRows, Steps}
use Rattle.candidate_search.proofs.visit.look_at_rows.Given as goal

abbrev pub invariant-loop-row : goal.invariant-loop-row
invariant-loop-row l = record {
  steps : Steps l.fn.look.net.now l.fn.look.search l.fn.found.items l.found.items;
  seen : HasSeenRows l.fn.look.net.now l.fn.look.grid.now l.fn.look.search l.found.items l.fn.cells l.fn.bottom l.row;
}
