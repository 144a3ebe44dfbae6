use Rattle.candidate_search.specs.inside.Best.{Steps}
use Rattle.candidate_search.proofs.Visiting.{HasSeenFirst}
use Rattle.candidate_search.proofs.visit.look_at_wide.Given as goal

abbrev pub invariant-loop-run : goal.invariant-loop-run
invariant-loop-run l = record {
  steps : Steps l.fn.look.net.now l.fn.look.search l.fn.found.items l.found.items;
  seen : HasSeenFirst l.fn.look.net.now l.fn.look.search l.found.items l.runs l.run-index;
}
