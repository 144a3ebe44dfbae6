use Rattle.std.proofs.Common.{get_or, arith}
use Rattle.std.proofs.lemmas.List.{get_or_default}
use Rattle.grid_index.specs.declared.runs.Run.{Run}
use Rattle.candidate_search.proofs.Visiting.{goes_on, nothing, seen_next, seen_wide, stays}
use Rattle.candidate_search.proofs.visit.look_at_wide.Goals as goal

pub loop-run-init : goal.loop-run-init
loop-run-init c = record {
  steps = stays c.args.look.net.now c.args.look.search c.args.found.now.items c.requires.best;
  seen = λ i d lt. absurd (omega (arith, lt));
}

pub loop-run-preserved : goal.loop-run-preserved
loop-run-preserved c =
    let s = c.loop-run in
    let net = c.args.look.net.now in
    let search = c.args.look.search in
    let runs = c.wide_runs-runs.result.now in
    let x : Run = get_or runs s.run-index nothing in
    let new = c.look_at_run.new.found.items in
    let steps = c.in_ok-look_at_run.ensures.steps in
    record {
      steps = goes_on net search c.args.found.now.items s.found.items new s.invariant.steps steps;
      seen = seen_next net search s.found.items new runs s.run-index x c.loop-run-test.true (get_or_default runs s.run-index x nothing c.loop-run-test.true) s.invariant.seen steps c.in_ok-look_at_run.ensures.seen;
    }

pub returns-clause-seen : goal.returns-clause-seen
returns-clause-seen c =
    let s = c.loop-run in
    seen_wide c.args.look.net.now c.args.look.grid.now c.args.look.search s.found.items c.wide_runs-runs.result.now s.run-index c.wide_runs-runs.ensures (omega (arith, c.loop-run-test.false)) s.invariant.seen
