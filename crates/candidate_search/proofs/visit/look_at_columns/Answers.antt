use Rattle.std.proofs.Common.{arith}
use Rattle.candidate_search.proofs.Visiting.{goes_on, row_next, row_up_to}
use Rattle.candidate_search.proofs.visit.look_at_columns.Goals as goal

pub loop-column-preserved : goal.loop-column-preserved
loop-column-preserved c =
    let s = c.loop-column in
    let net = c.args.look.net.now in
    let search = c.args.look.search in
    let new = c.look_at_cell.new.found.items in
    let steps = c.in_ok-look_at_cell.ensures.steps in
    record {
      steps = goes_on net search c.args.found.now.items s.found.items new s.invariant.steps steps;
      seen = row_next net c.args.look.grid.now search s.found.items new c.args.left s.column c.args.row s.invariant.seen steps c.in_ok-look_at_cell.ensures.seen;
    }

pub returns-clause-seen : goal.returns-clause-seen
returns-clause-seen c =
    let s = c.loop-column in
    row_up_to c.args.look.net.now c.args.look.grid.now c.args.look.search s.found.items c.args.left s.column c.args.right c.args.row (omega (arith, c.loop-column-test.false)) s.invariant.seen
