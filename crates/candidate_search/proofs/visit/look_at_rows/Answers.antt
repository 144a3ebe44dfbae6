use Rattle.std.proofs.Common.{arith}
use Rattle.candidate_search.proofs.Visiting.{goes_on, rows_next, rows_up_to}
use Rattle.candidate_search.proofs.visit.look_at_rows.Goals as goal

pub loop-row-preserved : goal.loop-row-preserved
loop-row-preserved c =
    let s = c.loop-row in
    let net = c.args.look.net.now in
    let search = c.args.look.search in
    let new = c.look_at_row.new.found.items in
    let steps = c.in_ok-look_at_row.ensures.steps in
    record {
      steps = goes_on net search c.args.found.now.items s.found.items new s.invariant.steps steps;
      seen = rows_next net c.args.look.grid.now search s.found.items new c.args.cells c.args.bottom s.row s.invariant.seen steps c.in_ok-look_at_row.ensures.seen;
    }

pub returns-clause-seen : goal.returns-clause-seen
returns-clause-seen c =
    let s = c.loop-row in
    rows_up_to c.args.look.net.now c.args.look.grid.now c.args.look.search s.found.items c.args.cells c.args.bottom s.row c.args.top (omega (arith, c.loop-row-test.false)) s.invariant.seen
