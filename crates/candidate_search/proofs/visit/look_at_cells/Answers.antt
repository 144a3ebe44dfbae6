use Rattle.std.proofs.lemmas.Result.{err_from_is_err_and, on_ok_weaker}
use Rattle.std.proofs.Common.{◌≤◌, ◌+◌, arith}
use Rattle.candidate_search.proofs.Visiting.{goes_on, on_ok_both, rows_joined}
use Rattle.candidate_search.proofs.visit.look_at_cells.Goals as goal

pub returns-clause-steps : goal.returns-clause-steps
returns-clause-steps c =
    let net = c.args.look.net.now in
    let search = c.args.look.search in
    let one = c.look_at_row.new.found.items in
    let two = c.look_at_rows.new.found.items in
    on_ok_weaker c.look_at_rows-2.result
    (λ steps. goes_on net search c.args.found.now.items two c.look_at_rows-2.new.found.items
    (goes_on net search c.args.found.now.items one two c.in_ok-look_at_row.ensures.steps c.in_ok-look_at_rows.ensures.steps) steps)
    c.look_at_rows-2.ensures.steps

pub returns-clause-seen : goal.returns-clause-seen
returns-clause-seen c =
    let own = c.row_of-own.result in
    let next = c.saturating_add-next.result in
    let le : next ≤ own + 1 = omega (arith, c.saturating_add-next.ensures) in
    on_ok_both c.look_at_rows-2.result
    (λ steps seen. rows_joined c.args.look.net.now c.args.look.grid.now c.args.look.search c.look_at_row.new.found.items c.look_at_rows.new.found.items c.look_at_rows-2.new.found.items c.args.cells own next le
    c.in_ok-look_at_row.ensures.seen c.in_ok-look_at_rows.ensures.steps c.in_ok-look_at_rows.ensures.seen steps seen)
    c.look_at_rows-2.ensures.steps c.look_at_rows-2.ensures.seen

pub look_at_row-requires-clause-network : goal.look_at_row-requires-clause-network
look_at_row-requires-clause-network c = c.requires.network

pub look_at_row-requires-clause-best : goal.look_at_row-requires-clause-best
look_at_row-requires-clause-best c = c.requires.best

pub returns-in_err-look_at_row-clause-steps : goal.returns-in_err-look_at_row-clause-steps
returns-in_err-look_at_row-clause-steps c = let p = err_from_is_err_and c.from_residual.result c.from_residual.ensures.1 in rw p.1 tt

pub returns-in_err-look_at_row-clause-seen : goal.returns-in_err-look_at_row-clause-seen
returns-in_err-look_at_row-clause-seen c = let p = err_from_is_err_and c.from_residual.result c.from_residual.ensures.1 in rw p.1 tt

pub look_at_rows-requires-clause-network : goal.look_at_rows-requires-clause-network
look_at_rows-requires-clause-network c = c.requires.network

pub look_at_rows-requires-clause-best : goal.look_at_rows-requires-clause-best
look_at_rows-requires-clause-best c = c.in_ok-look_at_row.ensures.steps.best

pub returns-in_err-look_at_rows-clause-steps : goal.returns-in_err-look_at_rows-clause-steps
returns-in_err-look_at_rows-clause-steps c = let p = err_from_is_err_and c.from_residual-in_err-look_at_rows.result c.from_residual-in_err-look_at_rows.ensures.1 in rw p.1 tt

pub returns-in_err-look_at_rows-clause-seen : goal.returns-in_err-look_at_rows-clause-seen
returns-in_err-look_at_rows-clause-seen c = let p = err_from_is_err_and c.from_residual-in_err-look_at_rows.result c.from_residual-in_err-look_at_rows.ensures.1 in rw p.1 tt

pub look_at_rows-requires-2-clause-network : goal.look_at_rows-requires-2-clause-network
look_at_rows-requires-2-clause-network c = c.requires.network

pub look_at_rows-requires-2-clause-best : goal.look_at_rows-requires-2-clause-best
look_at_rows-requires-2-clause-best c = c.in_ok-look_at_rows.ensures.steps.best
