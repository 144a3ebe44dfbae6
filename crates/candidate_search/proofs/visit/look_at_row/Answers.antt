use Rattle.std.proofs.lemmas.Result.{err_from_is_err_and, on_ok_weaker}
use Rattle.std.proofs.Common.{◌≤◌, ◌+◌, arith}
use Rattle.candidate_search.proofs.Visiting.{goes_on, on_ok_both, row_joined}
use Rattle.candidate_search.proofs.visit.look_at_row.Goals as goal

pub returns-clause-steps : goal.returns-clause-steps
returns-clause-steps c =
    let net = c.args.look.net.now in
    let search = c.args.look.search in
    let one = c.look_at_cell.new.found.items in
    let two = c.look_at_columns.new.found.items in
    on_ok_weaker c.look_at_columns-2.result
    (λ steps. goes_on net search c.args.found.now.items two c.look_at_columns-2.new.found.items
    (goes_on net search c.args.found.now.items one two c.in_ok-look_at_cell.ensures.steps c.in_ok-look_at_columns.ensures.steps) steps)
    c.look_at_columns-2.ensures.steps

pub returns-clause-seen : goal.returns-clause-seen
returns-clause-seen c =
    let own = c.column_of-own.result in
    let next = c.saturating_add-next.result in
    let le : next ≤ own + 1 = omega (arith, c.saturating_add-next.ensures) in
    on_ok_both c.look_at_columns-2.result
    (λ steps seen. row_joined c.args.look.net.now c.args.look.grid.now c.args.look.search c.look_at_cell.new.found.items c.look_at_columns.new.found.items c.look_at_columns-2.new.found.items c.args.cells.left own next c.args.cells.right c.args.row le
    c.in_ok-look_at_cell.ensures.seen c.in_ok-look_at_columns.ensures.steps c.in_ok-look_at_columns.ensures.seen steps seen)
    c.look_at_columns-2.ensures.steps c.look_at_columns-2.ensures.seen

pub look_at_cell-requires-clause-network : goal.look_at_cell-requires-clause-network
look_at_cell-requires-clause-network c = c.requires.network

pub look_at_cell-requires-clause-best : goal.look_at_cell-requires-clause-best
look_at_cell-requires-clause-best c = c.requires.best

pub returns-in_err-look_at_cell-clause-steps : goal.returns-in_err-look_at_cell-clause-steps
returns-in_err-look_at_cell-clause-steps c = let p = err_from_is_err_and c.from_residual.result c.from_residual.ensures.1 in rw p.1 tt

pub returns-in_err-look_at_cell-clause-seen : goal.returns-in_err-look_at_cell-clause-seen
returns-in_err-look_at_cell-clause-seen c = let p = err_from_is_err_and c.from_residual.result c.from_residual.ensures.1 in rw p.1 tt

pub look_at_columns-requires-clause-network : goal.look_at_columns-requires-clause-network
look_at_columns-requires-clause-network c = c.requires.network

pub look_at_columns-requires-clause-best : goal.look_at_columns-requires-clause-best
look_at_columns-requires-clause-best c = c.in_ok-look_at_cell.ensures.steps.best

pub returns-in_err-look_at_columns-clause-steps : goal.returns-in_err-look_at_columns-clause-steps
returns-in_err-look_at_columns-clause-steps c = let p = err_from_is_err_and c.from_residual-in_err-look_at_columns.result c.from_residual-in_err-look_at_columns.ensures.1 in rw p.1 tt

pub returns-in_err-look_at_columns-clause-seen : goal.returns-in_err-look_at_columns-clause-seen
returns-in_err-look_at_columns-clause-seen c = let p = err_from_is_err_and c.from_residual-in_err-look_at_columns.result c.from_residual-in_err-look_at_columns.ensures.1 in rw p.1 tt

pub look_at_columns-requires-2-clause-network : goal.look_at_columns-requires-2-clause-network
look_at_columns-requires-2-clause-network c = c.requires.network

pub look_at_columns-requires-2-clause-best : goal.look_at_columns-requires-2-clause-best
look_at_columns-requires-2-clause-best c = c.in_ok-look_at_columns.ensures.steps.best
