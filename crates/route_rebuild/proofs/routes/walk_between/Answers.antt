use Rattle.bounded_table.proofs.Asking.{asks_done, asks_err, asks_ok, asks_twice}
use Rattle.route_rebuild.proofs.routes.walk_between.Goals as goal

pub returns-in_err-row-clause-asks : goal.returns-in_err-row-clause-asks
returns-in_err-row-clause-asks g c =
    let both = asks_twice _ (asks_ok c.near_row.follows.holds-at-none c.in_ok-near.was) c.row.follows.holds-at-none in
    asks_err both.only c.from_residual-in_err-row.ensures.0

pub returns-clause-asks : goal.returns-clause-asks
returns-clause-asks g c =
    let both = asks_twice _ (asks_ok c.near_row.follows.holds-at-none c.in_ok-near.was) c.row.follows.holds-at-none in
    asks_done (asks_ok both c.in_ok-row.was)
