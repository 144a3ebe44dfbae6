use Rattle.bounded_table.proofs.Asking.{asks_done, asks_err, asks_ok, asks_twice, one_named}
use Rattle.trellis.proofs.layers.offer_from.Goals as goal

pub returns-in_err-row-clause-asks : goal.returns-in_err-row-clause-asks
returns-in_err-row-clause-asks g c =
    let one = one_named _ _ c.node-origin.ensures.node c.near_row.follows.holds-at-none in
    asks_err one.only c.from_residual.ensures.0

pub returns-in_err-row-2-clause-asks : goal.returns-in_err-row-2-clause-asks
returns-in_err-row-2-clause-asks g c =
    let one = one_named _ _ c.node-origin.ensures.node c.near_row.follows.holds-at-none in
    let two = one_named _ _ c.node-origin.ensures.node c.row.follows.holds-at-none in
    let both = asks_twice _ (asks_ok one c.in_ok-row.was) two in
    asks_err both.only c.from_residual-in_err-row-2.ensures.0

pub returns-in_ok-row-2-clause-asks : goal.returns-in_ok-row-2-clause-asks
returns-in_ok-row-2-clause-asks g c =
    let one = one_named _ _ c.node-origin.ensures.node c.near_row.follows.holds-at-none in
    let two = one_named _ _ c.node-origin.ensures.node c.row.follows.holds-at-none in
    let both = asks_twice _ (asks_ok one c.in_ok-row.was) two in
    asks_done (asks_ok both c.in_ok-row-2.was)

pub returns-else-decided-cells-clause-asks : goal.returns-else-decided-cells-clause-asks
returns-else-decided-cells-clause-asks g c =
    let one = one_named _ _ c.node-origin.ensures.node c.near_row.follows.holds-at-none in
    asks_done (asks_ok one c.in_ok-row.was)
