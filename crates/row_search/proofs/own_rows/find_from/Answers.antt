use Rattle.row_search.proofs.own_rows.find_from.Goals as goal

pub of-known-requires : goal.of-known-requires
of-known-requires c = rw (c.network.ensures, c.bound.ensures) c.requires.places

pub row_from-requires-clause-known : goal.row_from-requires-clause-known
row_from-requires-clause-known c = rw (c.of-known.ensures, c.network.ensures, c.bound.ensures)

pub row_from-requires-clause-origin : goal.row_from-requires-clause-origin
row_from-requires-clause-origin c = c.requires.node

pub returns-clause-same : goal.returns-clause-same
returns-clause-same c = c.row_from.ensures.same

pub returns-clause-row : goal.returns-clause-row
returns-clause-row c = c.row_from.ensures.row
