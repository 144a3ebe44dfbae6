-- What near rows are made of.
use Rattle.std.specs.Prelude.{◌≡◌, ◌≤◌}
use Rattle.row_search.specs.declared.near_rows.NearRows.TheInside.{Inside}
use Rattle.bounded_table.specs.Rows.{RowsState}

-- the nodes whose near rows are known, as rows within the whole bound
abbrev pub near_rows : Inside → RowsState
near_rows a = record a.near { bound = a.whole.bound }

-- both are rows of one network, and the near ones reach no further
pub record AreOfOne (a : Inside) : Type 0 where
  pub network : a.whole.network ≡ a.near.network
  pub shorter : a.near.bound ≤ a.whole.bound
