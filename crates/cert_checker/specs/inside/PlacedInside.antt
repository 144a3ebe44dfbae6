-- The places of rows, by their nodes.
use Rattle.std.specs.Prelude.{ℕ, zero, suc, List, Option, Some, None, slice_index}
use Rattle.bounded_table.specs.Table.{TableRow}
use Rattle.cert_checker.specs.declared.placed_rows.PlacedRows.TheInside.{Inside}
use Rattle.cert_checker.specs.inside.RowPlaces.{FindsRow}

abbrev pub rows_placed : Inside → List TableRow
rows_placed a = a.rows.now

-- the place that a number tells: it is one more, and 0 tells none
abbrev pub told_place : ℕ → Option ℕ
told_place zero = None
told_place (suc place) = Some place

-- the places of rows by node number
pub record AreRowsPlaced (a : Inside) : Type 0 where
  pub each : (v : ℕ) → FindsRow a.rows.now v (told_place (slice_index a.places.items v))
