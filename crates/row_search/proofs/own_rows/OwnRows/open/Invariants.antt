use Rattle.std.proofs.Common.{◌≡◌, ℕ, length, Some}
use Rattle.std.specs.Prelude.{slice_get}
use Rattle.bounded_table.specs.Table.{TableRow}
use Rattle.row_search.proofs.own_rows.OwnRows.open.Given as goal

abbrev pub invariant-loop : goal.invariant-loop
invariant-loop l = record {
  count : length l.rows.items ≡ l.counter;
  none : (k : ℕ) (row : TableRow) → slice_get l.rows.items k ≡ Some (Some row) → ⊥;
}
