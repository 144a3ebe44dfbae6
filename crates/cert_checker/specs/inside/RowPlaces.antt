-- The place of the row of a node.
use Rattle.std.specs.Prelude.{◌≡◌, ℕ, ◌<◌, List, Option, None, is_some, IfSome, length, slice_index_or}
use Rattle.road_network.specs.Net.{Net}
use Rattle.bounded_table.specs.Table.{TableRow}
use Rattle.cert_checker.specs.Case.{has_row}
use Rattle.cert_checker.specs.Rows.{first_bad_row}

-- none of these rows is bad, within some bound
pub record HaveNoBadRow (n : Net) (rows : List TableRow) : Type 0 where
  pub bound : ℕ
  pub are : first_bad_row n bound rows ≡ None

-- the row at this place is that of node v
pub record IsRowPlace (rows : List TableRow) (v k : ℕ) : Type 0 where
  pub below : k < length rows
  pub origin : (d : TableRow) → (slice_index_or rows k d).origin ≡ v

-- there is a place exactly where there is the row, and it is that of the row
pub record FindsRow (rows : List TableRow) (v : ℕ) (place : Option ℕ) : Type 0 where
  pub has : is_some place ≡ has_row rows v
  pub at : IfSome place (IsRowPlace rows v)
