-- Which rows of a certificate are right, and the first that is not.
use Rattle.std.specs.Prelude.{ℕ, ◌+◌, ◌&&◌, Bool, nat_le, if◌then◌else◌, List, [], ◌∷◌, Option, Some, None}
use Rattle.road_network.specs.Net.{Net}
use Rattle.bounded_table.specs.RightRow.{is_right_row}
use Rattle.bounded_table.specs.Table.{TableRow}

-- whether a row is right, and its origin not below `least`
abbrev pub is_next_row : Net → ℕ → ℕ → TableRow → Bool
is_next_row n bound least row = nat_le least row.origin && is_right_row n bound row

-- the first of these rows, the first of which is number k, that is not right, or whose origin is
-- below `least` or not above the one before it
abbrev pub bad_row_from : Net → ℕ → ℕ → ℕ → List TableRow → Option ℕ
bad_row_from n bound least k [] = None
bad_row_from n bound least k (row ∷ rows) =
    if is_next_row n bound least row
    then bad_row_from n bound (row.origin + 1) (k + 1) rows
    else Some k

-- the number of the first row that is not right, or whose origin is not above the one before it
abbrev pub first_bad_row : Net → ℕ → List TableRow → Option ℕ
first_bad_row n bound rows = bad_row_from n bound 0 0 rows
