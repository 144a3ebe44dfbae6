-- The first bad row, part by part.
use Rattle.std.specs.Prelude.{ℕ, List, [], ◌∷◌, Option, None}
use Rattle.std.specs.Option.{option_or}
use Rattle.road_network.specs.Net.{Net}
use Rattle.cert_checker.specs.Rows.{bad_row_from}
use Rattle.cert_checker.specs.declared.row_part.RowPart.{RowPart}

-- the number of the first bad row of a part
abbrev pub bad_in_part : Net → ℕ → RowPart → Option ℕ
bad_in_part n bound part = bad_row_from n bound part.least part.first part.rows.now

-- the first number that is there
abbrev pub first_place : List (Option ℕ) → Option ℕ
first_place [] = None
first_place (number ∷ numbers) = option_or number (first_place numbers)
