-- A row whose line is kept beside it, and a line that is read point by point.
use Rattle.std.specs.Prelude.{ℕ, Bool, ◌==◌, not, List, [], ◌∷◌, ◌++◌, Option, None, Some, Result}
use Rattle.decimal_text.specs.declared.number.NumberFault.{NumberFault}
use Rattle.decimal_text.specs.declared.number.NumberFault.TheVariants.{Misspelt, OutOfRange}
use Rattle.polyline_geometry.specs.declared.plane.Point.{Point}
use Rattle.road_network.specs.declared.draft.RowHead.{RowHead}
use Rattle.road_network.specs.declared.fields.RowFields.{RowFields}
use Rattle.road_network.specs.NetworkFile.{Row, both}

-- the row of a record's first three fields and its line
abbrev pub row_with : RowHead → List Point → Row
row_with head line = record { name = head.name; «from» = head.from; to = head.to; line = line }

-- the texts of the four fields of a record
abbrev pub field_texts : RowFields → List (List ℕ)
field_texts f = f.name.now ∷ f.from.now ∷ f.to.now ∷ f.points.now ∷ []

-- of two faults: a misspelling comes before a value out of range
abbrev pub worse : Option NumberFault → NumberFault → NumberFault
worse (Some Misspelt) later = Misspelt
worse (Some OutOfRange) later = later
worse None later = later

-- a line with one more point before it, and after it
abbrev pub with_point : Result Point NumberFault → Result (List Point) NumberFault
    → Result (List Point) NumberFault
with_point = both (λ p line. p ∷ line)

abbrev pub onto_end : List Point → Point → List Point
onto_end line p = line ++ p ∷ []

-- this byte ends no part of a line
abbrev pub is_within_part : ℕ → Bool
is_within_part c = not (c == 59)
