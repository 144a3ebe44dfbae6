-- The corners of a town, which lie on a square grid, and the streets between them. Columns run to
-- the east and rows to the north.
use Rattle.std.specs.Prelude.{ℕ, ◌+◌, ◌-◌, ◌*◌, ◌/◌, ◌%◌, ◌<◌, ◌==◌, Bool, nat_le, if◌then◌else◌}
use Rattle.town.specs.declared.corner.Corner.{Corner}
use Rattle.town.specs.declared.corner.Spot.{Spot}
use Rattle.town.specs.declared.corner.Heading.{Heading}
use Rattle.town.specs.declared.corner.Heading.TheVariants.{East, North, West, South}

-- the corner of this number in a town of n rows and n columns: row by row
abbrev pub corner_at : ℕ → ℕ → Corner
corner_at n number = record { row = number / n; column = number % n }

-- the id of a corner's node
abbrev pub node_id : ℕ → Corner → ℕ
node_id n c = c.row * n + c.column

-- no street leads on from the corner this way
abbrev pub is_border : ℕ → Corner → Heading → Bool
is_border n c East = nat_le n (c.column + 1)
is_border n c North = nat_le n (c.row + 1)
is_border n c West = c.column == 0
is_border n c South = c.row == 0

-- the corner at the other end of the street
abbrev pub next_corner : Corner → Heading → Corner
next_corner c East = record { row = c.row; column = c.column + 1 }
next_corner c North = record { row = c.row + 1; column = c.column }
next_corner c West = record { row = c.row; column = c.column - 1 }
next_corner c South = record { row = c.row - 1; column = c.column }

-- the spot so far along the street, in cm; a street is 10,000 cm long
abbrev pub along : Corner → Heading → ℕ → Spot
along c East far = record { x = 10_000 * c.column + far; y = 10_000 * c.row }
along c North far = record { x = 10_000 * c.column; y = 10_000 * c.row + far }
along c West far = record { x = 10_000 * c.column - far; y = 10_000 * c.row }
along c South far = record { x = 10_000 * c.column; y = 10_000 * c.row - far }

abbrev pub opposite : Heading → Heading
opposite East = West
opposite North = South
opposite West = East
opposite South = North

-- the way that a number below 4 names
abbrev pub heading_of : ℕ → Heading
heading_of number =
    if number == 0 then East
    else if number == 1 then North
    else if number == 2 then West
    else South

-- the way, or the opposite one at the border
abbrev pub turned : ℕ → Corner → Heading → Heading
turned n c h = if is_border n c h then opposite h else h

-- the corner is one of a town of n rows and n columns
pub record IsInTown (n : ℕ) (c : Corner) : Type 0 where
  pub row_is : c.row < n
  pub column_is : c.column < n
