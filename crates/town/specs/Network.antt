-- The network file of a town.
use Rattle.std.specs.Prelude.{ℕ, ◌+◌, ◌*◌, List, [], ◌∷◌, ◌++◌, codes, pos, if◌then◌else◌}
use Rattle.std.specs.List.{flat_map, fold, range_with_len}
use Rattle.decimal_text.specs.Number.{decimal}
use Rattle.polyline_geometry.specs.declared.plane.Point.{Point}
use Rattle.road_network.specs.Net.{Net}
use Rattle.road_network.specs.NetworkFile.{Row, no_net, with_row}
use Rattle.town.specs.declared.corner.Corner.{Corner}
use Rattle.town.specs.declared.corner.Heading.{Heading}
use Rattle.town.specs.declared.corner.Heading.TheVariants.{East, North}
use Rattle.town.specs.Corners.{corner_at, is_border, next_corner, node_id}

-- a street, from one corner to another
pub record Street : Type 0 where
  pub one : Corner
  pub other : Corner

-- the street this way, where there is one
abbrev pub street_to : ℕ → Corner → Heading → List Street
street_to n c way =
    if is_border n c way then [] else record { one = c; other = next_corner c way } ∷ []

-- the streets from a corner to the east and to the north
abbrev pub streets_from : ℕ → Corner → List Street
streets_from n c = street_to n c East ++ street_to n c North

-- the streets of the first corners
abbrev pub streets_below : ℕ → ℕ → List Street
streets_below n corners =
    flat_map (λ number. streets_from n (corner_at n number)) (range_with_len 0 corners)

abbrev pub streets : ℕ → List Street
streets n = streets_below n (n * n)

-- where the node of a corner lies
abbrev pub place_of : Corner → Point
place_of c = record { x = pos (10_000 * c.column); y = pos (10_000 * c.row) }

-- the row of an edge from corner a to corner b
abbrev pub edge_row : ℕ → ℕ → Corner → Corner → Row
edge_row n edge a b = record {
  name = edge;
  «from» = node_id n a;
  to = node_id n b;
  line = place_of a ∷ place_of b ∷ [];
}

-- each street gives an edge, and then one back; they are numbered from `edge` on
unfoldable pub street_rows : ℕ → ℕ → List Street → List Row
street_rows n edge [] = []
street_rows n edge (s ∷ rest) =
    edge_row n edge s.one s.other
    ∷ edge_row n (edge + 1) s.other s.one
    ∷ street_rows n (edge + 2) rest

-- the network of a town: its rows, one after the other
abbrev pub town_net : ℕ → Net
town_net n = fold with_row no_net (street_rows n 0 (streets n))

abbrev pub place_text : Corner → List ℕ
place_text c = decimal (10_000 * c.column) ++ codes " " ++ decimal (10_000 * c.row)

abbrev pub line_text : Corner → Corner → List ℕ
line_text a b = place_text a ++ codes ";" ++ place_text b

-- the line of an edge from corner a to corner b: `ID,FROM,TO,X Y;X Y`
abbrev pub edge_line : ℕ → ℕ → Corner → Corner → List ℕ
edge_line n edge a b =
    decimal edge
    ++ codes ","
    ++ decimal (node_id n a)
    ++ codes ","
    ++ decimal (node_id n b)
    ++ codes ","
    ++ line_text a b
    ++ codes "\n"

-- the lines of the edges of streets, which are numbered from `edge` on
unfoldable pub street_lines : ℕ → ℕ → List Street → List ℕ
street_lines n edge [] = []
street_lines n edge (s ∷ rest) =
    edge_line n edge s.one s.other
    ++ edge_line n (edge + 1) s.other s.one
    ++ street_lines n (edge + 2) rest

-- the network file of a town of n rows and n columns
abbrev pub network_text : ℕ → List ℕ
network_text n = codes "edge,from,to,line\n" ++ street_lines n 0 (streets n)
