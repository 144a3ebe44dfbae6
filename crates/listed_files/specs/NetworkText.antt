-- The file that lists a network edge by edge, and the law that it is read as that network.
use Rattle.std.specs.Prelude.{◌≡◌, ◌<◌, ◌≤◌, ◌^◌, ℕ, List, [], ◌∷◌, ◌++◌, All, length, codes, nat_eq, Ok, if◌then◌else◌}
use Rattle.std.specs.List.{flat_map, fold, list_any}
use Rattle.decimal_text.specs.Number.{decimal, signed_decimal}
use Rattle.polyline_geometry.specs.declared.plane.Point.{Point}
use Rattle.road_network.specs.Net.{Edge, Net, IsLawful, node_name, point_count}
use Rattle.road_network.specs.NetworkFile.{network_of}
use Rattle.road_network.specs.declared.limits.NetworkLimits.TheVariants.{Standard}

-- a point: `X Y`
abbrev pub point_text : Point → List ℕ
point_text p = signed_decimal p.x ++ codes " " ++ signed_decimal p.y

-- a line: its points, with a semicolon before each but the first
abbrev pub next_point : Point → List ℕ
next_point p = codes ";" ++ point_text p

abbrev pub line_text : List Point → List ℕ
line_text [] = []
line_text (p ∷ line) = point_text p ++ flat_map next_point line

-- an edge: `ID,FROM,TO,X Y;X Y` and LF
abbrev pub edge_text : Net → Edge → List ℕ
edge_text n e =
    decimal e.name
    ++ codes ","
    ++ decimal (node_name n e.«from»)
    ++ codes ","
    ++ decimal (node_name n e.to)
    ++ codes ","
    ++ line_text e.line
    ++ codes "\n"

-- the header, and a line for each edge
abbrev pub network_text : Net → List ℕ
network_text n = codes "edge,from,to,line\n" ++ flat_map (edge_text n) n.edges

-- the ids of the two nodes of an edge
abbrev pub end_names : Net → Edge → List ℕ
end_names n e = node_name n e.«from» ∷ node_name n e.to ∷ []

-- these ids with one more, if it is new
abbrev pub with_name : List ℕ → ℕ → List ℕ
with_name names name = if list_any (nat_eq name) names then names else names ++ name ∷ []

-- a network within the standard limits, whose nodes are numbered in the order in which its edges first
-- name them
pub record IsListed (n : Net) : Type 0 where
  pub lawful : IsLawful n
  pub edges : length n.edges ≤ 150_000
  pub nodes : length n.nodes ≤ 60_000
  pub points : point_count n.edges ≤ 1_000_000
  pub edge_ids : All (λ e. e.name < 2 ^ 32) n.edges
  pub node_ids : All (λ name. name < 2 ^ 64) n.nodes
  pub numbered : n.nodes ≡ fold with_name [] (flat_map (end_names n) n.edges)

abbrev pub NetworksAreRead : Type 0
NetworksAreRead = (n : Net) → IsListed n → network_of Standard (network_text n) ≡ Ok n
