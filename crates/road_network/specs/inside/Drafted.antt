-- What is kept while the edges of a network are read, one after the other.
use Rattle.std.specs.Prelude.{ℕ, ◌≡◌, ◌++◌, List, None, Ok, length, map}
use Rattle.std.specs.List.{All}
use Rattle.polyline_geometry.specs.declared.plane.Point.{Point}
use Rattle.polyline_geometry.specs.Offsets.{line_offsets}
use Rattle.polyline_geometry.specs.Plane.{line_length}
use Rattle.road_network.specs.declared.StoredEdge.{StoredEdge}
use Rattle.road_network.specs.declared.draft.Draft.{Draft}
use Rattle.road_network.specs.declared.limits.NetworkLimits.{NetworkLimits}
use Rattle.road_network.specs.inside.EdgeNames.{AreNames, names_of}
use Rattle.road_network.specs.Net.{Net, IsLawful, point_count}
use Rattle.road_network.specs.NetworkFile.{Row, add_row, first_fault, line_faults}
use Rattle.road_network.specs.inside.Stored.{AreOffsets, IsStored, edge_of, net_of}

-- the network so far
abbrev pub drafted : Draft → Net
drafted d = net_of d.nodes.keys d.edges d.points

-- the names of the nodes, the stored edges and the points of all lines belong together
pub record BelongTogether (nodes : List ℕ) (edges : List StoredEdge)
    (points : List Point) : Type 0 where
  pub lawful : IsLawful (net_of nodes edges points)
  pub stored : All (IsStored points) edges
  pub count : length points ≡ point_count (map (edge_of points) edges)

-- what every draft meets, until a fault is found
pub record IsDraft (d : Draft) : Type 0 where
  pub parts : BelongTogether d.nodes.keys d.edges d.points
  pub names : AreNames d.names (names_of d.edges)
  pub offsets : AreOffsets d.points d.edges d.offsets

-- the line of record number rec is faultless and has this length, and the offsets of its points
-- follow those before
pub record IsLineTaken (rec : ℕ) (line : List Point) (cm : ℕ)
    (old new : List ℕ) : Type 0 where
  pub faultless : first_fault (line_faults rec line) ≡ None
  pub measured : cm ≡ line_length line
  pub offsets : new ≡ old ++ line_offsets line

-- the row is added, and what every draft meets holds again
pub record AddsRow (limits : NetworkLimits) (old : Draft) (row : Row)
    (new : Draft) : Type 0 where
  pub network : add_row limits (drafted old) row ≡ Ok (drafted new)
  pub draft : IsDraft new
