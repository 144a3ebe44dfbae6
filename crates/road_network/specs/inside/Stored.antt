-- How a network is stored: flat lists, with the places where the parts of each edge and
-- each node begin.
use Rattle.std.specs.Prelude.{ℕ, ◌≡◌, ◌+◌, ◌<◌, ◌≤◌, List, length, map, slice_index, slice_range}
use Rattle.std.specs.List.{All}
use Rattle.polyline_geometry.specs.declared.plane.Point.{Point}
use Rattle.polyline_geometry.specs.Plane.{line_length}
use Rattle.polyline_geometry.specs.Offsets.{line_offsets}
use Rattle.road_network.specs.declared.EdgeId.{EdgeId}
use Rattle.road_network.specs.declared.StoredEdge.{StoredEdge}
use Rattle.road_network.specs.declared.Network.TheInside.{Inside}
use Rattle.road_network.specs.Net.{Edge, Net, IsLawful, arc_of, leaving}

-- an edge whose line is a part of the list of all points
abbrev pub edge_of : List Point → StoredEdge → Edge
edge_of points e = record
    { name = e.name; «from» = e.from.0; to = e.to.0; line = slice_range points e.first e.end }

-- a network of these stored parts
abbrev pub net_of : List ℕ → List StoredEdge → List Point → Net
net_of nodes edges points = record { nodes = nodes; edges = map (edge_of points) edges }

-- what contracts see of a network
abbrev pub shown : Inside → Net
shown a = net_of a.nodes.items a.edges.items a.points.items

-- the part of the list of leaving edges that is node v's
abbrev pub IsLeavingList : Net → List ℕ → List EdgeId → ℕ → Type 0
IsLeavingList n starts leaving_edges v =
    (slice_index starts v ≤ slice_index starts (v + 1))
    × (slice_index starts (v + 1) ≤ length leaving_edges)
    × (slice_range leaving_edges (slice_index starts v) (slice_index starts (v + 1)) ≡ leaving n v)

-- what a stored edge meets: its line is a part of the list of all points, and its length is that
-- of its line
pub record IsStored (points : List Point) (e : StoredEdge) : Type 0 where
  pub order : e.first ≤ e.end
  pub within : e.end ≤ length points
  pub measured : e.length ≡ line_length (slice_range points e.first e.end)

-- the list of all offsets has those of each edge's line where the list of all points has this line
pub record AreOffsets (points : List Point) (edges : List StoredEdge)
    (offsets : List ℕ) : Type 0 where
  pub count : length offsets ≡ length points
  pub each : All (λ e. slice_range offsets e.first e.end
      ≡ line_offsets (slice_range points e.first e.end)) edges

-- what every network meets inside
pub record IsKept (a : Inside) : Type 0 where
  pub lawful : IsLawful (shown a)
  pub stored : All (IsStored a.points.items) a.edges.items
  pub offsets : AreOffsets a.points.items a.edges.items a.offsets.items
  pub starts : length a.adjacency.starts.items ≡ length a.nodes.items + 1
  pub lists : (v : ℕ) → v < length a.nodes.items
      → IsLeavingList (shown a) a.adjacency.starts.items a.adjacency.leaving.items v
  pub arcs : a.adjacency.arcs.items ≡ map (arc_of (shown a)) a.adjacency.leaving.items
