-- The boxes of edges, by which edges that are far from all of some positions are passed over.
use Rattle.std.specs.Prelude.{ℕ, ◌≡◌, ◌<◌, ◌&&◌, Bool, List, map, ℤ}
use Rattle.std.specs.Int.Signed.{le_z}
use Rattle.std.specs.List.{All, AllPairs}
use Rattle.polyline_geometry.specs.declared.plane.Point.{Point}
use Rattle.polyline_geometry.specs.Boxes.{InSquare}
use Rattle.road_network.specs.Net.{Net, HasEdge, edge_line}
use Rattle.road_network.specs.Near.{all_snaps, candidate_at, within}
use Rattle.grid_index.specs.declared.extent.Extent.{Extent}
use Rattle.grid_index.specs.Extent.{AreCorners, IsInside}
use Rattle.candidate_search.specs.declared.boxes.EdgeBox.{EdgeBox}
use Rattle.candidate_search.specs.declared.placed.Placed.{Placed}

-- both corners are in range, and these places lie between them
pub record HoldsPoints (points : List Point) (x : Extent) : Type 0 where
  pub corners : AreCorners x
  pub each : All (IsInside x) points

-- the square of half side `reach` round each place inside the first extent lies inside the second
abbrev pub IsGrown : ℕ → Extent → Extent → Type 0
IsGrown reach x y = (at q : Point) → IsInside x at → InSquare at reach q → IsInside y q

-- the numbers from `low` up to `high` and those from `first` up to `last` overlap
abbrev pub overlap : ℤ → ℤ → ℤ → ℤ → Bool
overlap low high first last = le_z low last && le_z first high

-- the two boxes have a place in common
abbrev pub touches : Extent → Extent → Bool
touches x y =
    overlap x.low.x x.high.x y.low.x y.high.x && overlap x.low.y x.high.y y.low.y y.high.y

-- the box of an edge of the network
pub record IsEdgeBox (net : Net) (b : EdgeBox) : Type 0 where
  pub has : HasEdge net b.edge.0
  pub line : All (IsInside b.extent) (edge_line net b.edge.0)

-- boxes of edges, by rising number
pub record AreBoxes (net : Net) (boxes : List EdgeBox) : Type 0 where
  pub rising : AllPairs (λ a b. a.edge.0 < b.edge.0) boxes
  pub each : All (IsEdgeBox net) boxes

-- the edges of these boxes within the radius of a position are all edges that are
abbrev pub AreEnough : Net → ℕ → List EdgeBox → Point → Type 0
AreEnough net radius boxes at =
    within radius (map (λ b. candidate_at net at b.edge.0) boxes) ≡ within radius (all_snaps net at)

-- boxes of all edges that are near a position of the group
pub record AreBoxesFor (net : Net) (radius : ℕ) (boxes : List EdgeBox) (group : List Placed) : Type 0 where
  pub are : AreBoxes net boxes
  pub enough : All (λ x. AreEnough net radius boxes x.at) group
