-- Runs of segments.
use Rattle.std.specs.Prelude.{ℕ, ◌≡◌, ◌+◌, ◌<◌, ◌≤◌, ◌==◌, ◌⊎◌, if◌then◌else◌, List, ◌∷◌, Option, Some, None, IfSome, length, option_to_list, ◌≤ℤ◌}
use Rattle.std.specs.List.{Contains}
use Rattle.polyline_geometry.specs.declared.plane.Point.{Point}
use Rattle.polyline_geometry.specs.Plane.{InRange, distance2, point_at}
use Rattle.polyline_geometry.specs.Boxes.{InBox}
use Rattle.road_network.specs.declared.EdgeId.{EdgeId}
use Rattle.road_network.specs.Net.{Net, HasEdge, edge_line}
use Rattle.grid_index.specs.declared.runs.Run.{Run}

-- neither coordinate of a is above that of b
pub record IsBelow (a b : Point) : Type 0 where
  pub x : a.x ≤ℤ b.x
  pub y : a.y ≤ℤ b.y

-- the corners of the run's box are in range
pub record HasCorners (r : Run) : Type 0 where
  pub low_in : InRange r.low
  pub high_in : InRange r.high

-- the run has at least one segment, all of the line, and their points lie between its corners
pub record IsRunOf (line : List Point) (r : Run) : Type 0 where
  pub some : r.first < r.end
  pub within : r.end < length line
  pub corners : HasCorners r
  pub above_low : (i : ℕ) → r.first ≤ i → i ≤ r.end → IsBelow r.low (point_at line i)
  pub below_high : (i : ℕ) → r.first ≤ i → i ≤ r.end → IsBelow (point_at line i) r.high

-- the run's twin: none, if its field has the run's own edge
abbrev pub twin_of_run : Run → Option EdgeId
twin_of_run r = if r.twin.0 == r.edge.0 then None else Some r.twin

-- the run is one of this edge and its twin, with this first segment
pub record IsRunFrom (line : List Point) (edge : EdgeId) (twin : Option EdgeId) (first : ℕ)
    (r : Run) : Type 0 where
  pub run : IsRunOf line r
  pub edge_is : r.edge ≡ edge
  pub twin_is : twin_of_run r ≡ twin
  pub first_is : r.first ≡ first

-- the points of one line are those of another from its end to its start
pub record IsTurned (line turned : List Point) : Type 0 where
  pub count : length turned ≡ length line
  pub points : (i j : ℕ) → i + j + 1 ≡ length line → point_at turned i ≡ point_at line j

-- the line of edge t is that of edge e from its end to its start
pub record IsReverse (net : Net) (e t : ℕ) : Type 0 where
  pub has : HasEdge net t
  pub turned : IsTurned (edge_line net e) (edge_line net t)

-- where there is a twin, its line is that of edge e from its end to its start
abbrev pub IsTwin : Net → ℕ → Option EdgeId → Type 0
IsTwin net e twin = IfSome twin (λ t. IsReverse net e t.0)

-- where there is a twin, its number is above that of edge e
abbrev pub IsNumberedAbove : ℕ → Option EdgeId → Type 0
IsNumberedAbove e twin = IfSome twin (λ t. e < t.0)

-- the run is one of the network's edges
pub record IsRun (net : Net) (r : Run) : Type 0 where
  pub has : HasEdge net r.edge.0
  pub twin : IsTwin net r.edge.0 (twin_of_run r)
  pub run : IsRunOf (edge_line net r.edge.0) r

-- segment i of edge e is segment `own` of this edge, or is that segment in the twin, from its end to
-- its start
abbrev pub IsSameSegment : Net → EdgeId → Option EdgeId → ℕ → ℕ → ℕ → Type 0
IsSameSegment net edge twin e i own =
    ((edge.0 ≡ e) × (i ≡ own))
    ⊎ ((twin ≡ Some (record { 0 = e })) × (i + own + 2 ≡ length (edge_line net edge.0)))

-- the run has segment i of edge e, as segment `own` of its own edge
pub record HasSegment (net : Net) (r : Run) (e i : ℕ) : Type 0 where
  pub own : ℕ
  pub from_first : r.first ≤ own
  pub before_end : own < r.end
  pub is : IsSameSegment net r.edge (twin_of_run r) e i own

-- some run of the list has segment i of edge e
abbrev pub HasRunFor : Net → List Run → ℕ → ℕ → Type 0
HasRunFor net runs e i = (r : Run) × Contains runs r × HasSegment net r e i

-- the edges of the run: its own, and its twin if there is one
abbrev pub edges_of_run : Run → List EdgeId
edges_of_run r = r.edge ∷ option_to_list (twin_of_run r)

-- the box of the run has a place whose squared distance from p is at most this
abbrev pub IsNearRun : Point → ℕ → Run → Type 0
IsNearRun p far2 r = (q : Point) × InBox r.low r.high q × (distance2 p q ≤ far2)

-- no place of the run's box is nearer to p than this, squared, and one is just that near
pub record IsBoxDistance (r : Run) (p : Point) (d2 : ℕ) : Type 0 where
  pub least : (q : Point) → InBox r.low r.high q → d2 ≤ distance2 p q
  pub place : Point
  pub inside : InBox r.low r.high place
  pub is : distance2 p place ≡ d2
