-- What a grid is to every contract: the runs at each cell, and those in the list of wide ones.
use Rattle.std.specs.Prelude.{ℕ, ◌+◌, ◌%◌, ◌<◌, ◌≤◌, ◌⊎◌, List, [], length, slice_index_or}
use Rattle.std.specs.List.{All, Contains}
use Rattle.polyline_geometry.specs.declared.plane.Point.{Point}
use Rattle.polyline_geometry.specs.Boxes.{InBox, InSquare, LineMeetsSquare}
use Rattle.polyline_geometry.specs.Plane.{distance2, point_at}
use Rattle.road_network.specs.declared.EdgeId.{EdgeId}
use Rattle.road_network.specs.Net.{Net, HasEdge, edge_line}
use Rattle.grid_index.specs.declared.runs.Run.{Run}
use Rattle.grid_index.specs.Cells.{cell}
use Rattle.grid_index.specs.Runs.{HasRunFor, HasSegment, IsRun}

-- a grid of this network with cells of this side: the runs at rows of cells, which repeat over the
-- plane, and the runs that every look includes
pub record GridOf : Type 0 where
  pub net : Net
  pub side : ℕ
  pub rows : List (List (List Run))
  pub wide : List Run

-- the list at a place, where the lists repeat without end
abbrev pub repeated_at : {A : Type 0} → List (List A) → ℕ → List A
repeated_at lists place = slice_index_or lists (place % length lists) []

-- the runs at the cell of a column and a row
abbrev pub runs_at : GridOf → ℕ → ℕ → List Run
runs_at g column row = repeated_at (repeated_at g.rows row) column

-- the run is among the wide ones, or is entered at the cell of each place of its box
abbrev pub Stands : GridOf → Run → Type 0
Stands g r =
    Contains g.wide r
    ⊎ ((q : Point) → InBox r.low r.high q → Contains (runs_at g (cell g.side q.x) (cell g.side q.y)) r)

-- a run with segment i of edge e is in the grid
pub record StandsFor (g : GridOf) (e i : ℕ) : Type 0 where
  pub run : Run
  pub is_run : IsRun g.net run
  pub segment : HasSegment g.net run e i
  pub stands : Stands g run

-- all runs are of the network, and each segment of each edge has one
pub record IsGrid (g : GridOf) : Type 0 where
  pub wide_runs : All (IsRun g.net) g.wide
  pub cell_runs : (column row : ℕ) → All (IsRun g.net) (runs_at g column row)
  pub complete : (e i : ℕ) → HasEdge g.net e → i + 1 < length (edge_line g.net e) → StandsFor g e i

-- runs of the network, among them one for each segment whose box has a place in the square of half
-- side `reach` round p with a squared distance of at most `far2`
pub record AreHits (g : GridOf) (p : Point) (reach far2 : ℕ) (runs : List Run) : Type 0 where
  pub are_runs : All (IsRun g.net) runs
  pub complete : (e i : ℕ) → HasEdge g.net e → i + 1 < length (edge_line g.net e) → (q : Point)
      → InBox (point_at (edge_line g.net e) i) (point_at (edge_line g.net e) (i + 1)) q
      → InSquare p reach q → distance2 p q ≤ far2 → HasRunFor g.net runs e i

-- no segment has a box with a place in the square of half side `reach` round p
abbrev pub HasNoneWithin : Net → Point → ℕ → Type 0
HasNoneWithin net p reach =
    (e i : ℕ) → HasEdge net e → i + 1 < length (edge_line net e) → (q : Point)
    → InBox (point_at (edge_line net e) i) (point_at (edge_line net e) (i + 1)) q
    → InSquare p reach q → ⊥

-- the list has each edge with a segment whose box meets the square of half side `reach` round p
abbrev pub ContainsNear : Net → Point → ℕ → List EdgeId → Type 0
ContainsNear net p reach edges =
    (e : ℕ) → HasEdge net e → LineMeetsSquare (edge_line net e) p reach
    → Contains edges (record { 0 = e })
