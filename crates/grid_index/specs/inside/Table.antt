-- The table of a grid: which runs are at which slots.
use Rattle.std.specs.Prelude.{ℕ, ◌≡◌, ◌+◌, ◌*◌, ◌<◌, ◌≤◌, List, length, map, slice_index, slice_index_or, slice_range}
use Rattle.std.specs.List.{All, Contains, range_with_len}
use Rattle.polyline_geometry.specs.declared.plane.Point.{Point}
use Rattle.road_network.specs.Net.{Net}
use Rattle.grid_index.specs.declared.runs.Run.{Run}
use Rattle.grid_index.specs.declared.table.Table.{Table}
use Rattle.grid_index.specs.Runs.{HasCorners, IsNearRun, IsRun}
use Rattle.grid_index.specs.GridOf.{GridOf, IsGrid, runs_at}

-- each slot of a table of this width has a part of the members
pub record HasSlots (width : ℕ) (starts : List ℕ) (members : List Run) : Type 0 where
  pub count : length starts ≡ width * width + 1
  pub order : (s : ℕ) → s < width * width → slice_index starts s ≤ slice_index starts (s + 1)
  pub within : (s : ℕ) → s < width * width → slice_index starts (s + 1) ≤ length members
  pub corners : All HasCorners members

-- the runs at a slot
abbrev pub members_at : List ℕ → List Run → ℕ → List Run
members_at starts members s =
    slice_range members (slice_index starts s) (slice_index starts (s + 1))

-- the rows of slots of a table of this width, each slot with its runs
abbrev pub rows_of : ℕ → List ℕ → List Run → List (List (List Run))
rows_of width starts members =
    map (λ row. map (λ column. members_at starts members (row * width + column)) (range_with_len 0 width))
    (range_with_len 0 width)

-- the grid of a network that has the runs of a table
abbrev pub grid_of : Net → Table → GridOf
grid_of net t = record {
  net = net;
  side = t.layout.side;
  rows = rows_of t.layout.width t.starts.items t.members.items;
  wide = t.wide.items;
}

abbrev pub HasParts : Table → Type 0
HasParts t = HasSlots t.layout.width t.starts.items t.members.items

-- the slots of the table have their parts, and the runs in them are a grid of the network
pub record IsTableOf (net : Net) (t : Table) : Type 0 where
  pub parts : HasParts t
  pub grid : IsGrid (grid_of net t)

-- the list has what it had, and the run where it is near
pub record AppendsOne (p : Point) (far2 : ℕ) (old new : List Run) (run : Run) : Type 0 where
  pub keeps : (r : Run) → Contains old r → Contains new r
  pub here : IsNearRun p far2 run → Contains new run
  pub are_runs : (net : Net) → IsRun net run → All (IsRun net) old → All (IsRun net) new

-- the list has what it had, and the near ones among the first `count` runs
pub record Appends (p : Point) (far2 : ℕ) (old new runs : List Run) (count : ℕ) : Type 0 where
  pub keeps : (r : Run) → Contains old r → Contains new r
  pub appended : (i : ℕ) (d : Run) → i < count → IsNearRun p far2 (slice_index_or runs i d)
      → Contains new (slice_index_or runs i d)
  pub are_runs : (net : Net) → All (IsRun net) runs → All (IsRun net) old → All (IsRun net) new

-- the list has what it had, and the near ones among the runs at the cells of these columns and
-- rows; `right` and `top` are one past the last
pub record Gathers (g : GridOf) (p : Point) (far2 : ℕ) (old new : List Run)
    (left right bottom top : ℕ) : Type 0 where
  pub keeps : (r : Run) → Contains old r → Contains new r
  pub gathered : (c r : ℕ) → left ≤ c → c < right → bottom ≤ r → r < top → (run : Run)
      → Contains (runs_at g c r) run → IsNearRun p far2 run → Contains new run
  pub are_runs : ((c r : ℕ) → All (IsRun g.net) (runs_at g c r)) → All (IsRun g.net) old
      → All (IsRun g.net) new
