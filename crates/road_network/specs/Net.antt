-- What a network is to every contract: its nodes with their names, and its edges in the order
-- of the file.
use Rattle.std.specs.Prelude.{ℕ, zero, suc, ◌≡◌, ◌<◌, ◌≤◌, ◌==◌, ◌++◌, ◌∷◌, [], if◌then◌else◌, List, length, slice_index, slice_index_or}
use Rattle.std.specs.List.{Contains, sum_by}
use Rattle.polyline_geometry.specs.declared.plane.Point.{Point}
use Rattle.polyline_geometry.specs.Plane.{IsLine, line_length}
use Rattle.road_network.specs.declared.Arc.{Arc}
use Rattle.road_network.specs.declared.EdgeId.{EdgeId}

-- a directed edge: its name in the file, the numbers of its two nodes, and its line
pub record Edge : Type 0 where
  pub name : ℕ
  pub «from» : ℕ
  pub to : ℕ
  pub line : List Point

-- a network: node v is the one at place v of `nodes`, the list of their names in the file, and edge
-- e is the one at place e of `edges`
pub record Net : Type 0 where
  pub nodes : List ℕ
  pub edges : List Edge

-- the network has a node of this number, and an edge of this number
abbrev pub HasNode : Net → ℕ → Type 0
HasNode n v = v < length n.nodes

abbrev pub HasEdge : Net → ℕ → Type 0
HasEdge n e = e < length n.edges

-- the value for an edge that the network does not have
abbrev pub no_edge : Edge
no_edge = record { name = 0; «from» = 0; to = 0; line = [] }

abbrev pub edge_at : Net → ℕ → Edge
edge_at n e = slice_index_or n.edges e no_edge

-- the node's name in the file
abbrev pub node_name : Net → ℕ → ℕ
node_name n v = slice_index n.nodes v

-- the edge's name in the file
abbrev pub edge_name : Net → ℕ → ℕ
edge_name n e = (edge_at n e).name

-- the node where an edge begins, and the node where it ends
abbrev pub source : Net → ℕ → ℕ
source n e = (edge_at n e).«from»

abbrev pub target : Net → ℕ → ℕ
target n e = (edge_at n e).to

-- the line of an edge
abbrev pub edge_line : Net → ℕ → List Point
edge_line n e = (edge_at n e).line

-- the length of an edge
abbrev pub span : Net → ℕ → ℕ
span n e = line_length (edge_line n e)

-- how many points the lines of some edges have together
abbrev pub point_count : List Edge → ℕ
point_count edges = sum_by (λ e. length e.line) edges

-- what every network that was read meets, within any limits
pub record IsLawful (n : Net) : Type 0 where
  pub few_nodes : length n.nodes ≤ 1_000_000_000
  pub few_edges : length n.edges ≤ 1_000_000_000
  pub few_points : point_count n.edges ≤ 4_000_000_000
  pub sources : (e : ℕ) → HasEdge n e → HasNode n (source n e)
  pub targets : (e : ℕ) → HasEdge n e → HasNode n (target n e)
  pub lines : (e : ℕ) → HasEdge n e → IsLine (edge_line n e)
  pub short_lines : (e : ℕ) → HasEdge n e → length (edge_line n e) ≤ 1_000_000
  pub not_empty : (e : ℕ) → HasEdge n e → 1 ≤ span n e
  pub not_long : (e : ℕ) → HasEdge n e → span n e ≤ 100_000_000
  pub names_differ : (e f : ℕ) → HasEdge n e → HasEdge n f → edge_name n e ≡ edge_name n f → e ≡ f

-- the edges below e that begin at node v, by rising number
abbrev pub leaving_below : Net → ℕ → ℕ → List EdgeId
leaving_below n v zero = []
leaving_below n v (suc e) =
    if source n e == v then leaving_below n v e ++ (record { 0 = e } ∷ []) else leaving_below n v e

-- the edges that begin at node v, by rising number
abbrev pub leaving : Net → ℕ → List EdgeId
leaving n v = leaving_below n v (length n.edges)

-- each edge that begins at node v is in the list
abbrev pub ContainsLeaving : Net → ℕ → List EdgeId → Type 0
ContainsLeaving n v edges =
    (e : ℕ) → HasEdge n e → source n e ≡ v → Contains edges (record { 0 = e })

-- an edge with its length and the node where it ends
abbrev pub arc_of : Net → EdgeId → Arc
arc_of n e = record { edge = e; length = span n e.0; to = record { 0 = target n e.0 } }
