-- Labels that edges give: how many of a row's labels are reached by their last edges is counted at those edges.
use Rattle.std.specs.Prelude.{ℕ, ◌≡◌, ◌+◌, ◌≤◌, ◌==◌, ◌&&◌, Bool, false, nat_le, List, Option, Some, None, length}
use Rattle.std.specs.List.{All, count_by, sum_by}
use Rattle.road_network.specs.Net.{Net, HasNode, arc_of, leaving}
use Rattle.road_network.specs.declared.Arc.{Arc}
use Rattle.road_network.specs.declared.EdgeId.{EdgeId}
use Rattle.bounded_table.specs.declared.table_row.Entry.{Entry}
use Rattle.bounded_table.specs.declared.table_row.Label.{Label}
use Rattle.bounded_table.specs.Closed.{IsListedBy, LeavesRelaxed}
use Rattle.bounded_table.specs.Table.{label_in}

-- whether a last edge is edge e
abbrev pub is_edge : Option EdgeId → ℕ → Bool
is_edge None e = false
is_edge (Some x) e = x.0 == e

-- whether a label is listed that has distance d and last edge e
abbrev pub is_label_by : Option Label → ℕ → ℕ → Bool
is_label_by None d e = false
is_label_by (Some l) d e = (l.distance == d) && is_edge l.last e

-- whether an arc gives its end the label listed there, from distance d and within the bound
abbrev pub arc_gives : ℕ → (ℕ → Option Label) → ℕ → Arc → Bool
arc_gives bound table d a = nat_le (d + a.length) bound && is_label_by (table a.to.0) (d + a.length) a.edge.0

-- whether edge e does
abbrev pub gives : Net → ℕ → (ℕ → Option Label) → ℕ → ℕ → Bool
gives n bound table d e = arc_gives bound table d (arc_of n (record { 0 = e }))

-- how many labels the edges out of an entry's node give
abbrev pub given_by : Net → ℕ → List Entry → Entry → ℕ
given_by n bound entries x = count_by (λ e. gives n bound (label_in entries) x.distance e.0) (leaving n x.node.0)

-- an arc leads beyond the bound from distance d, or is relaxed
abbrev pub IsArcRelaxed : ℕ → (ℕ → Option Label) → ℕ → Arc → Type 0
IsArcRelaxed bound table d a = d + a.length ≤ bound → IsListedBy table a.to.0 a.edge.0 (d + a.length)

-- an entry's node is the network's, its distance is within the bound, and the edges out of it are relaxed
pub record IsRelaxedAt (n : Net) (bound : ℕ) (table : ℕ → Option Label) (x : Entry) : Type 0 where
  pub node : HasNode n x.node.0
  pub within : x.distance ≤ bound
  pub relaxed : LeavesRelaxed n bound table x.node.0 x.distance

-- so it is with each entry, and all labels but one are given
pub record IsGiven (n : Net) (bound : ℕ) (entries : List Entry) : Type 0 where
  pub each : All (IsRelaxedAt n bound (label_in entries)) entries
  pub all : sum_by (given_by n bound entries) entries + 1 ≡ length entries
