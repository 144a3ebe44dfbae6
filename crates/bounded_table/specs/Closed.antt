-- The local form of a table: what can be seen of it at one entry and one edge at a time.
-- A table is that of its origin exactly where it is closed (`closed_tables`).
use Rattle.std.specs.Prelude.{ℕ, ◌≡◌, ◌+◌, ◌<◌, ◌≤◌, ◌≢◌, ◌⊎◌, Option, Some, None}
use Rattle.road_network.specs.Net.{Net, HasEdge, source, target, span}
use Rattle.road_network.specs.declared.EdgeId.{EdgeId}
use Rattle.bounded_table.specs.declared.table_row.Label.{Label}

-- the label of an origin
abbrev pub origin_label : Label
origin_label = record { distance = 0; last = None }

-- l is reached by its last edge: from a listed node, at the distance of that node and the edge's length
pub record IsReached (n : Net) (table : ℕ → Option Label) (v : ℕ) (l : Label) : Type 0 where
  pub edge : ℕ
  pub has : HasEdge n edge
  pub ends : target n edge ≡ v
  pub before : Label
  pub listed : table (source n edge) ≡ Some before
  pub distance : before.distance + span n edge ≡ l.distance
  pub last : l.last ≡ Some (record { 0 = edge })

-- l is shorter than d, or as long with a last edge no later in the file than e
abbrev pub IsNoWorse : Label → ℕ → ℕ → Type 0
IsNoWorse l d e = (l.distance < d) ⊎ ((x : EdgeId) × (l.distance ≡ d) × (l.last ≡ Some x) × (x.0 ≤ e))

-- node v is listed, no worse than by edge e at distance d
pub record IsListedBy (table : ℕ → Option Label) (v e d : ℕ) : Type 0 where
  pub label : Label
  pub listed : table v ≡ Some label
  pub no_worse : IsNoWorse label d e

-- so is the node where edge e ends
abbrev pub IsRelaxed : Net → (ℕ → Option Label) → ℕ → ℕ → Type 0
IsRelaxed n table e d = IsListedBy table (target n e) e d

-- edge e leads beyond the bound from distance d, or is relaxed
abbrev pub IsRelaxedWithin : Net → ℕ → (ℕ → Option Label) → ℕ → ℕ → Type 0
IsRelaxedWithin n bound table e d = d + span n e ≤ bound → IsRelaxed n table e (d + span n e)

-- so is every edge out of node v, listed at distance d
abbrev pub LeavesRelaxed : Net → ℕ → (ℕ → Option Label) → ℕ → ℕ → Type 0
LeavesRelaxed n bound table v d = (e : ℕ) → HasEdge n e → source n e ≡ v → IsRelaxedWithin n bound table e d

-- what a closed table has at each label
pub record IsClosedAt (n : Net) (bound s : ℕ) (table : ℕ → Option Label) (v : ℕ) (l : Label) : Type 0 where
  pub within : l.distance ≤ bound
  pub reached : v ≢ s → IsReached n table v l
  pub relaxed : LeavesRelaxed n bound table v l.distance

-- the origin is listed at distance 0, every other label is reached by its last edge, and every edge is relaxed
pub record IsClosed (n : Net) (bound s : ℕ) (table : ℕ → Option Label) : Type 0 where
  pub origin : table s ≡ Some origin_label
  pub closed : (v : ℕ) (l : Label) → table v ≡ Some l → IsClosedAt n bound s table v l
