-- The bounded table of an origin: for every node that a walk of length at most the bound reaches,
-- the length and the last edge of its least walk.
use Rattle.std.specs.Prelude.{ℕ, ◌+◌, ◌≡◌, ◌≤◌, ◌==◌, if◌then◌else◌, List, [], ◌∷◌, Option, Some, None}
use Rattle.std.specs.Option.{IsSome, option_map}
use Rattle.road_network.specs.Net.{Net}
use Rattle.road_network.specs.Walk.{IsWalk, IsLeastWalk, walk_length}
use Rattle.road_network.specs.declared.EdgeId.{EdgeId}
use Rattle.bounded_table.specs.declared.table_row.Label.{Label}
use Rattle.bounded_table.specs.declared.table_row.Entry.{Entry}

-- the last edge of a walk that has one
abbrev pub last_edge : List ℕ → Option EdgeId
last_edge [] = None
last_edge (e ∷ w) = Some (record { 0 = e })

-- l has the length and the last edge of the least walk from s to v, which is within the bound
pub record IsLabelOf (n : Net) (bound s v : ℕ) (l : Label) : Type 0 where
  pub walk : List ℕ
  pub least : IsLeastWalk n s walk v
  pub distance : l.distance ≡ walk_length n walk
  pub last : l.last ≡ last_edge walk
  pub within : l.distance ≤ bound

-- the table of origin s: it lists exactly the nodes that a walk within the bound reaches, each with its label
pub record IsTable (n : Net) (bound s : ℕ) (table : ℕ → Option Label) : Type 0 where
  pub reached : (v : ℕ) (w : List ℕ) → IsWalk n s w v → walk_length n w ≤ bound → IsSome (table v)
  pub listed : (v : ℕ) (l : Label) → table v ≡ Some l → IsLabelOf n bound s v l

-- the rows of all origins of a network within a bound
pub record BoundedTable : Type 0 where
  pub network : Net
  pub bound : ℕ

-- a row as contracts see it
pub record TableRow : Type 0 where
  pub origin : ℕ
  pub entries : List Entry

-- what an entry says of its node
abbrev pub label_of : Entry → Label
label_of x = record { distance = x.distance; last = x.last }

-- the entry of a node, the first if there are several
abbrev pub entry_in : List Entry → ℕ → Option Entry
entry_in [] v = None
entry_in (x ∷ entries) v = if x.node.0 == v then Some x else entry_in entries v

-- the label of a node in a list of entries
abbrev pub label_in : List Entry → ℕ → Option Label
label_in entries v = option_map label_of (entry_in entries v)

-- the nodes rise strictly, from b on
abbrev pub RisesFrom : ℕ → List Entry → Type 0
RisesFrom b [] = Unit {0}
RisesFrom b (x ∷ entries) = (b ≤ x.node.0) × RisesFrom (x.node.0 + 1) entries

-- the row of origin s: its table, by rising node number
pub record IsRow (n : Net) (bound s : ℕ) (row : TableRow) : Type 0 where
  pub origin : row.origin ≡ s
  pub rising : RisesFrom 0 row.entries
  pub table : IsTable n bound s (label_in row.entries)

-- the row of origin s within some bound between `reach` and `bound`
pub record IsNearRow (n : Net) (reach bound s : ℕ) (row : TableRow) : Type 0 where
  pub within : ℕ
  pub reaches : reach ≤ within
  pub no_further : within ≤ bound
  pub is : IsRow n within s row
