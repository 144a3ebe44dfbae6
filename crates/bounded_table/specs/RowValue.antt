-- The row of an origin as a value. Nothing computes it: `IsRow` says what it is, and the law `RowValues` that it is that row.
use Rattle.std.specs.Prelude.{ℕ, zero, suc, ◌+◌, ◌==◌, ◌&&◌, Bool, true, false, if◌then◌else◌, List, [], ◌∷◌, ◌++◌, length, map, Option, Some, None}
use Rattle.std.specs.List.{filter, range_with_len}
use Rattle.road_network.specs.Net.{Net, source, target, span}
use Rattle.road_network.specs.declared.EdgeId.{EdgeId}
use Rattle.bounded_table.specs.declared.table_row.Entry.{Entry}
use Rattle.bounded_table.specs.declared.table_row.Label.{Label}
use Rattle.bounded_table.specs.Closed.{origin_label}
use Rattle.bounded_table.specs.Table.{TableRow}

-- whether a label and an edge's length add up to distance d
abbrev pub adds_up : Option Label → ℕ → ℕ → Bool
adds_up None length d = false
adds_up (Some l) length d = (l.distance + length) == d

-- whether edge e leads from a listed node to node v at distance d
abbrev pub arrives : Net → (ℕ → Option Label) → ℕ → ℕ → ℕ → Bool
arrives n table v d e = (target n e == v) && adds_up (table (source n e)) (span n e) d

-- the edge that was found, or else edge e where it arrives
abbrev pub or_edge : Option EdgeId → Bool → ℕ → Option EdgeId
or_edge (Some f) arrives e = Some f
or_edge None true e = Some (record { 0 = e })
or_edge None false e = None

-- the earliest of the first k edges that leads to node v at distance d
abbrev pub first_arriving : Net → (ℕ → Option Label) → ℕ → ℕ → ℕ → Option EdgeId
first_arriving n table v d zero = None
first_arriving n table v d (suc k) = or_edge (first_arriving n table v d k) (arrives n table v d k) k

-- the label that a node had, or else the one at distance d by an edge
abbrev pub or_label : Option Label → Option EdgeId → ℕ → Option Label
or_label (Some l) e d = Some l
or_label None (Some e) d = Some (record { distance = d; last = Some e })
or_label None None d = None

-- the label of node v in the table of origin s within bound d: a node that is not listed within d is listed at d + 1 by the first edge that arrives there
abbrev pub label_within : Net → ℕ → ℕ → ℕ → Option Label
label_within n s zero v = if v == s then Some origin_label else None
label_within n s (suc d) v =
    or_label (label_within n s d v) (first_arriving n (label_within n s d) v (suc d) (length n.edges)) (suc d)

-- the entry that a node gives, where it is labelled
abbrev pub entry_of : ℕ → Option Label → List Entry
entry_of v None = []
entry_of v (Some l) = record { node = record { 0 = v }; distance = l.distance; last = l.last } ∷ []

-- the entries of k nodes from node v on, where they are labelled
abbrev pub entries_from : (ℕ → Option Label) → ℕ → ℕ → List Entry
entries_from table v zero = []
entries_from table v (suc k) = entry_of v (table v) ++ entries_from table (v + 1) k

-- the row of origin s
abbrev pub row_of : Net → ℕ → ℕ → TableRow
row_of n bound s = record { origin = s; entries = entries_from (label_within n s bound) 0 (length n.nodes) }

-- the rows of those nodes that pass a test, by rising number
abbrev pub rows_where : Net → ℕ → (ℕ → Bool) → List TableRow
rows_where n bound test = map (row_of n bound) (filter test (range_with_len 0 (length n.nodes)))
