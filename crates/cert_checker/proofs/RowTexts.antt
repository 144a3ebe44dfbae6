-- The rows of nodes of a network have lines.
use Rattle.std.proofs.Common.{◌<◌, ◌≤◌, ℕ, zero, suc, ◌+◌, ◌==◌, ◌^◌, Bool, true, false, cond, List, [], ◌∷◌, ◌++◌, length, map, Option, Some, None, IfSome, refl, arith}
use Rattle.std.specs.List.{AllByRecursion, filter, range_with_len}
use Rattle.std.proofs.lemmas.List.{length-map}
use Rattle.bounded_table.specs.RowValue.{arrives, entries_from, first_arriving, label_within, or_edge, or_label, row_of, rows_where}
use Rattle.bounded_table.specs.Closed.{origin_label}
use Rattle.bounded_table.specs.RowValue.{entry_of}
use Rattle.bounded_table.specs.Table.{TableRow}
use Rattle.bounded_table.specs.declared.table_row.Label.{Label}
use Rattle.bounded_table.proofs.RowChecks.{rules_of_row}
use Rattle.bounded_table.proofs.RowValues.{row_of_is}
use Rattle.road_network.specs.Net.{HasNode, IsLawful, Net}
use Rattle.road_network.specs.declared.EdgeId.{EdgeId}
use Rattle.row_text.specs.Laws.{EntryFits, IsRowValue}
use Rattle.potential_certificate.specs.HasText.{AreRowValuesFrom}

-- a label of at most this distance, by one of the first so many edges
abbrev IsWithin : ℕ → ℕ → Option Label → Type 0
IsWithin bound count None = Unit {0}
IsWithin bound count (Some l) = (l.distance ≤ bound) × IfSome l.last (λ e. e.0 < count)

edge_more : (found : Option EdgeId) (b : Bool) (k : ℕ) → IfSome found (λ e. e.0 < k) → IfSome (or_edge found b k) (λ e. e.0 < suc k)
edge_more (Some f) b k h = omega (arith, h)
edge_more None true k h = omega arith
edge_more None false k h = tt

first_below : (n : Net) (table : ℕ → Option Label) (v d k : ℕ) → IfSome (first_arriving n table v d k) (λ e. e.0 < k)
first_below n table v d zero = tt
first_below n table v d (suc k) = edge_more (first_arriving n table v d k) (arrives n table v d k) k (first_below n table v d k)

label_more : (bound count d : ℕ) (x : Option Label) (e : Option EdgeId) → d ≤ bound → IsWithin bound count x → IfSome e (λ f. f.0 < count) → IsWithin bound count (or_label x e d)
label_more bound count d (Some l) e le h k = h
label_more bound count d None (Some e) le h k = (le, k)
label_more bound count d None None le h k = tt

origin_within : (bound count : ℕ) (b : Bool) → IsWithin bound count (cond b (Some origin_label) None)
origin_within bound count true = (omega arith, tt)
origin_within bound count false = tt

labels_within : (n : Net) (bound s d v : ℕ) → d ≤ bound → IsWithin bound (length n.edges) (label_within n s d v)
labels_within n bound s zero v le = origin_within bound (length n.edges) (v == s)
labels_within n bound s (suc d) v le =
    label_more bound (length n.edges) (suc d) (label_within n s d v) (first_arriving n (label_within n s d) v (suc d) (length n.edges)) le
    (labels_within n bound s d v (omega (arith, le))) (first_below n (label_within n s d) v (suc d) (length n.edges))

all_append : {X : Type 0} (P : X → Type 0) (xs ys : List X) → AllByRecursion P xs → AllByRecursion P ys → AllByRecursion P (xs ++ ys)
all_append P [] ys h k = k
all_append P (x ∷ xs) ys h k = (h.0, all_append P xs ys h.1 k)

last_fits : (count : ℕ) (o : Option EdgeId) → count < 2 ^ 32 → IfSome o (λ e. e.0 < count) → IfSome o (λ e. e.0 < 2 ^ 32)
last_fits count None few h = tt
last_fits count (Some e) few h = omega (arith, few, h)

entry_fits : (bound count v : ℕ) (o : Option Label) → bound < 2 ^ 32 → count < 2 ^ 32 → v < 2 ^ 32 → IsWithin bound count o → AllByRecursion EntryFits (entry_of v o)
entry_fits bound count v None short few low h = tt
entry_fits bound count v (Some l) short few low h =
    let le = h.0 in
    (record { node = low; distance = omega (arith, le, short); last = last_fits count l.last few h.1 }, tt)

entries_fit : (bound count v k : ℕ) (table : ℕ → Option Label) → bound < 2 ^ 32 → count < 2 ^ 32 → v + k < 2 ^ 32 → ((u : ℕ) → IsWithin bound count (table u))
    → AllByRecursion EntryFits (entries_from table v k)
entries_fit bound count v zero table short few low h = tt
entries_fit bound count v (suc k) table short few low h =
    all_append EntryFits (entry_of v (table v)) (entries_from table (v + 1) k) (entry_fits bound count v (table v) short few (omega (arith, low)) (h v))
    (entries_fit bound count (v + 1) k table short few (omega (arith, low)) h)

row_value : (n : Net) (bound v : ℕ) → IsLawful n → bound ≤ 10_000_000 → HasNode n v → IsRowValue (row_of n bound v)
row_value n bound v lawful short node =
    let nodes = lawful.few_nodes in
    let edges = lawful.few_edges in
    record {
      rules = rules_of_row n bound v (row_of n bound v) lawful (row_of_is n bound v lawful node);
      origin = omega (arith, node, nodes);
      entries = entries_fit bound (length n.edges) 0 (length n.nodes) (label_within n v bound) (omega (arith, short)) (omega (arith, edges)) (omega (arith, nodes))
          (λ u. labels_within n bound v bound u (omega arith));
    }

-- from a node on
abbrev rows_on : Net → ℕ → (ℕ → Bool) → ℕ → ℕ → List TableRow
rows_on n bound test from m = map (row_of n bound) (filter test (range_with_len from m))

below_too : (least from : ℕ) (rows : List TableRow) → least ≤ from → AreRowValuesFrom from rows → AreRowValuesFrom least rows
below_too least from [] le h = tt
below_too least from (row ∷ rows) le h = let low = h.1 in (h.0, omega (arith, low, le), h.2)

one_more_row : (n : Net) (bound v : ℕ) (b : Bool) (nodes : List ℕ) → IsRowValue (row_of n bound v) → AreRowValuesFrom (v + 1) (map (row_of n bound) nodes)
    → AreRowValuesFrom v (map (row_of n bound) (cond b (v ∷ nodes) nodes))
one_more_row n bound v true nodes here h = (here, omega arith, h)
one_more_row n bound v false nodes here h = below_too v (v + 1) (map (row_of n bound) nodes) (omega arith) h

rows_from : (n : Net) (bound : ℕ) (test : ℕ → Bool) (from m : ℕ) → IsLawful n → bound ≤ 10_000_000 → from + m ≤ length n.nodes → AreRowValuesFrom from (rows_on n bound test from m)
rows_from n bound test from zero lawful short le = tt
rows_from n bound test from (suc m) lawful short le =
    one_more_row n bound from (test from) (filter test (range_with_len (from + 1) m)) (row_value n bound from lawful short (omega (arith, le)))
    (rows_from n bound test (from + 1) m lawful short (omega (arith, le)))

pub rows_have_lines : (n : Net) (bound : ℕ) (test : ℕ → Bool) → IsLawful n → bound ≤ 10_000_000 → AreRowValuesFrom 0 (rows_where n bound test)
rows_have_lines n bound test lawful short = rows_from n bound test 0 (length n.nodes) lawful short (omega arith)

one_longer : (v m : ℕ) (b : Bool) (nodes : List ℕ) → length nodes ≤ m → length (cond b (v ∷ nodes) nodes) ≤ suc m
one_longer v m true nodes le = omega (arith, le)
one_longer v m false nodes le = omega (arith, le)

nodes_few : (test : ℕ → Bool) (from m : ℕ) → length (filter test (range_with_len from m)) ≤ m
nodes_few test from zero = omega arith
nodes_few test from (suc m) = one_longer from m (test from) (filter test (range_with_len (from + 1) m)) (nodes_few test (from + 1) m)

pub rows_are_few : (n : Net) (bound : ℕ) (test : ℕ → Bool) → IsLawful n → length (rows_where n bound test) < 2 ^ 32
rows_are_few n bound test lawful =
    let nodes = filter test (range_with_len 0 (length n.nodes)) in
    let few = nodes_few test 0 (length n.nodes) in
    let all = lawful.few_nodes in
    omega (arith, few, all, length-map nodes (row_of n bound))
