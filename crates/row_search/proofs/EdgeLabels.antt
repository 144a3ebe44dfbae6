-- Labels as if each had a last edge, and the entry of the origin, which has none.
use Rattle.std.proofs.Common.{◌≡◌, ◌≢◌, ℕ, zero, suc, ◌+◌, ◌-◌, ◌/◌, ◌%◌, ◌^◌, ◌<◌, inl, inr, List, [], ◌∷◌, length, length-set, set, get_or-set_same, slice_index_or, Option, Some, None, refl, sym, ap, subst, ◌∙◌, arith}
use Rattle.std.proofs.lemmas.Bool.{cases_eq, eq-eqb, ne_eqb}
use Rattle.std.proofs.lemmas.Bool.Decides.{eqb_tells}
use Rattle.std.specs.Option.{option_map}
use Rattle.road_network.specs.Net.{Net, IsLawful}
use Rattle.road_network.specs.declared.EdgeId.{EdgeId}
use Rattle.row_search.specs.declared.queue.Waiting.{Waiting}
use Rattle.bounded_table.specs.declared.table_row.Entry.{Entry}
use Rattle.bounded_table.specs.declared.table_row.Label.{Label}
use Rattle.bounded_table.specs.LabelWords.{label_at, label_in_word, no_label, word_at}
use Rattle.row_search.specs.inside.Labels.{edge_label_at, edge_label_in}
use Rattle.bounded_table.specs.Closed.{IsClosed, origin_label}
use Rattle.row_search.specs.inside.Searching.{ListsLabels}
use Rattle.bounded_table.specs.Table.{IsRow, RisesFrom, entry_in, label_in, label_of}
use Rattle.row_search.specs.inside.Underway.{IsHeld, IsUnderway, NonePending}
use Rattle.bounded_table.proofs.LabelWords.{last_there}
use Rattle.bounded_table.proofs.RowChecks.{entry_at}
use Rattle.row_search.proofs.RowOfLabels.{row_of_labels}
use Rattle.row_search.proofs.WrittenWords.{edge_small}

-- a word that is not that of no label has such a label
pub edge_label_there : (bound word : ℕ) → word ≢ no_label bound → edge_label_in bound word ≡ Some (record { distance = word / 2 ^ 32; last = Some (record { 0 = word % 2 ^ 32 }) })
edge_label_there bound word apart = elim (eqb_tells word (no_label bound)) [ inl t ↦ absurd (apart t.1) | inr t ↦ rw t.0 refl ]

-- and that of no label has none
pub none_by_edge : (bound word : ℕ) → word ≡ no_label bound → edge_label_in bound word ≡ None
none_by_edge bound word is = rw (eq-eqb word (no_label bound) is) refl

-- with a last edge it is the label
same_by_edge : (bound word : ℕ) → (word ≢ no_label bound → word % 2 ^ 32 < 2 ^ 32 - 1) → edge_label_in bound word ≡ label_in_word bound word
same_by_edge bound word low = elim (eqb_tells word (no_label bound)) [
  | inl t ↦ rw t.0 refl
  | inr t ↦ rw t.0 (ap (λ (o : Option EdgeId). Some (record { distance = word / 2 ^ 32; last = o })) (sym (last_there (word % 2 ^ 32) (low t.1))))
]

-- only the origin's label has none
pub others_have_edges : (n : Net) (bound s : ℕ) (words : List ℕ) (queue : List Waiting) → IsLawful n → IsUnderway n bound s (record { words = words; queue = queue }) NonePending → (v : ℕ) → v ≢ s → edge_label_at bound words v ≡ label_at bound words v
others_have_edges n bound s words queue lawful under v apart = same_by_edge bound (word_at bound words v) (λ there.
    let h : IsHeld n bound words v = under.held v there apart in
    let small : h.edge < 2 ^ 32 - 1 = edge_small n h.edge lawful h.has in
    omega (arith, h.last, small))

-- another entry of the same node at its place
pub rises_written : (b : ℕ) (row : List Entry) (k : ℕ) (x d : Entry) → RisesFrom b row → k < length row → (slice_index_or row k d).node.0 ≡ x.node.0 → RisesFrom b (set row k x)
rises_written b [] k x d rising lt same = absurd (omega (arith, lt))
rises_written b (y ∷ row) zero x d rising lt same = (omega (arith, rising.0, same), subst (λ (v : ℕ). RisesFrom (v + 1) row) same rising.1)
rises_written b (y ∷ row) (suc k) x d rising lt same = (rising.0, rises_written (y.node.0 + 1) row k x d rising.1 (omega (arith, lt)) same)

pub others_stay : (row : List Entry) (k : ℕ) (x d : Entry) (v : ℕ) → k < length row → (slice_index_or row k d).node.0 ≡ x.node.0 → v ≢ x.node.0 → label_in (set row k x) v ≡ label_in row v
others_stay [] k x d v lt same apart = absurd (omega (arith, lt))
others_stay (y ∷ row) zero x d v lt same apart = rw (ne_eqb x.node.0 v (λ is. apart (sym is)), ne_eqb y.node.0 v (λ is. apart (sym is ∙ same))) refl
others_stay (y ∷ row) (suc k) x d v lt same apart = elim (eqb_tells y.node.0 v) [
  | inl t ↦ rw t.0 refl
  | inr t ↦ rw t.0 (others_stay row k x d v (omega (arith, lt)) same apart)
]

pub own_written : (row : List Entry) (k : ℕ) (x d : Entry) → RisesFrom 0 (set row k x) → k < length row → label_in (set row k x) x.node.0 ≡ Some (label_of x)
own_written row k x d rising lt =
    let here : slice_index_or (set row k x) k d ≡ x = get_or-set_same row k x d lt in
    let at : entry_in (set row k x) (slice_index_or (set row k x) k d).node.0 ≡ Some (slice_index_or (set row k x) k d) = entry_at 0 (set row k x) rising k d (omega (arith, lt, length-set row k x)) in
    ap (option_map label_of) (subst (λ (y : Entry). entry_in (set row k x) y.node.0 ≡ Some y) here at)

-- entries as if each had a last edge, with that of the origin written anew, are the row
pub row_by_edges : (n : Net) (bound s : ℕ) (words : List ℕ) (queue : List Waiting) (entries new : List Entry) → IsLawful n → IsUnderway n bound s (record { words = words; queue = queue }) NonePending → IsClosed n bound s (label_at bound words) → ListsLabels (edge_label_at bound words) entries → RisesFrom 0 new → label_in new s ≡ Some origin_label → ((v : ℕ) → v ≢ s → label_in new v ≡ label_in entries v) → IsRow n bound s (record { origin = s; entries = new })
row_by_edges n bound s words queue entries new lawful under closed lists rising own others = row_of_labels n bound s words new lawful closed rising (λ v. elim (cases_eq v s) [
  | inl same ↦ ap (label_in new) same ∙ (own ∙ sym (ap (label_at bound words) same ∙ closed.origin))
  | inr apart ↦ others v apart ∙ (lists.same v ∙ others_have_edges n bound s words queue lawful under v apart)
])

-- the origin is listed
pub origin_listed : (n : Net) (bound s : ℕ) (words : List ℕ) (queue : List Waiting) (entries : List Entry) → IsUnderway n bound s (record { words = words; queue = queue }) NonePending → ListsLabels (edge_label_at bound words) entries → (l : Label) × (label_in entries s ≡ Some l)
origin_listed n bound s words queue entries under lists =
    let word : ℕ = word_at bound words s in
    (record { distance = word / 2 ^ 32; last = Some (record { 0 = word % 2 ^ 32 }) }, lists.same s ∙ edge_label_there bound word (λ none. omega (arith, none, under.origin)))
