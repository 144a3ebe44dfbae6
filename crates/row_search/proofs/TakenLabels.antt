-- Labels that become entries, node by node.
use Rattle.std.proofs.Common.{◌≡◌, ◌≢◌, ℕ, suc, ◌+◌, ◌<◌, ◌≤◌, ◌⊎◌, inl, inr, ◌++◌, List, [], ◌∷◌, cond, length, set, take, append-nil, Option, Some, None, refl, sym, ap, subst, ◌∙◌, arith}
use Rattle.std.specs.Prelude.{◌==◌, Bool, nat_lt, not}
use Rattle.std.specs.List.{All}
use Rattle.std.proofs.lemmas.Bool.{cases_eq, cases_lt, le-ltb, lt-ltb}
use Rattle.std.proofs.lemmas.Bool.Decides.{eqb_tells}
use Rattle.std.proofs.lemmas.List.{get_or_past, take-set, take_more_set}
use Rattle.std.proofs.lemmas.List.Elements.{All-push, All-weaker}
use Rattle.bounded_table.specs.declared.table_row.Entry.{Entry}
use Rattle.bounded_table.specs.declared.table_row.Label.{Label}
use Rattle.bounded_table.specs.LabelWords.{no_label, word_at}
use Rattle.row_search.specs.inside.Labels.{edge_entry_by, edge_label_at, edge_label_in}
use Rattle.bounded_table.specs.RowValue.{entry_of}
use Rattle.row_search.specs.inside.Marked.{AllTaken, IsKeptOrTaken, TakesNodes}
use Rattle.bounded_table.specs.Table.{RisesFrom, label_in}
use Rattle.bounded_table.proofs.Entries.{label_before, label_else}
use Rattle.row_search.proofs.EdgeLabels.{none_by_edge}
use Rattle.bounded_table.proofs.LabelWords.{cleared, left_over, word_elsewhere}

-- only nodes of the network have labels
pub labelled_inside : (bound : ℕ) (words : List ℕ) (v : ℕ) → word_at bound words v ≢ no_label bound → v < length words
labelled_inside bound words v there = elim (cases_lt v (length words)) [
  | inl lt ↦ lt
  | inr past ↦ absurd (there (get_or_past words v (no_label bound) past))
]

-- entries that rise, and one more
rises_more : (b : ℕ) (entries : List Entry) (x : Entry) → RisesFrom b entries → All (λ y. y.node.0 < x.node.0) entries → b ≤ x.node.0 → RisesFrom b (entries ++ x ∷ [])
rises_more b [] x rising below le = (le, tt)
rises_more b (y ∷ entries) x rising below le =
    let lt : y.node.0 < x.node.0 = below 0 x (omega arith) in
    (rising.0, rises_more (y.node.0 + 1) entries x rising.1 (λ k d inside. below (suc k) d (omega arith)) (omega arith))

entry_here : (v : ℕ) (o : Option Label) → label_in (entry_of v o) v ≡ o
entry_here v None = refl
entry_here v (Some l) = elim (eqb_tells v v) [ inl t ↦ rw t.0 refl | inr t ↦ absurd (t.1 refl) ]

entry_there : (v w : ℕ) (o : Option Label) → w ≢ v → label_in (entry_of v o) w ≡ None
entry_there v w None apart = refl
entry_there v w (Some l) apart = elim (eqb_tells v w) [ inl t ↦ absurd (apart (sym t.1)) | inr t ↦ rw t.0 refl ]

entry_rises : (v : ℕ) (entries : List Entry) (o : Option Label) → RisesFrom 0 entries → All (λ x. x.node.0 < v) entries → RisesFrom 0 (entries ++ entry_of v o) × All (λ x. x.node.0 < v + 1) (entries ++ entry_of v o)
entry_rises v entries None rising below =
    let all : All (λ x. x.node.0 < v + 1) entries = All-weaker (λ x. x.node.0 < v) (λ x. x.node.0 < v + 1) (λ x lt. omega (arith, lt)) entries below in
    (subst (RisesFrom 0) (sym (append-nil entries)) rising, subst (All (λ x. x.node.0 < v + 1)) (sym (append-nil entries)) all)
entry_rises v entries (Some l) rising below =
    let x : Entry = record { node = record { 0 = v }; distance = l.distance; last = l.last } in
    let all : All (λ x. x.node.0 < v + 1) entries = All-weaker (λ x. x.node.0 < v) (λ x. x.node.0 < v + 1) (λ x lt. omega (arith, lt)) entries below in
    (rises_more 0 entries x rising below (omega arith), All-push (λ x. x.node.0 < v + 1) entries x all (omega arith))

-- node v's label becomes its entry
kept_or_taken : (bound : ℕ) (before words : List ℕ) (entries : List Entry) (v w : ℕ) → IsKeptOrTaken bound before words entries w → IsKeptOrTaken bound before (set words v (no_label bound)) (entries ++ entry_of v (edge_label_at bound words v)) w
kept_or_taken bound before words entries v w each = elim (cases_eq w v) [
  | inl same ↦
      let gone : word_at bound (set words v (no_label bound)) w ≡ no_label bound = ap (word_at bound (set words v (no_label bound))) same ∙ cleared bound words v in
      let here : label_in (entry_of v (edge_label_at bound words v)) w ≡ edge_label_at bound words w = ap (label_in (entry_of v (edge_label_at bound words v))) same ∙ (entry_here v (edge_label_at bound words v) ∙ ap (edge_label_at bound words) (sym same)) in
      elim each [
        | inl kept ↦ inr (gone, label_else entries (entry_of v (edge_label_at bound words v)) w kept.1 ∙ (here ∙ ap (edge_label_in bound) kept.0))
        | inr taken ↦
            let none : label_in (entry_of v (edge_label_at bound words v)) w ≡ None = here ∙ none_by_edge bound (word_at bound words w) taken.0 in
            inr (gone, label_before entries (entry_of v (edge_label_at bound words v)) w none ∙ taken.1)
      ]
  | inr apart ↦
      let still : word_at bound (set words v (no_label bound)) w ≡ word_at bound words w = word_elsewhere bound words v w (no_label bound) apart in
      let same : label_in (entries ++ entry_of v (edge_label_at bound words v)) w ≡ label_in entries w = label_before entries (entry_of v (edge_label_at bound words v)) w (entry_there v w (edge_label_at bound words v) apart) in
      elim each [ inl kept ↦ inl (still ∙ kept.0, same ∙ kept.1) | inr taken ↦ inr (still ∙ taken.0, same ∙ taken.1) ]
]

-- one node's label more is taken out
pub one_more_taken : (bound : ℕ) (before words : List ℕ) (entries : List Entry) (v : ℕ) → AllTaken bound before v words entries → AllTaken bound before (v + 1) (set words v (no_label bound)) (entries ++ entry_of v (edge_label_at bound words v))
one_more_taken bound before words entries v t =
    let rises = entry_rises v entries (edge_label_at bound words v) t.rising t.below in
    record {
      most = t.most;
      rising = rises.0;
      below = rises.1;
      above = λ w there.
          let over = left_over bound words v w there in
          let up : v ≤ w = t.above w over.1 in
          let apart : w ≢ v = over.0 in
          omega (arith, up, apart);
      each = λ w. kept_or_taken bound before words entries v w (t.each w);
    }

-- the place behind the last entry takes that of a node, or stays free
pub entry_placed : (bound word v : ℕ) (places : List Entry) (end more : ℕ) → end < length places → more ≡ cond (not (word == no_label bound)) 1 0 → take (end + more) (set places end (edge_entry_by v word)) ≡ take end places ++ entry_of v (edge_label_in bound word)
entry_placed bound word v places end more lt is = elim (eqb_tells word (no_label bound)) [
  | inl t ↦
      let none : end + more ≡ end = omega (arith, rw t.0 at is) in
      ap (λ (k : ℕ). take k (set places end (edge_entry_by v word))) none ∙ (take-set places end (edge_entry_by v word) ∙ rw t.0 (sym (append-nil (take end places))))
  | inr t ↦
      let one : end + more ≡ end + 1 = omega (arith, rw t.0 at is) in
      ap (λ (k : ℕ). take k (set places end (edge_entry_by v word))) one ∙ (take_more_set places end (edge_entry_by v word) lt ∙ rw t.0 refl)
]

-- no word has come beyond that of no label
still_most : (bound : ℕ) (before words : List ℕ) (entries : List Entry) (b v : ℕ) → AllTaken bound before b words entries → word_at bound words v ≤ no_label bound
still_most bound before words entries b v t = elim (t.each v) [ inl kept ↦ omega (arith, kept.0, t.most v) | inr taken ↦ omega (arith, taken.0) ]

less_or_none : (word none : ℕ) → word ≤ none → nat_lt word none ≡ not (word == none)
less_or_none word none le = elim (eqb_tells word none) [
  | inl t ↦ rw t.0 (le-ltb word none (omega (arith, t.1)))
  | inr t ↦ rw t.0 (lt-ltb word none (omega (arith, le, t.1)))
]

-- the next node of an octet is taken
pub next_taken : (bound from v to : ℕ) (old : List ℕ) (listed : List Entry) (words new : List ℕ) (places : List Entry) (end more : ℕ) (x : Entry) → v + 1 ≡ to → end < length places → new ≡ set words v (no_label bound) → x ≡ edge_entry_by v (word_at bound words v) → more ≡ cond (nat_lt (word_at bound words v) (no_label bound)) 1 0 → TakesNodes bound from v old listed words (take end places) → TakesNodes bound from to old listed new (take (end + more) (set places end x))
next_taken bound from v to old listed words new places end more x next lt words_are entry count t =
    record {
      taken = λ before h.
          let now : AllTaken bound before v words (take end places) = t.taken before h in
          let word : ℕ = word_at bound words v in
          let other : more ≡ cond (not (word == no_label bound)) 1 0 = count ∙ ap (λ (k : Bool). cond k 1 0) (less_or_none word (no_label bound) (still_most bound before words (take end places) v v now)) in
          let entries : take (end + more) (set places end x) ≡ take end places ++ entry_of v (edge_label_at bound words v) = ap (λ (k : Entry). take (end + more) (set places end k)) entry ∙ entry_placed bound word v places end more lt other in
          let one : AllTaken bound before (v + 1) (set words v (no_label bound)) (take end places ++ entry_of v (edge_label_at bound words v)) = one_more_taken bound before words (take end places) v now in
          let there : AllTaken bound before (v + 1) new (take end places ++ entry_of v (edge_label_at bound words v)) = subst (λ (k : List ℕ). AllTaken bound before (v + 1) k (take end places ++ entry_of v (edge_label_at bound words v))) (sym words_are) one in
          subst (λ (k : ℕ). AllTaken bound before k new (take (end + more) (set places end x))) next (subst (AllTaken bound before (v + 1) new) (sym entries) there);
      fewer = λ w there. t.fewer w (left_over bound words v w (subst (λ (k : List ℕ). word_at bound k w ≢ no_label bound) words_are there)).1;
    }

-- none is taken yet
pub none_yet : (bound from to : ℕ) (old : List ℕ) (listed : List Entry) → from ≡ to → TakesNodes bound from to old listed old listed
none_yet bound from to old listed same = subst (λ (k : ℕ). TakesNodes bound from k old listed old listed) same (record { taken = λ before t. t; fewer = λ v there. there })

-- up to a number that no labelled node lies before, all is taken
pub moved_up : (bound : ℕ) (before : List ℕ) (b c : ℕ) (words : List ℕ) (entries : List Entry) → AllTaken bound before b words entries → b ≤ c → ((v : ℕ) → word_at bound words v ≢ no_label bound → b ≤ v → c ≤ v) → AllTaken bound before c words entries
moved_up bound before b c words entries t le up = record {
  most = t.most;
  rising = t.rising;
  below = All-weaker (λ x. x.node.0 < b) (λ x. x.node.0 < c) (λ x lt. omega (arith, lt, le)) entries t.below;
  above = λ v there. up v there (t.above v there);
  each = t.each;
}

-- an octet is done with at its end, or behind the last node
pub none_more : (bound from b to : ℕ) (old : List ℕ) (listed : List Entry) (words : List ℕ) (entries : List Entry) → b ≤ to → (length words ≤ b) ⊎ (b ≡ to) → TakesNodes bound from b old listed words entries → TakesNodes bound from to old listed words entries
none_more bound from b to old listed words entries le end t = record {
  taken = λ before h. moved_up bound before b to words entries (t.taken before h) le (λ v there up. elim end [
    | inl past ↦ let lt : v < length words = labelled_inside bound words v there in omega (arith, lt, up, past)
    | inr same ↦ omega (arith, up, same)
  ]);
  fewer = t.fewer;
}
