-- What the words of a row's labels tell of it.
use Rattle.std.proofs.Common.{◌≡◌, ◌≢◌, ◌↔◌, ℕ, zero, suc, ◌+◌, ◌-◌, ◌^◌, ◌<◌, ◌≤◌, ◌==◌, ◌&&◌, nat_le, Bool, true, false, inl, inr, List, [], ◌∷◌, ◌++◌, length, take, set, get_or, slice_index_or, Option, Some, None, refl, sym, ap, subst, ◌∙◌, arith}
use Rattle.std.proofs.lemmas.Bool.{and_parts, cases_eq, cases_lt, eq-eqb, eqb-true, false_from_ne_true, ne_eqb}
use Rattle.std.proofs.lemmas.Bool.Decides.{eqb_tells, leb_tells}
use Rattle.std.proofs.lemmas.List.{get_or_past, get_or-take, length-take-le, take_more}
use Rattle.std.proofs.lemmas.Option.{same_Some}
use Rattle.road_network.specs.declared.EdgeId.{EdgeId}
use Rattle.bounded_table.specs.declared.table_row.Entry.{Entry}
use Rattle.bounded_table.specs.declared.table_row.Label.{Label}
use Rattle.bounded_table.specs.Closed.{IsListedBy, IsNoWorse}
use Rattle.bounded_table.specs.inside.Given.{is_label_by}
use Rattle.bounded_table.specs.LabelWords.{low_of, no_label, word_at, word_by, word_of}
use Rattle.bounded_table.specs.Spread.{IsRaised, IsSpread}
use Rattle.bounded_table.specs.Table.{RisesFrom, entry_in, label_in, label_of}
use Rattle.bounded_table.proofs.Arcs.{listed_by}
use Rattle.bounded_table.proofs.ClosedTables.{none_some}
use Rattle.bounded_table.proofs.LabelWords.{cleared, word_elsewhere, word_here}
use Rattle.bounded_table.proofs.Entries.{label_before, label_else}
use Rattle.bounded_table.proofs.RowChecks.{rises_apart}

-- a label is no worse than one by edge e at distance d exactly where its word is no greater
no_worse_where : (far : ℕ) (last : Option EdgeId) (e d : ℕ) → e < 2 ^ 32 - 1 → low_of last < 2 ^ 32 → (word_of far last ≤ word_by d e) ↔ IsNoWorse (record { distance = far; last = last }) d e
no_worse_where far None e d small low = (
  λ le. elim (cases_lt far d) [ inl nearer ↦ inl nearer | inr as_far ↦ absurd (omega (arith, le, as_far, small)) ],
  λ no_worse. elim no_worse [ inl nearer ↦ omega (arith, nearer, small) | inr as_far ↦ absurd (none_some refl as_far.2) ],
)
no_worse_where far (Some x) e d small low = (
  λ le. elim (cases_lt far d) [ inl nearer ↦ inl nearer | inr as_far ↦ inr (x, omega (arith, le, as_far, small), refl, omega (arith, le, as_far, small)) ],
  λ no_worse. elim no_worse [
    | inl nearer ↦ omega (arith, nearer, low)
    | inr as_far ↦
        let same : x.0 ≡ as_far.0.0 = ap (λ (k : EdgeId). k.0) (same_Some x as_far.0 as_far.2) in
        omega (arith, as_far.1, as_far.3, same)
  ],
)

-- a raised word is no greater than that of edge e at distance d exactly where that leads beyond the bound, or
-- the label is no worse
pub enough_where : (bound : ℕ) (table : ℕ → Option Label) (v e d word : ℕ) (o : Option Label) → table v ≡ o → IsRaised bound o word → e < 2 ^ 32 - 1 → (word ≤ word_by d e + 1) ↔ (d ≤ bound → IsListedBy table v e d)
enough_where bound table v e d word None at is small = (
  λ le short. absurd (omega (arith, le, short, is, small)),
  λ all. elim (cases_lt bound d) [ inl beyond ↦ omega (arith, is, beyond) | inr short ↦ absurd (none_some at (all short).listed) ],
)
enough_where bound table v e d word (Some l) at is small =
    let w = no_worse_where l.distance l.last e d small is.2 in
    let listed = listed_by table v e d l at in (
      λ le short. listed.0 (w.0 (omega (arith, le, is.0))),
      λ all. elim (cases_lt bound d) [
        | inl beyond ↦ omega (arith, is.0, is.1, is.2, beyond)
        | inr short ↦ let le : word_of l.distance l.last ≤ word_by d e = w.1 (listed.1 (all short)) in omega (arith, le, is.0)
      ],
    )

and_false : (b : Bool) → (b && false) ≡ false
and_false true = refl
and_false false = refl

-- a label is the one by edge e at distance d exactly where the words are equal
same_word : (far : ℕ) (last : Option EdgeId) (e d : ℕ) → e < 2 ^ 32 - 1 → low_of last < 2 ^ 32 → (word_by d e + 1 == word_of far last + 1) ≡ is_label_by (Some (record { distance = far; last = last })) d e
same_word far None e d small low =
    let apart : word_by d e + 1 ≢ word_of far None + 1 = omega (arith, small) in
    ne_eqb (word_by d e + 1) (word_of far None + 1) apart ∙ sym (and_false (far == d))
same_word far (Some x) e d small low = elim (eqb_tells (word_by d e + 1) (word_of far (Some x) + 1)) [
  | inl t ↦
      let as_far : far ≡ d = omega (arith, t.1, small, low) in
      let edge : x.0 ≡ e = omega (arith, t.1, small, low) in
      t.0 ∙ sym (rw (eq-eqb far d as_far, eq-eqb x.0 e edge) refl)
  | inr t ↦ t.0 ∙ sym (false_from_ne_true (is_label_by (Some (record { distance = far; last = Some x })) d e) (λ h.
      let parts = and_parts (far == d) (x.0 == e) h in
      t.1 (omega (arith, eqb-true far d parts.0, eqb-true x.0 e parts.1))))
]

-- a raised word is that of edge e at distance d exactly where that label is there, within the bound
pub met_where : (bound e d word : ℕ) (o : Option Label) → IsRaised bound o word → e < 2 ^ 32 - 1 → (word_by d e + 1 == word) ≡ (nat_le d bound && is_label_by o d e)
met_where bound e d word None is small =
    let apart : word_by d e + 1 ≢ word = omega (arith, is, small) in
    ne_eqb (word_by d e + 1) word apart ∙ sym (and_false (nat_le d bound))
met_where bound e d word (Some l) is small = elim (leb_tells d bound) [
  | inl t ↦ rw t.0 (ap (λ (k : ℕ). word_by d e + 1 == k) is.0 ∙ same_word l.distance l.last e d small is.2)
  | inr t ↦
      let apart : word_by d e + 1 ≢ word = omega (arith, is.0, is.1, is.2, t.1) in
      rw t.0 (ne_eqb (word_by d e + 1) word apart)
]

-- entries that rise: the entry at place i is not listed before it
none_below : (xs : List Entry) (v : ℕ) → ((k : ℕ) (d : Entry) → k < length xs → (slice_index_or xs k d).node.0 < v) → label_in xs v ≡ None
none_below [] v low = refl
none_below (x ∷ xs) v low = elim (eqb_tells x.node.0 v) [
  | inl t ↦ absurd (let lt = low 0 x (omega arith) in omega (arith, lt, t.1))
  | inr t ↦ rw t.0 (none_below xs v (λ k d lt. low (suc k) d (omega arith)))
]

pub label_here : (x : Entry) → label_in (x ∷ []) x.node.0 ≡ Some (label_of x)
label_here x = elim (eqb_tells x.node.0 x.node.0) [ inl t ↦ rw t.0 refl | inr t ↦ absurd (t.1 refl) ]

pub label_apart : (x : Entry) (v : ℕ) → v ≢ x.node.0 → label_in (x ∷ []) v ≡ None
label_apart x v apart = elim (eqb_tells x.node.0 v) [ inl t ↦ absurd (apart (sym t.1)) | inr t ↦ rw t.0 refl ]

raised_by : (bound : ℕ) (o p : Option Label) (w z : ℕ) → o ≡ p → w ≡ z → IsRaised bound p z → IsRaised bound o w
raised_by bound o p w z same is raised = subst (λ (k : Option Label). IsRaised bound k w) (sym same) (subst (IsRaised bound p) (sym is) raised)

-- one entry's word more
pub spread_more : (bound : ℕ) (xs : List Entry) (x : Entry) (words : List ℕ) (word : ℕ) → ((k : ℕ) (d : Entry) → k < length xs → (slice_index_or xs k d).node.0 < x.node.0) → x.node.0 < length words → IsRaised bound (Some (label_of x)) word → IsSpread bound xs words → IsSpread bound (xs ++ x ∷ []) (set words x.node.0 word)
spread_more bound xs x words word low lt is spread v = elim (cases_eq v x.node.0) [
  | inl same ↦
      let here : word_at bound (set words x.node.0 word) v ≡ word = ap (word_at bound (set words x.node.0 word)) same ∙ word_here bound words x.node.0 word lt in
      let none : label_in xs v ≡ None = ap (label_in xs) same ∙ none_below xs x.node.0 low in
      let label : label_in (xs ++ x ∷ []) v ≡ Some (label_of x) = label_else xs (x ∷ []) v none ∙ (ap (label_in (x ∷ [])) same ∙ label_here x) in
      raised_by bound (label_in (xs ++ x ∷ []) v) (Some (label_of x)) (word_at bound (set words x.node.0 word) v) word label here is
  | inr apart ↦
      raised_by bound (label_in (xs ++ x ∷ []) v) (label_in xs v) (word_at bound (set words x.node.0 word) v) (word_at bound words v)
      (label_before xs (x ∷ []) v (label_apart x v apart))
      (word_elsewhere bound words x.node.0 v word apart)
      (spread v)
]

-- where the entries rise, those before a place are of nodes below that of its entry
low_before : (entries : List Entry) (i : ℕ) (f : Entry) → RisesFrom 0 entries → i < length entries → (k : ℕ) (d : Entry) → k < length (take i entries) → (slice_index_or (take i entries) k d).node.0 < (slice_index_or entries i f).node.0
low_before entries i f rising lt k d inside =
    let short : k < i = omega (arith, inside, length-take-le i entries (omega arith)) in
    let at : slice_index_or (take i entries) k d ≡ slice_index_or entries k d = get_or-take i entries k d short in
    let up : (slice_index_or entries k d).node.0 + (i - k) ≤ (slice_index_or entries i f).node.0 = rises_apart 0 entries rising k (i - k) i d f (omega arith) lt in
    let same : (slice_index_or (take i entries) k d).node.0 ≡ (slice_index_or entries k d).node.0 = ap (λ (x : Entry). x.node.0) at in
    omega (arith, up, same, short)

-- the same at the next place
pub spread_next : (bound : ℕ) (entries : List Entry) (i : ℕ) (d : Entry) (words : List ℕ) (word : ℕ) → RisesFrom 0 entries → i < length entries → (get_or entries i d).node.0 < length words → IsRaised bound (Some (label_of (get_or entries i d))) word → IsSpread bound (take i entries) words → IsSpread bound (take (i + 1) entries) (set words (get_or entries i d).node.0 word)
spread_next bound entries i d words word rising lt inside is spread =
    let x : Entry = get_or entries i d in
    subst (λ (k : List Entry). IsSpread bound k (set words x.node.0 word)) (sym (take_more entries i d lt)) (spread_more bound (take i entries) x words word (low_before entries i d rising lt) inside is spread)

-- where nothing is labelled no entry is spread
pub none_spread : (bound : ℕ) (words : List ℕ) → ((v : ℕ) → word_at bound words v ≡ no_label bound) → IsSpread bound [] words
none_spread bound words none v = none v

entry_none : (xs : List Entry) (i v : ℕ) → entry_in xs v ≡ None → label_in (take i xs) v ≡ None
entry_none [] zero v none = refl
entry_none [] (suc i) v none = refl
entry_none (x ∷ xs) zero v none = refl
entry_none (x ∷ xs) (suc i) v none = elim (eqb_tells x.node.0 v) [
  | inl t ↦ absurd (let is : Some x ≡ None = rw t.0 at none in cc)
  | inr t ↦ rw t.0 (entry_none xs i v (rw t.0 at none))
]

-- a node that is not among the entries has no word
pub none_else : (bound : ℕ) (xs : List Entry) (i : ℕ) (words : List ℕ) → IsSpread bound (take i xs) words → (v : ℕ) → entry_in xs v ≡ None → word_at bound words v ≡ no_label bound
none_else bound xs i words spread v none = subst (λ (k : Option Label). IsRaised bound k (word_at bound words v)) (entry_none xs i v none) (spread v)

-- a label is taken out
pub less_left : (bound : ℕ) (x : Entry) (xs : List Entry) (words : List ℕ) → ((v : ℕ) → entry_in (x ∷ xs) v ≡ None → word_at bound words v ≡ no_label bound) → (v : ℕ) → entry_in xs v ≡ None → word_at bound (set words x.node.0 (no_label bound)) v ≡ no_label bound
less_left bound x xs words left v none = elim (cases_eq v x.node.0) [
  | inl same ↦ ap (word_at bound (set words x.node.0 (no_label bound))) same ∙ cleared bound words x.node.0
  | inr apart ↦ word_elsewhere bound words x.node.0 v (no_label bound) apart ∙ left v (elim (eqb_tells x.node.0 v) [ inl t ↦ absurd (apart (sym t.1)) | inr t ↦ rw t.0 none ])
]

-- or there is no place for it
pub none_left : (bound : ℕ) (x : Entry) (xs : List Entry) (words : List ℕ) → length words ≤ x.node.0 → ((v : ℕ) → entry_in (x ∷ xs) v ≡ None → word_at bound words v ≡ no_label bound) → (v : ℕ) → entry_in xs v ≡ None → word_at bound words v ≡ no_label bound
none_left bound x xs words past left v none = elim (cases_eq v x.node.0) [
  | inl same ↦ get_or_past words v (no_label bound) (omega (arith, same, past))
  | inr apart ↦ left v (elim (eqb_tells x.node.0 v) [ inl t ↦ absurd (apart (sym t.1)) | inr t ↦ rw t.0 none ])
]
