-- Merging the row of a node that is taken keeps what a search is underway with, as trying its edges does.
use Rattle.std.proofs.Common.{◌≡◌, ◌≢◌, ℕ, suc, ◌+◌, ◌-◌, ◌/◌, ◌%◌, ◌^◌, ◌<◌, ◌≤◌, ◌⊎◌, inl, inr, min, length, List, [], ◌∷◌, sum, length-set, Option, Some, None, refl, sym, ap, subst, ◌∙◌, arith}
use Rattle.std.proofs.Math.Nat.{min-le_left, min-le_right, min-eq_left, min-eq_right}
use Rattle.std.proofs.lemmas.Bool.{cases_eq, cases_lt}
use Rattle.std.proofs.lemmas.Bool.Decides.{eqb_tells}
use Rattle.std.proofs.lemmas.List.Sums.{sum_by-set}
use Rattle.std.proofs.lemmas.Option.{same_Some}
use Rattle.std.specs.List.{AllByRecursion}
use Rattle.std.specs.Option.{option_map}
use Rattle.road_network.specs.Net.{Net, HasEdge, IsLawful, source, target, span}
use Rattle.road_network.specs.declared.EdgeId.{EdgeId}
use Rattle.row_search.specs.declared.queue.Waiting.{Waiting}
use Rattle.bounded_table.specs.declared.table_row.Entry.{Entry}
use Rattle.bounded_table.specs.declared.table_row.Label.{Label}
use Rattle.bounded_table.specs.Closed.{IsClosed, IsReached, IsRelaxed, origin_label}
use Rattle.bounded_table.specs.LabelWords.{distance_at, low_of, no_label, origin_word, word_at, word_by}
use Rattle.row_search.specs.inside.Merging.{merged, merged_entry, merged_word}
use Rattle.bounded_table.specs.Table.{RisesFrom, entry_in, label_in, label_of}
use Rattle.row_search.specs.inside.Underway.{IsHeld, IsTried, IsUnderway, NonePending, Waits}
use Rattle.bounded_table.proofs.ClosedTables.{none_some}
use Rattle.bounded_table.proofs.Entries.{IsEntryOf, cases_Option, entry_with, not_listed_below}
use Rattle.row_search.proofs.Gaining.{front_or_rest}
use Rattle.bounded_table.proofs.LabelWords.{distance_by, last_by, word_elsewhere, word_here}
use Rattle.row_search.proofs.WrittenWords.{edge_small}

-- the lesser of two words
pub record IsLesser (new old word : ℕ) : Type 0 where
  pub low : new ≤ old
  pub by : new ≤ word
  pub one : (new ≡ old) ⊎ (new ≡ word)

lesser : (a b : ℕ) → IsLesser (min a b) a b
lesser a b = record {
  low = min-le_left a b;
  by = min-le_right a b;
  one = elim (cases_lt a b) [ inl lt ↦ inl (min-eq_left (omega (arith, lt))) | inr le ↦ inr (min-eq_right le) ];
}

-- each listed node has the lesser of its own word and its entry's, and no other word changes
pub record Merges (bound d : ℕ) (row : List Entry) (old new : List ℕ) : Type 0 where
  pub count : length new ≡ length old
  pub listed : (v : ℕ) (x : Entry) → entry_in row v ≡ Some x → IsLesser (word_at bound new v) (word_at bound old v) (merged_word d x)
  pub others : (v : ℕ) → entry_in row v ≡ None → word_at bound new v ≡ word_at bound old v
  pub less : sum new ≤ sum old

pub merges : (bound d b : ℕ) (row : List Entry) (words : List ℕ) → RisesFrom b row → AllByRecursion (λ x. x.node.0 < length words) row → Merges bound d row words (merged bound d row words)
merges bound d b [] words r all = record {
  count = refl;
  listed = λ v x at. absurd (none_some refl at);
  others = λ v at. refl;
  less = omega arith;
}
merges bound d b (x ∷ row) words r all =
    let u : ℕ = x.node.0 in
    let word : ℕ = min (word_at bound words u) (merged_word d x) in
    let mid : List ℕ = merged_entry bound d x words in
    let long : length mid ≡ length words = length-set words u word in
    let least : IsLesser word (word_at bound words u) (merged_word d x) = lesser (word_at bound words u) (merged_word d x) in
    let rec : Merges bound d row mid (merged bound d row mid) = merges bound d (u + 1) row mid r.1 (subst (λ (k : ℕ). AllByRecursion (λ y. y.node.0 < k) row) (sym long) all.1) in
    let falls : sum mid + word_at bound words u ≡ sum words + word = sum_by-set (λ (k : ℕ). k) words u word (no_label bound) all.0 in
    record {
      count = rec.count ∙ long;
      listed = λ v y at. elim (eqb_tells u v) [
        | inl t ↦
            let same : x ≡ y = same_Some x y (rw t.0 at at) in
            let none : entry_in row v ≡ None = not_listed_below (u + 1) row r.1 v (omega (arith, t.1)) in
            let is : word_at bound (merged bound d row mid) v ≡ word = rec.others v none ∙ (ap (word_at bound mid) (sym t.1) ∙ word_here bound words u word all.0) in
            subst (λ (k : ℕ). IsLesser k (word_at bound words v) (merged_word d y)) (sym is)
            (subst (λ (k : ℕ). IsLesser word (word_at bound words k) (merged_word d y)) t.1 (subst (λ (k : Entry). IsLesser word (word_at bound words u) (merged_word d k)) same least))
        | inr t ↦
            let there : entry_in row v ≡ Some y = rw t.0 at at in
            let old : word_at bound mid v ≡ word_at bound words v = word_elsewhere bound words u v word (λ same. t.1 (sym same)) in
            subst (λ (k : ℕ). IsLesser (word_at bound (merged bound d row mid) v) k (merged_word d y)) old (rec.listed v y there)
      ];
      others = λ v at. elim (eqb_tells u v) [
        | inl t ↦ absurd (none_some refl (let is : Some x ≡ None = rw t.0 at at in sym is))
        | inr t ↦
            let none : entry_in row v ≡ None = rw t.0 at at in
            rec.others v none ∙ word_elsewhere bound words u v word (λ same. t.1 (sym same))
      ];
      less = omega (arith, rec.less, falls, least.low);
    }

pub label_at_entry : (row : List Entry) (v : ℕ) (x : Entry) → entry_in row v ≡ Some x → label_in row v ≡ Some (label_of x)
label_at_entry row v x at = ap (option_map label_of) at

-- the row of node v is merged at the distance that v has
pub record IsMerge (n : Net) (bound v d : ℕ) (row : List Entry) (old new : List ℕ) : Type 0 where
  pub lawful : IsLawful n
  pub closed : IsClosed n bound v (label_in row)
  pub merges : Merges bound d row old new
  pub distance : distance_at bound old v ≡ d

-- the entry of v itself
own_entry : (n : Net) (bound v : ℕ) (row : List Entry) → IsClosed n bound v (label_in row) → (u : ℕ) (x : Entry) → u ≡ v → entry_in row u ≡ Some x → label_of x ≡ origin_label
own_entry n bound v row closed u x same at = same_Some (label_of x) origin_label (sym (label_at_entry row u x at) ∙ (ap (label_in row) same ∙ closed.origin))

-- another is reached by an edge
pub by_edge : (n : Net) (bound v : ℕ) (row : List Entry) → IsClosed n bound v (label_in row) → (u : ℕ) (x : Entry) → u ≢ v → entry_in row u ≡ Some x → IsReached n (label_in row) u (label_of x)
by_edge n bound v row closed u x apart at = (closed.closed u (label_of x) (label_at_entry row u x at)).reached apart

low_is : (l : Option EdgeId) (e : ℕ) → l ≡ Some (record { 0 = e }) → low_of l ≡ e
low_is l e is = ap low_of is

low_small : (n : Net) (bound v : ℕ) (row : List Entry) → IsLawful n → IsClosed n bound v (label_in row) → (u : ℕ) (x : Entry) → entry_in row u ≡ Some x → low_of x.last < 2 ^ 32
low_small n bound v row lawful closed u x at = elim (cases_eq u v) [
  | inl same ↦
      let is : x.last ≡ None = ap (λ (k : Label). k.last) (own_entry n bound v row closed u x same at) in
      let low : low_of x.last ≡ 2 ^ 32 - 1 = ap low_of is in
      omega (arith, low)
  | inr apart ↦
      let r : IsReached n (label_in row) u (label_of x) = by_edge n bound v row closed u x apart at in
      omega (arith, low_is x.last r.edge r.last, edge_small n r.edge lawful r.has)
]

-- no word rises
pub no_rise : (bound d : ℕ) (row : List Entry) (old new : List ℕ) → Merges bound d row old new → (v : ℕ) → word_at bound new v ≤ word_at bound old v
no_rise bound d row old new m v = elim (cases_Option (entry_in row v)) [
  | inl none ↦ omega (arith, m.others v none)
  | inr some ↦ (m.listed v some.0 some.1).low
]

-- a node whose word stays is held as before
held_same : (n : Net) (bound d : ℕ) (row : List Entry) (old new : List ℕ) → Merges bound d row old new → (u : ℕ) → word_at bound new u ≡ word_at bound old u → IsHeld n bound old u → IsHeld n bound new u
held_same n bound d row old new m u is held =
    let far : distance_at bound new u ≡ distance_at bound old u = ap (λ (k : ℕ). k / 2 ^ 32) is in
    record {
      edge = held.edge;
      has = held.has;
      ends = held.ends;
      distance = omega (arith, far, held.distance, no_rise bound d row old new m (source n held.edge));
      last = ap (λ (k : ℕ). k % 2 ^ 32) is ∙ held.last;
      within = omega (arith, far, held.within);
    }

-- the distance of a listed node is at most that of its entry, so much farther
no_farther_by : (n : Net) (bound v d : ℕ) (row : List Entry) (old new : List ℕ) → IsMerge n bound v d row old new → (u : ℕ) (x : Entry) → entry_in row u ≡ Some x → distance_at bound new u ≤ d + x.distance
no_farther_by n bound v d row old new h u x at =
    omega (arith, (h.merges.listed u x at).by, low_small n bound v row h.lawful h.closed u x at)

-- one that has its entry's word is held by its entry's last edge
held_by : (n : Net) (bound v d : ℕ) (row : List Entry) (old new : List ℕ) → IsMerge n bound v d row old new → (u : ℕ) (x : Entry) → u ≢ v → entry_in row u ≡ Some x → word_at bound new u ≡ merged_word d x → word_at bound new u < no_label bound → IsHeld n bound new u
held_by n bound v d row old new h u x apart at is within =
    let r : IsReached n (label_in row) u (label_of x) = by_edge n bound v row h.closed u x apart at in
    let e : IsEntryOf row (source n r.edge) r.before = entry_with row (source n r.edge) r.before r.listed in
    let near : distance_at bound new (source n r.edge) ≤ d + e.entry.distance = no_farther_by n bound v d row old new h (source n r.edge) e.entry e.at in
    let small : r.edge < 2 ^ 32 - 1 = edge_small n r.edge h.lawful r.has in
    let word : word_at bound new u ≡ word_by (d + x.distance) r.edge = is ∙ ap (λ (k : ℕ). word_by (d + x.distance) k) (low_is x.last r.edge r.last) in
    let far : distance_at bound new u ≡ d + x.distance = ap (λ (k : ℕ). k / 2 ^ 32) word ∙ distance_by (d + x.distance) r.edge (omega (arith, small)) in
    let before : e.entry.distance ≡ r.before.distance = ap (λ (k : Label). k.distance) e.label in
    record {
      edge = r.edge;
      has = r.has;
      ends = r.ends;
      distance = omega (arith, near, far, before, r.distance);
      last = ap (λ (k : ℕ). k % 2 ^ 32) word ∙ last_by (d + x.distance) r.edge (omega (arith, small));
      within = omega (arith, within);
    }

-- the node itself keeps its word
own_word : (n : Net) (bound v d : ℕ) (row : List Entry) (old new : List ℕ) → IsMerge n bound v d row old new → (u : ℕ) (x : Entry) → u ≡ v → entry_in row u ≡ Some x → word_at bound new u ≡ word_at bound old u
own_word n bound v d row old new h u x same at =
    let own : label_of x ≡ origin_label = own_entry n bound v row h.closed u x same at in
    let none : x.distance ≡ 0 = ap (λ (k : Label). k.distance) own in
    let low : low_of x.last ≡ 2 ^ 32 - 1 = ap (λ (k : Label). low_of k.last) own in
    let starts : distance_at bound old u ≡ d = ap (distance_at bound old) same ∙ h.distance in
    let is : IsLesser (word_at bound new u) (word_at bound old u) (merged_word d x) = h.merges.listed u x at in
    elim is.one [
      | inl stays ↦ stays
      | inr other ↦ omega (arith, other, none, low, starts, is.low)
    ]

held_after : (n : Net) (bound v d s : ℕ) (row : List Entry) (old new : List ℕ) → IsMerge n bound v d row old new → ((u : ℕ) → word_at bound old u ≤ no_label bound) → ((u : ℕ) → word_at bound old u ≢ no_label bound → u ≢ s → IsHeld n bound old u) → (u : ℕ) → word_at bound new u ≢ no_label bound → u ≢ s → IsHeld n bound new u
held_after n bound v d s row old new h most held u there apart =
    let stays : word_at bound new u ≡ word_at bound old u → IsHeld n bound new u = λ is. held_same n bound d row old new h.merges u is (held u (λ none. there (is ∙ none)) apart) in
    elim (cases_Option (entry_in row u)) [
      | inl none ↦ stays (h.merges.others u none)
      | inr some ↦ elim (cases_eq u v) [
        | inl same ↦ stays (own_word n bound v d row old new h u some.0 same some.1)
        | inr differs ↦ elim (h.merges.listed u some.0 some.1).one [
          | inl is ↦ stays is
          | inr is ↦ held_by n bound v d row old new h u some.0 differs some.1 is (omega (arith, there, most u, no_rise bound d row old new h.merges u))
        ]
      ]
    ]

origin_after : (n : Net) (bound v d s : ℕ) (row : List Entry) (old new : List ℕ) → IsMerge n bound v d row old new → word_at bound old s ≡ origin_word → word_at bound new s ≡ origin_word
origin_after n bound v d s row old new h origin = elim (cases_Option (entry_in row s)) [
  | inl none ↦ h.merges.others s none ∙ origin
  | inr some ↦ elim (cases_eq s v) [
    | inl same ↦ own_word n bound v d row old new h s some.0 same some.1 ∙ origin
    | inr apart ↦
        let r : IsReached n (label_in row) s (label_of some.0) = by_edge n bound v row h.closed s some.0 apart some.1 in
        let is : IsLesser (word_at bound new s) (word_at bound old s) (merged_word d some.0) = h.merges.listed s some.0 some.1 in
        elim is.one [
          | inl stays ↦ stays ∙ origin
          | inr other ↦ absurd (omega (arith, other, is.low, origin, r.distance, h.lawful.not_empty r.edge r.has))
        ]
  ]
]

-- an edge out of a node that has its entry's distance is tried: the row is closed
tried_by : (n : Net) (bound v d : ℕ) (row : List Entry) (old new : List ℕ) → IsMerge n bound v d row old new → (f : ℕ) (x : Entry) → HasEdge n f → entry_in row (source n f) ≡ Some x → distance_at bound new (source n f) ≡ d + x.distance → x.distance + span n f ≤ bound → IsTried n bound new f
tried_by n bound v d row old new h f x has at far short =
    let r : IsRelaxed n (label_in row) f (x.distance + span n f) = (h.closed.closed (source n f) (label_of x) (label_at_entry row (source n f) x at)).relaxed f has refl short in
    let e : IsEntryOf row (target n f) r.label = entry_with row (target n f) r.label r.listed in
    let le : word_at bound new (target n f) ≤ word_by (d + e.entry.distance) (low_of e.entry.last) = (h.merges.listed (target n f) e.entry e.at).by in
    let is : e.entry.distance ≡ r.label.distance = ap (λ (k : Label). k.distance) e.label in
    let small : low_of e.entry.last < 2 ^ 32 = low_small n bound v row h.lawful h.closed (target n f) e.entry e.at in
    elim r.no_worse [
      | inl nearer ↦ omega (arith, le, is, small, nearer, far)
      | inr as_far ↦
          let low : low_of e.entry.last ≡ as_far.0.0 = ap (λ (k : Label). low_of k.last) e.label ∙ ap low_of as_far.2 in
          omega (arith, le, is, low, as_far.1, as_far.3, far)
    ]

-- what an edge out of another node is, it still is
seen_elsewhere : (n : Net) (bound v d s : ℕ) (row : List Entry) (old new : List ℕ) (queue : List Waiting) → Merges bound d row old new → IsUnderway n bound s (record { words = old; queue = record { distance = d; node = v } ∷ queue }) NonePending → (f : ℕ) → HasEdge n f → source n f ≢ v → word_at bound new (source n f) ≡ word_at bound old (source n f) → distance_at bound new (source n f) + span n f ≤ bound → Waits queue (source n f) (distance_at bound new (source n f)) ⊎ (NonePending f ⊎ IsTried n bound new f)
seen_elsewhere n bound v d s row old new queue m under f has apart is short =
    let u : ℕ = source n f in
    let far : distance_at bound new u ≡ distance_at bound old u = ap (λ (k : ℕ). k / 2 ^ 32) is in
    elim (under.tried f has (omega (arith, far, short))) [
      | inl waits ↦ elim (front_or_rest (record { distance = d; node = v }) queue (record { distance = distance_at bound old u; node = u }) waits) [
        | inl same ↦ absurd (apart (ap (λ (k : Waiting). k.node) same))
        | inr rest ↦ inl (subst (Waits queue u) (sym far) rest)
      ]
      | inr rest ↦ elim rest [
        | inl none ↦ absurd none
        | inr tried ↦
            let same : word_by (distance_at bound new u + span n f) f ≡ word_by (distance_at bound old u + span n f) f = ap (λ (k : ℕ). word_by (k + span n f) f) far in
            inr (inr (omega (arith, tried, same, no_rise bound d row old new m (target n f))))
      ]
    ]

seen_after : (n : Net) (bound v d s : ℕ) (row : List Entry) (old new : List ℕ) (queue : List Waiting) → IsMerge n bound v d row old new → IsUnderway n bound s (record { words = old; queue = record { distance = d; node = v } ∷ queue }) NonePending → (f : ℕ) → HasEdge n f → distance_at bound new (source n f) + span n f ≤ bound → Waits queue (source n f) (distance_at bound new (source n f)) ⊎ (NonePending f ⊎ IsTried n bound new f)
seen_after n bound v d s row old new queue h under f has short =
    let u : ℕ = source n f in
    elim (cases_Option (entry_in row u)) [
      | inl none ↦
          seen_elsewhere n bound v d s row old new queue h.merges under f has (λ same. none_some none (entry_with row u origin_label (ap (label_in row) same ∙ h.closed.origin)).at) (h.merges.others u none) short
      | inr some ↦ elim (cases_eq (distance_at bound new u) (d + some.0.distance)) [
        | inl far ↦ inr (inr (tried_by n bound v d row old new h f some.0 has some.1 far (omega (arith, far, short))))
        | inr nearer ↦
            let small : low_of some.0.last < 2 ^ 32 = low_small n bound v row h.lawful h.closed u some.0 some.1 in
            let is : word_at bound new u ≡ word_at bound old u = elim (h.merges.listed u some.0 some.1).one [
              | inl stays ↦ stays
              | inr other ↦ absurd (nearer (ap (λ (k : ℕ). k / 2 ^ 32) other ∙ distance_by (d + some.0.distance) (low_of some.0.last) small))
            ] in
            let apart : u ≢ v = λ same.
            let none : some.0.distance ≡ 0 = ap (λ (k : Label). k.distance) (own_entry n bound v row h.closed u some.0 same some.1) in
            nearer (ap (λ (k : ℕ). k / 2 ^ 32) is ∙ (ap (distance_at bound old) same ∙ (h.distance ∙ omega (arith, none)))) in
            seen_elsewhere n bound v d s row old new queue h.merges under f has apart is short
      ]
    ]

-- no word is beyond that of no label
pub most : (n : Net) (bound s : ℕ) (words : List ℕ) (queue : List Waiting) → IsUnderway n bound s (record { words = words; queue = queue }) NonePending → (v : ℕ) → word_at bound words v ≤ no_label bound
most n bound s words queue under v = elim (cases_eq (word_at bound words v) (no_label bound)) [
  | inl none ↦ omega (arith, none)
  | inr there ↦ elim (cases_eq v s) [
    | inl same ↦ omega (arith, ap (word_at bound words) same, under.origin)
    | inr apart ↦ let h : IsHeld n bound words v = under.held v there apart in omega (arith, h.within)
  ]
]

-- a node whose row was merged waits no more
pub merge_keeps : (n : Net) (bound v d s : ℕ) (row : List Entry) (old new : List ℕ) (queue : List Waiting) → IsMerge n bound v d row old new → IsUnderway n bound s (record { words = old; queue = record { distance = d; node = v } ∷ queue }) NonePending → IsUnderway n bound s (record { words = new; queue = queue }) NonePending
merge_keeps n bound v d s row old new queue h under = record {
  count = h.merges.count ∙ under.count;
  origin = origin_after n bound v d s row old new h under.origin;
  held = held_after n bound v d s row old new h (most n bound s old (record { distance = d; node = v } ∷ queue) under) under.held;
  tried = seen_after n bound v d s row old new queue h under;
  inside = λ k x lt. let is = under.inside (suc k) x (omega arith) in (omega (arith, is.0, h.merges.count), is.1);
}
