-- At the end of a search the labels are a closed table.
use Rattle.std.proofs.Common.{◌≡◌, ◌≢◌, ℕ, ◌+◌, ◌-◌, ◌/◌, ◌%◌, ◌^◌, ◌<◌, ◌≤◌, inl, inr, List, [], Some, sym, ap, subst, ◌∙◌, arith}
use Rattle.std.proofs.lemmas.Bool.{cases_eq, cases_lt}
use Rattle.std.proofs.lemmas.Option.{same_Some}
use Rattle.road_network.specs.Net.{Net, HasEdge, IsLawful, source, target, span}
use Rattle.bounded_table.specs.declared.table_row.Label.{Label}
use Rattle.row_search.specs.declared.queue.Waiting.{Waiting}
use Rattle.bounded_table.specs.Closed.{IsClosed, IsClosedAt}
use Rattle.row_search.specs.inside.Underway.{IsHeld, IsTried, IsUnderway, NonePending}
use Rattle.bounded_table.specs.LabelWords.{distance_at, label_at, label_in_word, last_in, no_label, origin_word, word_at, word_by}
use Rattle.bounded_table.proofs.LabelWords.{label_there, last_there, word_there}
use Rattle.row_search.proofs.WrittenWords.{edge_small}

-- where nothing waits and nothing is pending, every edge within the bound was tried
tried_all : (n : Net) (bound s : ℕ) (words : List ℕ) → IsUnderway n bound s (record { words = words; queue = [] }) NonePending → (e : ℕ) → HasEdge n e → distance_at bound words (source n e) + span n e ≤ bound → IsTried n bound words e
tried_all n bound s words under e has short =
    elim (under.tried e has short) [
      | inl waits ↦ absurd (let lt = waits.1 in omega arith)
      | inr rest ↦ elim rest [ inl none ↦ absurd none | inr tried ↦ tried ]
    ]

label_is : (bound : ℕ) (words : List ℕ) (v : ℕ) (l : Label) → label_at bound words v ≡ Some l → l ≡ record { distance = distance_at bound words v; last = last_in (word_at bound words v % 2 ^ 32) }
label_is bound words v l h = same_Some l (record { distance = distance_at bound words v; last = last_in (word_at bound words v % 2 ^ 32) }) (sym h ∙ label_there bound (word_at bound words v) (word_there bound (word_at bound words v) l h))

-- a node within the bound is labelled
labelled_within : (words : List ℕ) (v bound : ℕ) → distance_at bound words v ≤ bound → label_at bound words v ≡ Some (record { distance = distance_at bound words v; last = last_in (word_at bound words v % 2 ^ 32) })
labelled_within words v bound short = label_there bound (word_at bound words v) (λ none. omega (arith, none, short))

closed_label : (n : Net) (bound s : ℕ) (words : List ℕ) → IsLawful n → IsUnderway n bound s (record { words = words; queue = [] }) NonePending → (v : ℕ) (l : Label) → label_at bound words v ≡ Some l → IsClosedAt n bound s (label_at bound words) v l
closed_label n bound s words lawful under v l at =
    let there : word_at bound words v ≢ no_label bound = word_there bound (word_at bound words v) l at in
    let is : l ≡ record { distance = distance_at bound words v; last = last_in (word_at bound words v % 2 ^ 32) } = label_is bound words v l at in
    let far : l.distance ≡ distance_at bound words v = ap (λ (k : Label). k.distance) is in
    record {
      within = elim (cases_eq v s) [
        | inl same ↦
            let none : distance_at bound words v ≡ 0 = ap (λ (k : ℕ). word_at bound words k / 2 ^ 32) same ∙ ap (λ (word : ℕ). word / 2 ^ 32) under.origin in
            omega (arith, far, none)
        | inr apart ↦ let h : IsHeld n bound words v = under.held v there apart in omega (arith, far, h.within)
      ];
      reached = λ apart.
          let h : IsHeld n bound words v = under.held v there apart in
          let u : ℕ = source n h.edge in
          let tried : word_at bound words (target n h.edge) ≤ word_by (distance_at bound words u + span n h.edge) h.edge = tried_all n bound s words under h.edge h.has (omega (arith, h.distance, h.within)) in
          let small : h.edge < 2 ^ 32 - 1 = edge_small n h.edge lawful h.has in
          let at_end : word_at bound words (target n h.edge) ≡ word_at bound words v = ap (word_at bound words) h.ends in
          record {
            edge = h.edge;
            has = h.has;
            ends = h.ends;
            before = record { distance = distance_at bound words u; last = last_in (word_at bound words u % 2 ^ 32) };
            listed = labelled_within words u bound (omega (arith, h.distance, h.within));
            distance = omega (arith, far, h.distance, tried, small, at_end);
            last = ap (λ (k : Label). k.last) is ∙ (ap last_in h.last ∙ last_there h.edge small);
          };
      relaxed = λ e has from short.
          let d : ℕ = l.distance + span n e in
          let starts : distance_at bound words (source n e) ≡ l.distance = ap (distance_at bound words) from ∙ sym far in
          let tried : word_at bound words (target n e) ≤ word_by d e = subst (λ (k : ℕ). word_at bound words (target n e) ≤ word_by (k + span n e) e) starts (tried_all n bound s words under e has (omega (arith, starts, short))) in
          let small : e < 2 ^ 32 - 1 = edge_small n e lawful has in
          let w : ℕ = target n e in
          let no_farther : distance_at bound words w ≤ d = omega (arith, tried, small) in
          record {
            label = record { distance = distance_at bound words w; last = last_in (word_at bound words w % 2 ^ 32) };
            listed = labelled_within words w bound (omega (arith, no_farther, short));
            no_worse = elim (cases_lt (distance_at bound words w) d) [
              | inl nearer ↦ inl nearer
              | inr as_far ↦
                  let up : word_at bound words w % 2 ^ 32 ≤ e = omega (arith, tried, as_far, no_farther) in
                  inr (record { 0 = word_at bound words w % 2 ^ 32 }, omega (arith, as_far, no_farther), last_there (word_at bound words w % 2 ^ 32) (omega (arith, up, small)), up)
            ];
          };
    }

-- where nothing waits the labels are closed
pub closed_at_end : (n : Net) (bound s : ℕ) (words : List ℕ) (queue : List Waiting) → IsLawful n → queue ≡ [] → IsUnderway n bound s (record { words = words; queue = queue }) NonePending → IsClosed n bound s (label_at bound words)
closed_at_end n bound s words queue lawful none going =
    let under : IsUnderway n bound s (record { words = words; queue = [] }) NonePending = subst (λ (k : List Waiting). IsUnderway n bound s (record { words = words; queue = k }) NonePending) none going in
    record {
      origin = ap (label_in_word bound) under.origin ∙ label_there bound origin_word (omega arith);
      closed = closed_label n bound s words lawful under;
    }
