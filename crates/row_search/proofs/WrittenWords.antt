-- Words of which one is lowered: the end of an edge gets a better label.
use Rattle.std.proofs.Common.{◌≡◌, ◌≢◌, ℕ, ◌+◌, ◌-◌, ◌/◌, ◌%◌, ◌^◌, ◌<◌, ◌≤◌, inl, inr, length, List, set, sym, ap, ◌∙◌, arith}
use Rattle.std.proofs.lemmas.Bool.{cases_eq}
use Rattle.road_network.specs.Net.{Net, HasEdge, IsLawful, source, target, span}
use Rattle.row_search.specs.inside.Underway.{IsHeld}
use Rattle.bounded_table.specs.LabelWords.{distance_at, no_label, word_at, word_by}
use Rattle.bounded_table.proofs.LabelWords.{distance_by, last_by, not_farther, word_elsewhere, word_here}

-- an array in which v has a smaller word
pub record IsLowered (bound : ℕ) (v word : ℕ) (words after : List ℕ) : Type 0 where
  pub here : word_at bound after v ≡ word
  pub others : (w : ℕ) → w ≢ v → word_at bound after w ≡ word_at bound words w
  pub lower : word < word_at bound words v

lowered : (bound : ℕ) (words : List ℕ) (v word : ℕ) → v < length words → word < word_at bound words v → IsLowered bound v word words (set words v word)
lowered bound words v word lt less = record { here = word_here bound words v word lt; others = λ w apart. word_elsewhere bound words v w word apart; lower = less }

pub no_word_rises : (bound : ℕ) (v word : ℕ) (words after : List ℕ) → IsLowered bound v word words after → (w : ℕ) → word_at bound after w ≤ word_at bound words w
no_word_rises bound v word words after low w =
    elim (cases_eq w v) [
      | inl same ↦ omega (arith, ap (word_at bound after) same, ap (word_at bound words) same, low.here, low.lower)
      | inr apart ↦ omega (arith, low.others w apart)
    ]

pub no_node_farther : (bound : ℕ) (v word : ℕ) (words after : List ℕ) → IsLowered bound v word words after → (w : ℕ) → distance_at bound after w ≤ distance_at bound words w
no_node_farther bound v word words after low w = not_farther (word_at bound after w) (word_at bound words w) (no_word_rises bound v word words after low w)

-- a better label by edge e, which begins at distance d and ends within the bound
pub record IsBetter (n : Net) (bound d : ℕ) (words : List ℕ) (e : ℕ) : Type 0 where
  pub has : HasEdge n e
  pub starts : distance_at bound words (source n e) ≡ d
  pub lower : word_by (d + span n e) e < word_at bound words (target n e)

abbrev pub word_of : Net → ℕ → ℕ → ℕ
word_of n d e = word_by (d + span n e) e

pub edge_small : (n : Net) (e : ℕ) → IsLawful n → HasEdge n e → e < 2 ^ 32 - 1
edge_small n e lawful has = omega (arith, lawful.few_edges)

-- it is not the label of the edge's own node
pub not_itself : (n : Net) (bound d : ℕ) (words : List ℕ) (e : ℕ) → IsLawful n → IsBetter n bound d words e → source n e ≢ target n e
not_itself n bound d words e lawful better same =
    let far : distance_at bound words (target n e) ≡ d = ap (distance_at bound words) (sym same) ∙ better.starts in
    omega (arith, far, better.lower, lawful.not_empty e better.has)

-- the words after it
pub record IsWritten (n : Net) (bound d : ℕ) (words after : List ℕ) (e : ℕ) : Type 0 where
  pub better : IsBetter n bound d words e
  pub within : d + span n e ≤ bound
  pub low : IsLowered bound (target n e) (word_of n d e) words after
  pub starts_still : distance_at bound after (source n e) ≡ d

pub written : (n : Net) (bound d : ℕ) (words : List ℕ) (e : ℕ) → IsLawful n → length words ≡ length n.nodes → IsBetter n bound d words e → d + span n e ≤ bound → IsWritten n bound d words (set words (target n e) (word_of n d e)) e
written n bound d words e lawful count better within =
    let v : ℕ = target n e in
    let low : IsLowered bound v (word_of n d e) words (set words v (word_of n d e)) = lowered bound words v (word_of n d e) (omega (arith, count, lawful.targets e better.has)) better.lower in
    record {
      better = better;
      within = within;
      low = low;
      starts_still = ap (λ (word : ℕ). word / 2 ^ 32) (low.others (source n e) (not_itself n bound d words e lawful better)) ∙ better.starts;
    }

pub held_after : (n : Net) (bound d s : ℕ) (words after : List ℕ) (e : ℕ) → IsLawful n → IsWritten n bound d words after e → ((v : ℕ) → word_at bound words v ≢ no_label bound → v ≢ s → IsHeld n bound words v) → (v : ℕ) → word_at bound after v ≢ no_label bound → v ≢ s → IsHeld n bound after v
held_after n bound d s words after e lawful w held v there apart =
    elim (cases_eq v (target n e)) [
      | inl same ↦
          let here : word_at bound after v ≡ word_of n d e = ap (word_at bound after) same ∙ w.low.here in
          let small : e < 2 ^ 32 - 1 = edge_small n e lawful w.better.has in
          let far : distance_at bound after v ≡ d + span n e = ap (λ (word : ℕ). word / 2 ^ 32) here ∙ distance_by (d + span n e) e (omega arith) in
          record {
            edge = e;
            has = w.better.has;
            ends = sym same;
            distance = omega (arith, far, w.starts_still);
            last = ap (λ (word : ℕ). word % 2 ^ 32) here ∙ last_by (d + span n e) e (omega arith);
            within = omega (arith, far, w.within);
          }
      | inr differs ↦
          let is : word_at bound after v ≡ word_at bound words v = w.low.others v differs in
          let old : IsHeld n bound words v = held v (λ none. there (is ∙ none)) apart in
          let far : distance_at bound after v ≡ distance_at bound words v = ap (λ (word : ℕ). word / 2 ^ 32) is in
          record {
            edge = old.edge;
            has = old.has;
            ends = old.ends;
            distance = omega (arith, far, old.distance, no_node_farther bound (target n e) (word_of n d e) words after w.low (source n old.edge));
            last = ap (λ (word : ℕ). word % 2 ^ 32) is ∙ old.last;
            within = omega (arith, far, old.within);
          }
    ]
