-- Trying an arc keeps what a search is underway with, and adds no effort.
use Rattle.std.proofs.Common.{◌≡◌, ◌≢◌, ℕ, ◌+◌, ◌-◌, ◌/◌, ◌^◌, ◌<◌, ◌≤◌, ◌⊎◌, inl, inr, true, false, ltb, length, List, ◌∷◌, sum, set, length-set, refl, sym, ap, subst, ◌∙◌, arith}
use Rattle.std.proofs.lemmas.Bool.{cases_eq, cases_lt, cases_Bool, lt-ltb, ltb-true, ltb-false}
use Rattle.std.proofs.lemmas.List.Sums.{sum_by-set}
use Rattle.std.specs.List.{All, Contains}
use Rattle.road_network.specs.Net.{Net, IsLawful, arc_of, source, target, span}
use Rattle.road_network.specs.declared.Arc.{Arc}
use Rattle.row_search.specs.declared.queue.Waiting.{Waiting}
use Rattle.row_search.specs.inside.Underway.{IsHeld, IsTried, IsUnderway, SearchState, Waits, effort, is_better, is_nearer}
use Rattle.bounded_table.specs.LabelWords.{distance_at, no_label, origin_word, word_at, word_by}
use Rattle.bounded_table.proofs.Arcs.{IsLeaving}
use Rattle.row_search.proofs.Gaining.{Gains, Tries, front_or_rest, gains_inside, gains_keeps, gains_length, gains_there}
use Rattle.bounded_table.proofs.LabelWords.{distance_by, word_elsewhere}
use Rattle.row_search.proofs.WrittenWords.{IsBetter, IsWritten, edge_small, held_after, no_node_farther, no_word_rises, not_itself, word_of, written}

-- the edges of these arcs are pending
abbrev pub IsPending : Net → List Arc → ℕ → Type 0
IsPending n arcs e = Contains arcs (arc_of n (record { 0 = e }))

-- an edge that was tried from the same distance still is
still_tried : (bound : ℕ) (n : Net) (words after : List ℕ) (f : ℕ) → ((w : ℕ) → word_at bound after w ≤ word_at bound words w) → distance_at bound after (source n f) ≡ distance_at bound words (source n f) → IsTried n bound words f → IsTried n bound after f
still_tried bound n words after f less same tried =
    let far : word_by (distance_at bound after (source n f) + span n f) f ≡ word_by (distance_at bound words (source n f) + span n f) f = ap (λ (k : ℕ). word_by (k + span n f) f) same in
    omega (arith, less (target n f), tried, far)

-- what an edge may be: its node waits, or it is pending, or it was tried
abbrev IsSeen : (bound : ℕ) → Net → SearchState → (ℕ → Type 0) → ℕ → Type 0
IsSeen bound n state pending f = Waits state.queue (source n f) (distance_at bound state.words (source n f)) ⊎ (pending f ⊎ IsTried n bound state.words f)

-- at an edge whose node keeps its distance
seen_still : (bound : ℕ) (n : Net) (old new : SearchState) (pending left : ℕ → Type 0) (f : ℕ) → ((y : Waiting) → Contains old.queue y → Contains new.queue y) → ((w : ℕ) → word_at bound new.words w ≤ word_at bound old.words w) → distance_at bound new.words (source n f) ≡ distance_at bound old.words (source n f) → (pending f → left f ⊎ IsTried n bound new.words f) → IsSeen bound n old pending f → IsSeen bound n new left f
seen_still bound n old new pending left f keeps less same splits seen =
    elim seen [
      | inl waits ↦ inl (subst (Waits new.queue (source n f)) (sym same) (keeps (record { distance = distance_at bound old.words (source n f); node = source n f }) waits))
      | inr rest ↦ elim rest [
        | inl is ↦ inr (splits is)
        | inr tried ↦ inr (inr (still_tried bound n old.words new.words f less same tried))
      ]
    ]

-- a state with its next arc pending, and the same when the arc was tried
record IsStep (n : Net) (bound d u : ℕ) (a : Arc) (old new : SearchState) : Type 0 where
  lawful : IsLawful n
  arc : IsLeaving n u a
  starts : distance_at bound old.words u ≡ d
  tries : Tries bound d a old new

same_edge : (n : Net) (a : Arc) (f : ℕ) → arc_of n (record { 0 = f }) ≡ a → f ≡ a.edge.0
same_edge n a f same = ap (λ (k : Arc). k.edge.0) same

-- the pending edge is a's, or is pending among the others
pending_splits : (n : Net) (a : Arc) (arcs : List Arc) (f : ℕ) → IsPending n (a ∷ arcs) f → (f ≡ a.edge.0) ⊎ IsPending n arcs f
pending_splits n a arcs f pending = elim (front_or_rest a arcs (arc_of n (record { 0 = f })) pending) [ inl same ↦ inl (same_edge n a f same) | inr rest ↦ inr rest ]

-- an arc that gives nothing better leaves all as it was, and its edge counts as tried
no_better : (n : Net) (bound d u s : ℕ) (a : Arc) (arcs : List Arc) (old new : SearchState) → IsStep n bound d u a old new → is_better bound d a old.words ≡ false → IsUnderway n bound s old (IsPending n (a ∷ arcs)) → IsUnderway n bound s new (IsPending n arcs)
no_better n bound d u s a arcs old new step not under =
    let words : new.words ≡ old.words = rw not at step.tries.words in
    let queue : new.queue ≡ old.queue = rw not at step.tries.queue in
    let same : new ≡ old = ap (λ (k : List ℕ). record { words = k; queue = new.queue }) words ∙ ap (λ (k : List Waiting). record { words = old.words; queue = k }) queue in
    let e : ℕ = a.edge.0 in
    let starts : distance_at bound old.words (source n e) ≡ d = ap (distance_at bound old.words) step.arc.starts ∙ step.starts in
    let length_is : a.length ≡ span n e = ap (λ (k : Arc). k.length) step.arc.is in
    let to_is : a.to.0 ≡ target n e = ap (λ (k : Arc). k.to.0) step.arc.is in
    let tried : distance_at bound old.words (source n e) + span n e ≤ bound → IsTried n bound old.words e = λ short.
    let up : word_at bound old.words a.to.0 ≤ word_by (d + a.length) e = ltb-false (word_by (d + a.length) e) (word_at bound old.words a.to.0) not in
    omega (arith, up, starts, length_is, ap (word_at bound old.words) to_is) in
    subst (λ (k : SearchState). IsUnderway n bound s k (IsPending n arcs)) (sym same) (record {
      count = under.count;
      origin = under.origin;
      held = under.held;
      tried = λ f has short. elim (under.tried f has short) [
        | inl waits ↦ inl waits
        | inr rest ↦ elim rest [
          | inl pending ↦ elim (pending_splits n a arcs f pending) [
            | inl is ↦ inr (inr (subst (IsTried n bound old.words) (sym is) (tried (subst (λ (k : ℕ). distance_at bound old.words (source n k) + span n k ≤ bound) is short))))
            | inr left ↦ inr (inl left)
          ]
          | inr is ↦ inr (inr is)
        ]
      ];
      inside = under.inside;
    })

better_at : (n : Net) (bound d u : ℕ) (a : Arc) (old new : SearchState) → IsStep n bound d u a old new → is_better bound d a old.words ≡ true → IsBetter n bound d old.words a.edge.0
better_at n bound d u a old new step is =
    let e : ℕ = a.edge.0 in
    let length_is : a.length ≡ span n e = ap (λ (k : Arc). k.length) step.arc.is in
    let to_is : a.to.0 ≡ target n e = ap (λ (k : Arc). k.to.0) step.arc.is in
    record {
      has = step.arc.has;
      starts = ap (distance_at bound old.words) step.arc.starts ∙ step.starts;
      lower = omega (arith, ltb-true (word_by (d + a.length) e) (word_at bound old.words a.to.0) is, length_is, ap (word_at bound old.words) to_is);
    }

-- no word is beyond that of no label
no_word_beyond : (n : Net) (bound s : ℕ) (state : SearchState) (pending : ℕ → Type 0) → IsUnderway n bound s state pending → (v : ℕ) → word_at bound state.words v ≤ no_label bound
no_word_beyond n bound s state pending under v =
    elim (cases_eq (word_at bound state.words v) (no_label bound)) [
      | inl none ↦ omega (arith, none)
      | inr there ↦ elim (cases_eq v s) [
        | inl same ↦ omega (arith, ap (word_at bound state.words) same, under.origin)
        | inr apart ↦ let h : IsHeld n bound state.words v = under.held v there apart in omega (arith, h.within)
      ]
    ]

-- the words of the new state, and its queue
record IsAfter (n : Net) (bound d : ℕ) (e : ℕ) (old new : SearchState) : Type 0 where
  wrote : IsWritten n bound d old.words new.words e
  count : length new.words ≡ length old.words
  keeps : (y : Waiting) → Contains old.queue y → Contains new.queue y
  nearer : d + span n e < distance_at bound old.words (target n e) → Waits new.queue (target n e) (d + span n e)
  inside : All (λ x. (x.node < length new.words) × (x.distance ≤ bound)) new.queue

after_step : (n : Net) (bound d u : ℕ) (a : Arc) (old new : SearchState) → IsStep n bound d u a old new → is_better bound d a old.words ≡ true → d + span n a.edge.0 ≤ bound → length old.words ≡ length n.nodes → All (λ x. (x.node < length old.words) × (x.distance ≤ bound)) old.queue → IsAfter n bound d a.edge.0 old new
after_step n bound d u a old new step is within count inside =
    let e : ℕ = a.edge.0 in
    let length_is : a.length ≡ span n e = ap (λ (k : Arc). k.length) step.arc.is in
    let to_is : a.to.0 ≡ target n e = ap (λ (k : Arc). k.to.0) step.arc.is in
    let better : IsBetter n bound d old.words e = better_at n bound d u a old new step is in
    let first : new.words ≡ set old.words a.to.0 (word_by (d + a.length) e) = rw is at step.tries.words in
    let words : new.words ≡ set old.words (target n e) (word_of n d e) = first ∙ (ap (λ (k : ℕ). set old.words k (word_by (d + a.length) e)) to_is ∙ ap (λ (k : ℕ). set old.words (target n e) (word_by (d + k) e)) length_is) in
    let same_count : length new.words ≡ length old.words = ap length words ∙ length-set old.words (target n e) (word_of n d e) in
    let x : Waiting = record { distance = d + a.length; node = a.to.0 } in
    let x_is : x ≡ record { distance = d + span n e; node = target n e } = ap (λ (k : ℕ). record { distance = d + k; node = a.to.0 }) length_is ∙ ap (λ (k : ℕ). record { distance = d + span n e; node = k }) to_is in
    let waits : Gains (is_nearer bound d a old.words) x old.queue new.queue = step.tries.queue in
    record {
      wrote = subst (λ (k : List ℕ). IsWritten n bound d old.words k e) (sym words) (written n bound d old.words e step.lawful count better within);
      count = same_count;
      keeps = gains_keeps (is_nearer bound d a old.words) x old.queue new.queue waits;
      nearer = λ less.
          let test : ltb (d + a.length) (distance_at bound old.words a.to.0) ≡ true = lt-ltb (d + a.length) (distance_at bound old.words a.to.0) (omega (arith, less, length_is, ap (distance_at bound old.words) to_is)) in
          let there : Contains new.queue x = gains_there (is_nearer bound d a old.words) x old.queue new.queue (rw (is, test) refl) waits in
          subst (Contains new.queue) x_is there;
      inside = gains_inside (λ y. (y.node < length new.words) × (y.distance ≤ bound)) (is_nearer bound d a old.words) x old.queue new.queue waits
          (λ near. (omega (arith, same_count, count, step.arc.end), omega (arith, within, length_is)))
          (subst (λ (k : ℕ). All (λ y. (y.node < k) × (y.distance ≤ bound)) old.queue) (sym same_count) inside);
    }

-- an edge out of the node that has the better label
seen_there : (n : Net) (bound d e : ℕ) (old new : SearchState) (arcs : List Arc) (a : Arc) (f : ℕ) → IsLawful n → a.edge.0 ≡ e → IsAfter n bound d e old new → source n f ≡ target n e → (distance_at bound old.words (source n f) + span n f ≤ bound → IsSeen bound n old (IsPending n (a ∷ arcs)) f) → distance_at bound new.words (source n f) + span n f ≤ bound → IsSeen bound n new (IsPending n arcs) f
seen_there n bound d e old new arcs a f lawful is after from before short =
    let low = after.wrote.low in
    let small : e < 2 ^ 32 - 1 = edge_small n e lawful after.wrote.better.has in
    let here : distance_at bound new.words (source n f) ≡ d + span n e = ap (distance_at bound new.words) from ∙ (ap (λ (word : ℕ). word / 2 ^ 32) low.here ∙ distance_by (d + span n e) e (omega arith)) in
    elim (cases_lt (d + span n e) (distance_at bound old.words (target n e))) [
      | inl nearer ↦
          let waits : Waits new.queue (target n e) (d + span n e) = after.nearer nearer in
          let same : record { distance = d + span n e; node = target n e } ≡ record { distance = distance_at bound new.words (source n f); node = source n f } = ap (λ (k : ℕ). record { distance = k; node = target n e }) (sym here) ∙ ap (λ (k : ℕ). record { distance = distance_at bound new.words (source n f); node = k }) (sym from) in
          inl (subst (Contains new.queue) same waits)
      | inr as_far ↦
          let no_farther : distance_at bound new.words (source n f) ≤ distance_at bound old.words (source n f) = no_node_farther bound (target n e) (word_of n d e) old.words new.words low (source n f) in
          let same : distance_at bound new.words (source n f) ≡ distance_at bound old.words (source n f) = omega (arith, here, as_far, no_farther, ap (distance_at bound old.words) from) in
          seen_still bound n old new (IsPending n (a ∷ arcs)) (IsPending n arcs) f after.keeps (no_word_rises bound (target n e) (word_of n d e) old.words new.words low) same
          (λ pending. elim (pending_splits n a arcs f pending) [
            | inl one ↦ absurd (not_itself n bound d old.words e lawful after.wrote.better (ap (source n) (sym (one ∙ is)) ∙ from))
            | inr left ↦ inl left
          ])
          (before (omega (arith, short, same)))
    ]

-- and any other edge
seen_elsewhere : (n : Net) (bound d e : ℕ) (old new : SearchState) (arcs : List Arc) (a : Arc) (f : ℕ) → a.edge.0 ≡ e → IsAfter n bound d e old new → source n f ≢ target n e → (distance_at bound old.words (source n f) + span n f ≤ bound → IsSeen bound n old (IsPending n (a ∷ arcs)) f) → distance_at bound new.words (source n f) + span n f ≤ bound → IsSeen bound n new (IsPending n arcs) f
seen_elsewhere n bound d e old new arcs a f is after apart before short =
    let low = after.wrote.low in
    let same : distance_at bound new.words (source n f) ≡ distance_at bound old.words (source n f) = ap (λ (word : ℕ). word / 2 ^ 32) (low.others (source n f) apart) in
    let tried : IsTried n bound new.words e = omega (arith, low.here, ap (λ (k : ℕ). word_by (k + span n e) e) after.wrote.starts_still) in
    seen_still bound n old new (IsPending n (a ∷ arcs)) (IsPending n arcs) f after.keeps (no_word_rises bound (target n e) (word_of n d e) old.words new.words low) same
    (λ pending. elim (pending_splits n a arcs f pending) [
      | inl one ↦ inr (subst (IsTried n bound new.words) (sym (one ∙ is)) tried)
      | inr left ↦ inl left
    ])
    (before (omega (arith, short, same)))

with_better : (n : Net) (bound d u s : ℕ) (a : Arc) (arcs : List Arc) (old new : SearchState) → IsStep n bound d u a old new → is_better bound d a old.words ≡ true → IsUnderway n bound s old (IsPending n (a ∷ arcs)) → IsUnderway n bound s new (IsPending n arcs)
with_better n bound d u s a arcs old new step is under =
    let e : ℕ = a.edge.0 in
    let better : IsBetter n bound d old.words e = better_at n bound d u a old new step is in
    let within : d + span n e ≤ bound = omega (arith, better.lower, no_word_beyond n bound s old (IsPending n (a ∷ arcs)) under (target n e)) in
    let after : IsAfter n bound d e old new = after_step n bound d u a old new step is within under.count under.inside in
    let low = after.wrote.low in
    let far : 1 ≤ span n e = step.lawful.not_empty e step.arc.has in
    let apart : s ≢ target n e = λ same.
    let at : word_at bound old.words (target n e) ≡ origin_word = ap (word_at bound old.words) (sym same) ∙ under.origin in
    omega (arith, at, low.lower) in
    record {
      count = after.count ∙ under.count;
      origin = low.others s apart ∙ under.origin;
      held = held_after n bound d s old.words new.words e step.lawful after.wrote under.held;
      tried = λ f has short. elim (cases_eq (source n f) (target n e)) [
        | inl from ↦ seen_there n bound d e old new arcs a f step.lawful refl after from (λ fits. under.tried f has fits) short
        | inr differs ↦ seen_elsewhere n bound d e old new arcs a f refl after differs (λ fits. under.tried f has fits) short
      ];
      inside = after.inside;
    }

-- a tried arc is pending no more
pub step_keeps : (n : Net) (bound d u s : ℕ) (a : Arc) (arcs : List Arc) (old new : SearchState) → IsLawful n → IsLeaving n u a → distance_at bound old.words u ≡ d → Tries bound d a old new → IsUnderway n bound s old (IsPending n (a ∷ arcs)) → IsUnderway n bound s new (IsPending n arcs)
step_keeps n bound d u s a arcs old new lawful arc starts tries under =
    let step : IsStep n bound d u a old new = record { lawful = lawful; arc = arc; starts = starts; tries = tries } in
    elim (cases_Bool (is_better bound d a old.words)) [
      | inl is ↦ with_better n bound d u s a arcs old new step is under
      | inr not ↦ no_better n bound d u s a arcs old new step not under
    ]

-- and its node keeps its distance, and the array its length
pub starts_still : (n : Net) (bound d u : ℕ) (a : Arc) (old new : SearchState) → IsLawful n → IsLeaving n u a → length old.words ≡ length n.nodes → distance_at bound old.words u ≡ d → Tries bound d a old new → (distance_at bound new.words u ≡ d) × (length new.words ≡ length n.nodes)
starts_still n bound d u a old new lawful arc count starts tries =
    let step : IsStep n bound d u a old new = record { lawful = lawful; arc = arc; starts = starts; tries = tries } in
    let e : ℕ = a.edge.0 in
    elim (cases_Bool (is_better bound d a old.words)) [
      | inl is ↦
          let first : new.words ≡ set old.words a.to.0 (word_by (d + a.length) e) = rw is at tries.words in
          let apart : u ≢ a.to.0 = λ same. not_itself n bound d old.words e lawful (better_at n bound d u a old new step is) (arc.starts ∙ (same ∙ ap (λ (k : Arc). k.to.0) arc.is)) in (
            ap (λ (k : List ℕ). distance_at bound k u) first ∙ (ap (λ (word : ℕ). word / 2 ^ 32) (word_elsewhere bound old.words a.to.0 u (word_by (d + a.length) e) apart) ∙ starts),
            ap length first ∙ (length-set old.words a.to.0 (word_by (d + a.length) e) ∙ count),
          )
      | inr not ↦
          let same : new.words ≡ old.words = rw not at tries.words in
          (ap (λ (k : List ℕ). distance_at bound k u) same ∙ starts, ap length same ∙ count)
    ]

-- the effort falls, or at least does not rise
pub no_more_effort : (bound d : ℕ) (a : Arc) (old new : SearchState) → a.to.0 < length old.words → Tries bound d a old new → effort new ≤ effort old
no_more_effort bound d a old new lt tries =
    let word : ℕ = word_by (d + a.length) a.edge.0 in
    elim (cases_Bool (is_better bound d a old.words)) [
      | inl is ↦
          let words : new.words ≡ set old.words a.to.0 word = rw is at tries.words in
          let falls : sum (set old.words a.to.0 word) + word_at bound old.words a.to.0 ≡ sum old.words + word = sum_by-set (λ (x : ℕ). x) old.words a.to.0 word (no_label bound) lt in
          let less : word < word_at bound old.words a.to.0 = ltb-true word (word_at bound old.words a.to.0) is in
          let total : sum new.words ≡ sum (set old.words a.to.0 word) = ap sum words in
          omega (arith, falls, less, total, gains_length (is_nearer bound d a old.words) (record { distance = d + a.length; node = a.to.0 }) old.queue new.queue tries.queue)
      | inr not ↦
          let words : new.words ≡ old.words = rw not at tries.words in
          let queue : new.queue ≡ old.queue = rw not at tries.queue in
          omega (arith, ap sum words, ap length queue)
    ]
