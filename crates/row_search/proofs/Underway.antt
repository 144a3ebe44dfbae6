-- Taking a node keeps what a search is underway with, and so it begins.
use Rattle.std.proofs.Common.{◌≡◌, ◌≢◌, ℕ, suc, ◌/◌, ◌^◌, ◌<◌, ◌≤◌, inl, inr, length, List, [], ◌∷◌, map, set, length-set, sym, ap, subst, ◌∙◌, arith}
use Rattle.std.proofs.Math.ListN.{get_or-map}
use Rattle.std.proofs.lemmas.List.{length-map}
use Rattle.std.proofs.lemmas.Bool.{cases_eq}
use Rattle.std.proofs.lemmas.List.Elements.{All-cons, All-nil}
use Rattle.std.proofs.lemmas.List.Sorted.{All-permutation, Contains-permutation}
use Rattle.std.specs.List.{Contains}
use Rattle.std.specs.List.Sorted.{IsPermutation}
use Rattle.road_network.specs.Net.{Net, arc_of, source, leaving}
use Rattle.road_network.proofs.Leaving.{leaving_every}
use Rattle.row_search.specs.declared.queue.Waiting.{Waiting}
use Rattle.row_search.specs.inside.Underway.{IsUnderway, NonePending, SearchState}
use Rattle.bounded_table.specs.LabelWords.{distance_at, no_label, origin_word, word_at}
use Rattle.row_search.proofs.Gaining.{front_or_rest, in_front}
use Rattle.bounded_table.proofs.LabelWords.{word_elsewhere, word_here}
use Rattle.row_search.proofs.TriedArcs.{IsPending}

-- a node that became nearer since it waited is not taken
pub not_taken : (n : Net) (bound s : ℕ) (x : Waiting) (words : List ℕ) (queue : List Waiting) → distance_at bound words x.node ≢ x.distance → IsUnderway n bound s (record { words = words; queue = x ∷ queue }) NonePending → IsUnderway n bound s (record { words = words; queue = queue }) NonePending
not_taken n bound s x words queue stale under = record {
  count = under.count;
  origin = under.origin;
  held = under.held;
  tried = λ f has short. elim (under.tried f has short) [
    | inl waits ↦ elim (front_or_rest x queue (record { distance = distance_at bound words (source n f); node = source n f }) waits) [
      | inl same ↦ absurd (stale (ap (λ (k : Waiting). distance_at bound words k.node) (sym same) ∙ ap (λ (k : Waiting). k.distance) same))
      | inr rest ↦ inl rest
    ]
    | inr rest ↦ inr rest
  ];
  inside = λ k d lt. under.inside (suc k) d (omega arith);
}

contains_map : {X Y : Type 0} (f : X → Y) (xs : List X) (x : X) → Contains xs x → Contains (map f xs) (f x)
contains_map f xs x h = (h.0, omega (arith, h.1, length-map xs f), get_or-map f xs h.0 x ∙ ap f h.2)

-- of a node that is taken all arcs are pending
pub taken : (n : Net) (bound s : ℕ) (x : Waiting) (words : List ℕ) (queue : List Waiting) → IsUnderway n bound s (record { words = words; queue = x ∷ queue }) NonePending → IsUnderway n bound s (record { words = words; queue = queue }) (IsPending n (map (arc_of n) (leaving n x.node)))
taken n bound s x words queue under = record {
  count = under.count;
  origin = under.origin;
  held = under.held;
  tried = λ f has short. elim (under.tried f has short) [
    | inl waits ↦ elim (front_or_rest x queue (record { distance = distance_at bound words (source n f); node = source n f }) waits) [
      | inl same ↦ inr (inl (contains_map (arc_of n) (leaving n x.node) (record { 0 = f }) (leaving_every n x.node f has (ap (λ (k : Waiting). k.node) same))))
      | inr rest ↦ inl rest
    ]
    | inr rest ↦ elim rest [ inl none ↦ absurd none | inr tried ↦ inr (inr tried) ]
  ];
  inside = λ k d lt. under.inside (suc k) d (omega arith);
}

-- when all its arcs were tried none is pending
pub all_tried : (n : Net) (bound s : ℕ) (state : SearchState) → IsUnderway n bound s state (IsPending n []) → IsUnderway n bound s state NonePending
all_tried n bound s state under = record {
  count = under.count;
  origin = under.origin;
  held = under.held;
  tried = λ f has short. elim (under.tried f has short) [
    | inl waits ↦ inl waits
    | inr rest ↦ elim rest [ inl none ↦ absurd (let lt = none.1 in omega arith) | inr tried ↦ inr (inr tried) ]
  ];
  inside = under.inside;
}

-- the order of the queue does not matter
pub reordered : (n : Net) (bound s : ℕ) (words : List ℕ) (old new : List Waiting) → IsPermutation old new → IsUnderway n bound s (record { words = words; queue = old }) NonePending → IsUnderway n bound s (record { words = words; queue = new }) NonePending
reordered n bound s words old new perm under = record {
  count = under.count;
  origin = under.origin;
  held = under.held;
  tried = λ f has short. elim (under.tried f has short) [
    | inl waits ↦ inl (Contains-permutation old new (record { distance = distance_at bound words (source n f); node = source n f }) perm waits)
    | inr rest ↦ inr rest
  ];
  inside = All-permutation (λ x. (x.node < length words) × (x.distance ≤ bound)) old new perm under.inside;
}

-- a search begins with its origin waiting
pub begun : (n : Net) (bound s : ℕ) (words : List ℕ) (queue : List Waiting) → s < length n.nodes → length words ≡ length n.nodes → ((v : ℕ) → word_at bound words v ≡ no_label bound) → IsPermutation (record { distance = 0; node = s } ∷ []) queue → IsUnderway n bound s (record { words = set words s origin_word; queue = queue }) NonePending
begun n bound s words queue has count none perm =
    let lt : s < length words = omega (arith, count) in
    let after : List ℕ = set words s origin_word in
    let here : word_at bound after s ≡ origin_word = word_here bound words s origin_word lt in
    let x : Waiting = record { distance = 0; node = s } in
    let others : (v : ℕ) → v ≢ s → word_at bound after v ≡ no_label bound = λ v apart. word_elsewhere bound words s v origin_word apart ∙ none v in
    record {
      count = length-set words s origin_word ∙ count;
      origin = here;
      held = λ v there apart. absurd (there (others v apart));
      tried = λ f got short. elim (cases_eq (source n f) s) [
        | inl same ↦
            let far : distance_at bound after (source n f) ≡ 0 = ap (λ (k : ℕ). word_at bound after k / 2 ^ 32) same ∙ ap (λ (word : ℕ). word / 2 ^ 32) here in
            let is : x ≡ record { distance = distance_at bound after (source n f); node = source n f } = ap (λ (k : ℕ). record { distance = k; node = s }) (sym far) ∙ ap (λ (k : ℕ). record { distance = distance_at bound after (source n f); node = k }) (sym same) in
            inl (subst (Contains queue) is (Contains-permutation (x ∷ []) queue x perm (in_front x [])))
        | inr apart ↦ absurd (let beyond : word_at bound after (source n f) ≡ no_label bound = others (source n f) apart in omega (arith, beyond, short))
      ];
      inside = All-permutation (λ y. (y.node < length after) × (y.distance ≤ bound)) (x ∷ []) queue perm
          (All-cons (λ y. (y.node < length after) × (y.distance ≤ bound)) x [] (omega (arith, lt, length-set words s origin_word), omega arith) (All-nil (λ y. (y.node < length after) × (y.distance ≤ bound))));
    }
