-- What leaving a node keeps, where others were taken with it: the search, and what is marked.
use Rattle.std.proofs.Common.{◌≡◌, ◌≢◌, ℕ, ◌+◌, ◌/◌, ◌^◌, ◌<◌, ◌≤◌, ◌⊎◌, inl, inr, false, ltb, length, List, [], ◌∷◌, ◌++◌, map, set, refl, sym, ap, subst, ◌∙◌, arith}
use Rattle.std.proofs.lemmas.Bool.{cases_eq, cases_Bool, ltb-true, ltb-false}
use Rattle.std.proofs.lemmas.List.Elements.{All-tail}
use Rattle.std.proofs.lemmas.List.Sorted.{All-permutation, Contains-permutation, length_permutation}
use Rattle.std.specs.List.{All, Contains}
use Rattle.std.specs.List.Sorted.{IsPermutation}
use Rattle.road_network.specs.Net.{Net, HasNode, IsLawful, arc_of, leaving}
use Rattle.road_network.specs.declared.Arc.{Arc}
use Rattle.row_search.specs.declared.dijkstra.Workspace.{Workspace}
use Rattle.row_search.specs.declared.marks.Marks.{Marks}
use Rattle.row_search.specs.declared.queue.Waiting.{Waiting}
use Rattle.bounded_table.specs.LabelWords.{distance_at, no_label, origin_word, word_at, word_by}
use Rattle.row_search.specs.inside.Marked.{AllMarked, IsMarked, MarksToo}
use Rattle.row_search.specs.inside.Searching.{AreMarkedOrWait, IsSearching}
use Rattle.row_search.specs.inside.Underway.{IsUnderway, SearchState, Waits, after_arc, after_arcs, effort, is_better, is_nearer, state_of}
use Rattle.row_search.proofs.AfterArcs.{beside, tries_arc}
use Rattle.bounded_table.proofs.Arcs.{IsLeaving, known_arcs}
use Rattle.row_search.proofs.Gaining.{Tries, front_or_rest, gains_beside, gains_keeps, gains_there}
use Rattle.bounded_table.proofs.LabelWords.{distance_by, not_farther, word_elsewhere, word_here}
use Rattle.row_search.proofs.TriedArcs.{IsPending, no_more_effort, starts_still, step_keeps}
use Rattle.row_search.proofs.Underway.{reordered, taken}
use Rattle.row_search.proofs.WrittenWords.{edge_small}

-- a search from s with others taken, while the arcs of a node are tried
pub record IsTrying (n : Net) (bound s : ℕ) (state : SearchState) (marks : Marks) (taken : List Waiting) (pending : ℕ → Type 0) : Type 0 where
  pub underway : IsUnderway n bound s (beside taken state) pending
  pub marked : AreMarkedOrWait bound state.words marks (taken ++ state.queue)

-- an arc is tried beside them as without them
pub tries_beside : (bound d : ℕ) (a : Arc) (taken : List Waiting) (old new : SearchState) → Tries bound d a old new → Tries bound d a (beside taken old) (beside taken new)
tries_beside bound d a taken old new tries = record {
  words = tries.words;
  queue = gains_beside (is_nearer bound d a old.words) (record { distance = d + a.length; node = a.to.0 }) taken old.queue new.queue tries.queue;
}

-- a node that is taken is marked
pub marked_taken : (bound : ℕ) (words : List ℕ) (before after : Marks) (x : Waiting) (queue : List Waiting) → MarksToo before x.node after → AreMarkedOrWait bound words before (x ∷ queue) → AreMarkedOrWait bound words after queue
marked_taken bound words before after x queue more marked v there = elim (marked v there) [
  | inl waits ↦ elim (front_or_rest x queue (record { distance = distance_at bound words v; node = v }) waits) [
    | inl same ↦ inr (subst (IsMarked after) (sym (ap (λ (k : Waiting). k.node) same)) more.added)
    | inr rest ↦ inl rest
  ]
  | inr is ↦ inr (more.kept v is)
]

-- and one that became nearer since it waited needs no mark by it
pub marked_not_taken : (bound : ℕ) (words : List ℕ) (marks : Marks) (x : Waiting) (queue : List Waiting) → distance_at bound words x.node ≢ x.distance → AreMarkedOrWait bound words marks (x ∷ queue) → AreMarkedOrWait bound words marks queue
marked_not_taken bound words marks x queue stale marked v there = elim (marked v there) [
  | inl waits ↦ elim (front_or_rest x queue (record { distance = distance_at bound words v; node = v }) waits) [
    | inl same ↦ absurd (stale (ap (λ (k : Waiting). distance_at bound words k.node) (sym same) ∙ ap (λ (k : Waiting). k.distance) same))
    | inr rest ↦ inl rest
  ]
  | inr is ↦ inr is
]

-- a node whose distance stays is marked or waits as before
waits_still : (bound : ℕ) (words after : List ℕ) (marks : Marks) (old new : List Waiting) (v : ℕ) → ((y : Waiting) → Contains old y → Contains new y) → distance_at bound after v ≡ distance_at bound words v → Waits old v (distance_at bound words v) ⊎ IsMarked marks v → Waits new v (distance_at bound after v) ⊎ IsMarked marks v
waits_still bound words after marks old new v keeps same seen = elim seen [
  | inl waits ↦ inl (subst (Waits new v) (sym same) (keeps (record { distance = distance_at bound words v; node = v }) waits))
  | inr is ↦ inr is
]

-- what an arc that was tried leaves of it
pub marked_tried : (bound d : ℕ) (a : Arc) (marks : Marks) (old new : SearchState) → a.to.0 < length old.words → a.edge.0 < 2 ^ 32 → Tries bound d a old new → AreMarkedOrWait bound old.words marks old.queue → AreMarkedOrWait bound new.words marks new.queue
marked_tried bound d a marks old new inside small tries marked v there =
    let u : ℕ = a.to.0 in
    let x : Waiting = record { distance = d + a.length; node = u } in
    let word : ℕ = word_by (d + a.length) a.edge.0 in
    let keeps = gains_keeps (is_nearer bound d a old.words) x old.queue new.queue tries.queue in
    elim (cases_Bool (is_better bound d a old.words)) [
      | inr not ↦
          let words : new.words ≡ old.words = rw not at tries.words in
          waits_still bound old.words new.words marks old.queue new.queue v keeps (ap (λ (k : List ℕ). distance_at bound k v) words) (marked v (subst (λ (k : List ℕ). word_at bound k v ≢ no_label bound) words there))
      | inl is ↦
          let words : new.words ≡ set old.words u word = rw is at tries.words in
          elim (cases_eq v u) [
            | inr apart ↦
                let same : word_at bound new.words v ≡ word_at bound old.words v = ap (λ (k : List ℕ). word_at bound k v) words ∙ word_elsewhere bound old.words u v word apart in
                waits_still bound old.words new.words marks old.queue new.queue v keeps (ap (λ (k : ℕ). k / 2 ^ 32) same) (marked v (λ none. there (same ∙ none)))
            | inl at ↦
                let here : word_at bound new.words v ≡ word = ap (word_at bound new.words) at ∙ (ap (λ (k : List ℕ). word_at bound k u) words ∙ word_here bound old.words u word inside) in
                let far : distance_at bound new.words v ≡ d + a.length = ap (λ (k : ℕ). k / 2 ^ 32) here ∙ distance_by (d + a.length) a.edge.0 small in
                elim (cases_Bool (is_nearer bound d a old.words)) [
                  | inl nearer ↦
                      let waits : Contains new.queue x = gains_there (is_nearer bound d a old.words) x old.queue new.queue nearer tries.queue in
                      inl (subst (λ (k : ℕ). Waits new.queue k (distance_at bound new.words v)) (sym at) (subst (Waits new.queue u) (sym far) waits))
                  | inr as_far ↦
                      let test : ltb (d + a.length) (distance_at bound old.words u) ≡ false = rw is at as_far in
                      let no_nearer : distance_at bound old.words u ≤ d + a.length = ltb-false (d + a.length) (distance_at bound old.words u) test in
                      let less : word < word_at bound old.words u = ltb-true word (word_at bound old.words u) is in
                      let no_farther : word / 2 ^ 32 ≤ distance_at bound old.words u = not_farther word (word_at bound old.words u) (omega (arith, less)) in
                      let same : distance_at bound new.words v ≡ distance_at bound old.words v = omega (arith, far, no_nearer, no_farther, distance_by (d + a.length) a.edge.0 small, ap (distance_at bound old.words) at) in
                      let some : word_at bound old.words v ≢ no_label bound = λ none. absurd (omega (arith, less, no_nearer, none, ap (word_at bound old.words) at)) in
                      waits_still bound old.words new.words marks old.queue new.queue v keeps same (marked v some)
                ]
          ]
    ]

-- at the start the origin waits, and no other node is labelled
pub marked_begun : (bound s : ℕ) (words after : List ℕ) (marks : Marks) (queue : List Waiting) → s < length words → ((v : ℕ) → word_at bound words v ≡ no_label bound) → after ≡ set words s origin_word → IsPermutation (record { distance = 0; node = s } ∷ []) queue → AreMarkedOrWait bound after marks queue
marked_begun bound s words after marks queue lt none is waits v there = elim (cases_eq v s) [
  | inl same ↦
      let here : word_at bound after v ≡ origin_word = ap (word_at bound after) same ∙ (ap (λ (k : List ℕ). word_at bound k s) is ∙ word_here bound words s origin_word lt) in
      let far : distance_at bound after v ≡ 0 = omega (arith, here) in
      let x : Contains queue (record { distance = 0; node = s }) = Contains-permutation (record { distance = 0; node = s } ∷ []) queue (record { distance = 0; node = s }) waits (0, omega arith, refl) in
      inl (subst (λ (k : ℕ). Waits queue v k) (sym far) (subst (λ (k : ℕ). Waits queue k 0) (sym same) x))
  | inr apart ↦ absurd (there (ap (λ (k : List ℕ). word_at bound k v) is ∙ (word_elsewhere bound words s v origin_word apart ∙ none v)))
]

-- a node is taken out of the queue
pub node_taken : (n : Net) (s : ℕ) (w : Workspace) (x : Waiting) (new : List Waiting) → IsPermutation w.queue (x ∷ new) → IsSearching n s w [] → IsSearching n s (record { bound = w.bound; merge_limit = w.merge_limit; words = w.words; marks = w.marks; queue = new; found = w.found }) (x ∷ [])
node_taken n s w x new perm h = record {
  sized = record { low = h.sized.low; few = h.sized.few; words_count = h.sized.words_count; marks = h.sized.marks };
  underway = reordered n w.bound s w.words.items w.queue (x ∷ new) perm h.underway;
  marked = λ v there. elim (h.marked v there) [
    | inl waits ↦ inl (Contains-permutation w.queue (x ∷ new) (record { distance = distance_at w.bound w.words.items v; node = v }) perm waits)
    | inr is ↦ inr is
  ];
}

-- so fewer wait
pub fewer_wait : (old new : List Waiting) (x : Waiting) → IsPermutation old (x ∷ new) → length new < length old
fewer_wait old new x perm = omega (arith, length_permutation old (x ∷ new) perm)

-- and the network has that node, at a distance within the bound
pub taken_inside : (n : Net) (s : ℕ) (w : Workspace) (x : Waiting) (new : List Waiting) → IsPermutation w.queue (x ∷ new) → IsSearching n s w [] → HasNode n x.node × (x.distance ≤ 10_000_000)
taken_inside n s w x new perm h =
    let all = All-permutation (λ y. (y.node < length w.words.items) × (y.distance ≤ w.bound)) w.queue (x ∷ new) perm h.underway.inside in
    let is : (x.node < length w.words.items) × (x.distance ≤ w.bound) = all 0 x (omega arith) in
    (omega (arith, is.0, h.sized.words_count), omega (arith, is.1, h.sized.low))

-- all arcs out of a node are tried
pub arcs_keep : (n : Net) (bound d u s : ℕ) (arcs : List Arc) (marks : Marks) (others : List Waiting) (state : SearchState) → IsLawful n → All (IsLeaving n u) arcs → distance_at bound state.words u ≡ d → IsTrying n bound s state marks others (IsPending n arcs) → IsTrying n bound s (after_arcs bound d arcs state) marks others (IsPending n [])
arcs_keep n bound d u s [] marks others state lawful leaving starts t = t
arcs_keep n bound d u s (a ∷ arcs) marks others state lawful leaving starts t =
    let arc : IsLeaving n u a = leaving 0 a (omega arith) in
    let new : SearchState = after_arc bound d a state in
    let tries : Tries bound d a state new = tries_arc bound d a state in
    let there : Tries bound d a (beside others state) (beside others new) = tries_beside bound d a others state new tries in
    let count : length state.words ≡ length n.nodes = t.underway.count in
    let still = starts_still n bound d u a state new lawful arc count starts tries in
    arcs_keep n bound d u s arcs marks others new lawful (All-tail (IsLeaving n u) a arcs leaving) still.0 (record {
      underway = step_keeps n bound d u s a arcs (beside others state) (beside others new) lawful arc starts there t.underway;
      marked = marked_tried bound d a marks (beside others state) (beside others new) (omega (arith, arc.end, count)) (omega (arith, edge_small n a.edge.0 lawful arc.has)) there t.marked;
    })

-- and the effort does not rise
pub arcs_effort : (n : Net) (bound d u : ℕ) (arcs : List Arc) (state : SearchState) → IsLawful n → All (IsLeaving n u) arcs → length state.words ≡ length n.nodes → distance_at bound state.words u ≡ d → effort (after_arcs bound d arcs state) ≤ effort state
arcs_effort n bound d u [] state lawful leaving count starts = omega arith
arcs_effort n bound d u (a ∷ arcs) state lawful leaving count starts =
    let arc : IsLeaving n u a = leaving 0 a (omega arith) in
    let new : SearchState = after_arc bound d a state in
    let tries : Tries bound d a state new = tries_arc bound d a state in
    let still = starts_still n bound d u a state new lawful arc count starts tries in
    let rest : effort (after_arcs bound d arcs new) ≤ effort new = arcs_effort n bound d u arcs new lawful (All-tail (IsLeaving n u) a arcs leaving) still.1 still.0 in
    let one : effort new ≤ effort state = no_more_effort bound d a state new (omega (arith, arc.end, count)) tries in
    omega (arith, rest, one)

-- a node that was taken is left
pub node_left : (n : Net) (s : ℕ) (w : Workspace) (next : Waiting) (others : List Waiting) (marks : Marks) (new : SearchState) → IsLawful n → HasNode n next.node → distance_at w.bound w.words.items next.node ≡ next.distance → MarksToo w.marks next.node marks → new ≡ after_arcs w.bound next.distance (map (arc_of n) (leaving n next.node)) (state_of w) → IsSearching n s w (next ∷ others) → IsTrying n w.bound s new marks others (IsPending n [])
node_left n s w next others marks new lawful has starts more is h =
    let u : ℕ = next.node in
    let arcs : List Arc = map (arc_of n) (leaving n u) in
    subst (λ (k : SearchState). IsTrying n w.bound s k marks others (IsPending n [])) (sym is) (arcs_keep n w.bound next.distance u s arcs marks others (state_of w) lawful (known_arcs n u lawful) starts (record {
      underway = taken n w.bound s next w.words.items (others ++ w.queue) h.underway;
      marked = marked_taken w.bound w.words.items w.marks marks next (others ++ w.queue) more h.marked;
    }))

-- at the end none waits, so all labelled nodes are marked
pub all_marked : (n : Net) (s : ℕ) (w : Workspace) → w.queue ≡ [] → IsSearching n s w [] → AllMarked w.bound w.words.items w.marks
all_marked n s w none h v there = elim (h.marked v there) [
  | inl waits ↦ absurd (let at : Contains [] (record { distance = distance_at w.bound w.words.items v; node = v }) = subst (λ (k : List Waiting). Contains k (record { distance = distance_at w.bound w.words.items v; node = v })) none waits in let lt = at.1 in omega arith)
  | inr is ↦ is
]
