-- What a search keeps. It holds in whatever order the waiting nodes are taken: the order is only for speed.
use Rattle.std.specs.Prelude.{ℕ, ◌≡◌, ◌≢◌, ◌⊎◌, ◌+◌, ◌<◌, ◌≤◌, ◌%◌, ◌^◌, ◌&&◌, Bool, true, false, nat_lt, if◌then◌else◌, List, [], ◌∷◌, ◌++◌, length, slice_set}
use Rattle.std.specs.List.{All, Contains, sum}
use Rattle.road_network.specs.Net.{Net, HasEdge, source, target, span}
use Rattle.road_network.specs.declared.Arc.{Arc}
use Rattle.row_search.specs.declared.queue.Waiting.{Waiting}
use Rattle.row_search.specs.declared.dijkstra.Workspace.{Workspace}
use Rattle.bounded_table.specs.LabelWords.{distance_at, no_label, origin_word, word_at, word_by}

-- the words of all nodes, and the nodes that wait
pub record SearchState : Type 0 where
  pub words : List ℕ
  pub queue : List Waiting

abbrev pub state_of : Workspace → SearchState
state_of w = record { words = w.words.items; queue = w.queue }

-- node v waits at distance d
abbrev pub Waits : List Waiting → ℕ → ℕ → Type 0
Waits queue v d = Contains queue (record { distance = d; node = v })

-- the label of v came by its last edge, from a node that may have become nearer since
pub record IsHeld (n : Net) (bound : ℕ) (words : List ℕ) (v : ℕ) : Type 0 where
  pub edge : ℕ
  pub has : HasEdge n edge
  pub ends : target n edge ≡ v
  pub distance : distance_at bound words (source n edge) + span n edge ≤ distance_at bound words v
  pub last : word_at bound words v % 2 ^ 32 ≡ edge
  pub within : distance_at bound words v ≤ bound

-- the node where edge e ends has a label no worse than by this edge
abbrev pub IsTried : Net → ℕ → List ℕ → ℕ → Type 0
IsTried n bound words e = word_at bound words (target n e) ≤ word_by (distance_at bound words (source n e) + span n e) e

-- every label was held, and every edge within the bound was tried, or its node waits at its distance, or the edge is pending
pub record IsUnderway (n : Net) (bound s : ℕ) (state : SearchState) (pending : ℕ → Type 0) : Type 0 where
  pub count : length state.words ≡ length n.nodes
  pub origin : word_at bound state.words s ≡ origin_word
  pub held : (v : ℕ) → word_at bound state.words v ≢ no_label bound → v ≢ s → IsHeld n bound state.words v
  pub tried : (e : ℕ) → HasEdge n e → distance_at bound state.words (source n e) + span n e ≤ bound → Waits state.queue (source n e) (distance_at bound state.words (source n e)) ⊎ (pending e ⊎ IsTried n bound state.words e)
  pub inside : All (λ x. (x.node < length state.words) × (x.distance ≤ bound)) state.queue

-- nothing is pending
abbrev pub NonePending : ℕ → Type 0
NonePending e = ⊥

-- what falls with each step: a better label is a smaller word
abbrev pub effort : SearchState → ℕ
effort state = sum state.words + length state.queue

-- whether an arc from distance d gives its end a better label, and whether a nearer one; a node without a label is just beyond the bound
abbrev pub is_better : ℕ → ℕ → Arc → List ℕ → Bool
is_better bound d a words = nat_lt (word_by (d + a.length) a.edge.0) (word_at bound words a.to.0)

abbrev pub is_nearer : ℕ → ℕ → Arc → List ℕ → Bool
is_nearer bound d a words = is_better bound d a words && nat_lt (d + a.length) (distance_at bound words a.to.0)

-- how the end of an arc waits, from distance d
abbrev pub item_by : ℕ → Arc → Waiting
item_by d a = record { distance = d + a.length; node = a.to.0 }

-- what trying an arc from distance d leaves: a better label is written, and its node waits if it is nearer
abbrev pub words_after : ℕ → ℕ → Arc → List ℕ → List ℕ
words_after bound d a words = if is_better bound d a words then slice_set words a.to.0 (word_by (d + a.length) a.edge.0) else words

abbrev pub with_item : Bool → Waiting → List Waiting → List Waiting
with_item true x queue = queue ++ x ∷ []
with_item false x queue = queue

abbrev pub after_arc : ℕ → ℕ → Arc → SearchState → SearchState
after_arc bound d a state = record {
  words = words_after bound d a state.words;
  queue = with_item (is_nearer bound d a state.words) (item_by d a) state.queue;
}

-- an arc is tried from distance d: the words that are left, whether its end is to wait, and how
pub record RelaxesArc (d : ℕ) (a : Arc) (old new : List ℕ) (waits : Bool) (x : Waiting) : Type 0 where
  pub words : (bound : ℕ) → new ≡ words_after bound d a old
  pub nearer : (bound : ℕ) → waits ≡ is_nearer bound d a old
  pub item : x ≡ item_by d a

-- and what trying arcs one after another leaves
abbrev pub after_arcs : ℕ → ℕ → List Arc → SearchState → SearchState
after_arcs bound d [] state = state
after_arcs bound d (a ∷ arcs) state = after_arcs bound d arcs (after_arc bound d a state)
