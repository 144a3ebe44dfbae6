-- What the parts of a search leave.
use Rattle.std.specs.Prelude.{ℕ, ◌≡◌, ◌≢◌, ◌⊎◌, ◌≤◌, List, ◌++◌, length, Option, Result, OnOk}
use Rattle.road_network.specs.Net.{Net}
use Rattle.row_search.specs.declared.dijkstra.Workspace.{Workspace}
use Rattle.row_search.specs.declared.marks.Marks.{Marks}
use Rattle.row_search.specs.declared.queue.Waiting.{Waiting}
use Rattle.bounded_table.specs.declared.table_row.Entry.{Entry}
use Rattle.bounded_table.specs.declared.table_row.Label.{Label}
use Rattle.bounded_table.specs.LabelWords.{distance_at, no_label, word_at}
use Rattle.row_search.specs.inside.Marked.{IsClean, IsMarked, IsSized, KeepsSizes}
use Rattle.bounded_table.specs.Table.{RisesFrom, label_in}
use Rattle.row_search.specs.inside.Underway.{IsUnderway, NonePending, Waits, effort, state_of}

-- every labelled node is marked, or waits at its distance
abbrev pub AreMarkedOrWait : ℕ → List ℕ → Marks → List Waiting → Type 0
AreMarkedOrWait bound words marks queue = (v : ℕ) → word_at bound words v ≢ no_label bound → Waits queue v (distance_at bound words v) ⊎ IsMarked marks v

-- a search with these nodes taken out of the queue and not left yet: it is as if they waited
pub record IsSearching (n : Net) (s : ℕ) (w : Workspace) (taken : List Waiting) : Type 0 where
  pub sized : IsSized (length n.nodes) w
  pub underway : IsUnderway n w.bound s (record { words = w.words.items; queue = taken ++ w.queue }) NonePending
  pub marked : AreMarkedOrWait w.bound w.words.items w.marks (taken ++ w.queue)

-- leaving nodes that were taken keeps the search underway without them, and adds no effort
pub record Leaves (n : Net) (nodes : List Waiting) (old new : Workspace) : Type 0 where
  pub searching : (s : ℕ) (taken : List Waiting) → IsSearching n s old (nodes ++ taken) → IsSearching n s new taken
  pub less : effort (state_of new) ≤ effort (state_of old)

-- the entries say what the labels say, by rising node number
pub record ListsLabels (labels : ℕ → Option Label) (entries : List Entry) : Type 0 where
  pub rising : RisesFrom 0 entries
  pub same : (v : ℕ) → label_in entries v ≡ labels v

-- the arrays keep their sizes, and after Ok nothing is left in them
pub record EndsClean {A E : Type 0} (result : Result A E) (old new : Workspace) : Type 0 where
  pub sized : KeepsSizes old new
  pub clean : OnOk result (IsClean (length old.words.items) new)
