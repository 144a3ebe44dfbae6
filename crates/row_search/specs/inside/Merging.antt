-- What merging a row leaves: each node has the better one of its own label and that of the row's entry, whose
-- distance is added.
use Rattle.std.specs.Prelude.{ℕ, ◌≡◌, ◌+◌, List, [], ◌∷◌, min, slice_set}
use Rattle.std.specs.Option.{IsSome}
use Rattle.row_search.specs.declared.dijkstra.Workspace.{Workspace}
use Rattle.bounded_table.specs.declared.table_row.Entry.{Entry}
use Rattle.bounded_table.specs.LabelWords.{word_at, word_of}
use Rattle.row_search.specs.inside.Marked.{IsMarkedIn, KeepsSizes, MarkLists, lists_in}
use Rattle.bounded_table.specs.Table.{entry_in}

-- the word of an entry, by distance d farther
abbrev pub merged_word : ℕ → Entry → ℕ
merged_word d x = word_of (d + x.distance) x.last

-- the words after one entry was merged
abbrev pub merged_entry : ℕ → ℕ → Entry → List ℕ → List ℕ
merged_entry bound d x words = slice_set words x.node.0 (min (word_at bound words x.node.0) (merged_word d x))

-- the words after all of them were
abbrev pub merged : ℕ → ℕ → List Entry → List ℕ → List ℕ
merged bound d [] words = words
merged bound d (x ∷ entries) words = merged bound d entries (merged_entry bound d x words)

-- the nodes of the entries are marked too, and all that was marked
pub record MarksAlso (entries : List Entry) (before after : MarkLists) : Type 0 where
  pub kept : (v : ℕ) → IsMarkedIn before v → IsMarkedIn after v
  pub listed : (v : ℕ) → IsSome (entry_in entries v) → IsMarkedIn after v

-- all entries were merged at distance d
pub record MergesAll (d : ℕ) (entries : List Entry) (old new : Workspace) : Type 0 where
  pub words : new.words.items ≡ merged old.bound d entries old.words.items
  pub marks : MarksAlso entries (lists_in old.marks) (lists_in new.marks)
  pub sized : KeepsSizes old new
  pub queue : new.queue ≡ old.queue
