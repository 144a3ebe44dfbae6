-- Marks for the nodes that may be labelled, by octets of 8 nodes, regions of 512 and areas of 262,144. In a search all labelled nodes are marked.
use Rattle.std.specs.Prelude.{ℕ, ◌≡◌, ◌≢◌, ◌+◌, ◌*◌, ◌/◌, ◌<◌, ◌≤◌, ◌⊎◌, List, [], Option, None, length, slice_index_or}
use Rattle.std.specs.List.{All}
use Rattle.row_search.specs.declared.dijkstra.Workspace.{Workspace}
use Rattle.row_search.specs.declared.marks.Marks.{Marks}
use Rattle.bounded_table.specs.declared.table_row.Entry.{Entry}
use Rattle.bounded_table.specs.declared.table_row.Label.{Label}
use Rattle.bounded_table.specs.LabelWords.{no_label, word_at}
use Rattle.row_search.specs.inside.Labels.{edge_label_at}
use Rattle.bounded_table.specs.Table.{RisesFrom, label_in}

-- the labels of a search, as if each had a last edge
abbrev pub edge_labels_of : Workspace → ℕ → Option Label
edge_labels_of w = edge_label_at w.bound w.words.items

-- a mark is set
abbrev pub IsSet : List ℕ → ℕ → Type 0
IsSet marks k = slice_index_or marks k 0 ≢ 0

-- none of eight marks next to each other is set
abbrev pub NoneOf : List ℕ → ℕ → Type 0
NoneOf marks eight = (k : ℕ) → k < 8 → slice_index_or marks (eight * 8 + k) 0 ≡ 0

-- the marks of octets, regions and areas
pub record MarkLists : Type 0 where
  pub octets : List ℕ
  pub regions : List ℕ
  pub areas : List ℕ

abbrev pub lists_of : List ℕ → List ℕ → List ℕ → MarkLists
lists_of octets regions areas = record { octets = octets; regions = regions; areas = areas }

abbrev pub lists_in : Marks → MarkLists
lists_in m = lists_of m.octets.items m.regions.items m.areas.items

-- node v is marked: its octet, its region and its area are
pub record IsMarkedIn (m : MarkLists) (v : ℕ) : Type 0 where
  pub octet : IsSet m.octets (v / 8)
  pub region : IsSet m.regions (v / 512)
  pub area : IsSet m.areas (v / 262_144)

abbrev pub IsMarked : Marks → ℕ → Type 0
IsMarked m v = IsMarkedIn (lists_in m) v

-- marks for this many nodes
pub record AreListsFor (count : ℕ) (m : MarkLists) : Type 0 where
  pub areas : length m.areas ≡ count / 262_144 + 1
  pub regions : length m.regions ≡ length m.areas * 512
  pub octets : length m.octets ≡ length m.regions * 64

abbrev pub AreMarksFor : ℕ → Marks → Type 0
AreMarksFor count m = AreListsFor count (lists_in m)

-- they are marks for as many nodes as before
abbrev pub KeepsMarkSizes : Marks → Marks → Type 0
KeepsMarkSizes old new = (count : ℕ) → AreMarksFor count old → AreMarksFor count new

-- node v is marked too, and all that was marked
pub record MarksToo (before : Marks) (v : ℕ) (after : Marks) : Type 0 where
  pub kept : (w : ℕ) → IsMarked before w → IsMarked after w
  pub added : IsMarked after v

-- so it is in the lists of marks
pub record MarksNode (before : MarkLists) (v : ℕ) (after : MarkLists) : Type 0 where
  pub kept : (w : ℕ) → IsMarkedIn before w → IsMarkedIn after w
  pub added : IsMarkedIn after v

-- the regions of the nodes from one number on, up to another, are marked with their areas
abbrev pub IsDoneTo : MarkLists → ℕ → ℕ → Type 0
IsDoneTo m from end = (v : ℕ) → from ≤ v → v < end → IsSet m.regions (v / 512) × IsSet m.areas (v / 262_144)

-- arrays for this many nodes, and a bound that a table may have
pub record IsSized (count : ℕ) (w : Workspace) : Type 0 where
  pub low : w.bound ≤ 10_000_000
  pub few : count ≤ 1_000_000_000
  pub words_count : length w.words.items ≡ count
  pub marks : AreMarksFor count w.marks

-- the bound and the sizes of the arrays are as before
pub record KeepsSizes (old new : Workspace) : Type 0 where
  pub bound : new.bound ≡ old.bound
  pub words_count : length new.words.items ≡ length old.words.items
  pub marks : KeepsMarkSizes old.marks new.marks

-- no word is beyond that of no label
abbrev pub NoneBeyond : ℕ → List ℕ → Type 0
NoneBeyond bound words = (v : ℕ) → word_at bound words v ≤ no_label bound

-- every node that is labelled is marked
abbrev pub AllMarked : ℕ → List ℕ → Marks → Type 0
AllMarked bound words marks = (v : ℕ) → word_at bound words v ≢ no_label bound → IsMarked marks v

-- between two searches no node is labelled or waits
pub record IsClean (count : ℕ) (w : Workspace) : Type 0 where
  pub sized : IsSized count w
  pub none_labelled : (v : ℕ) → word_at w.bound w.words.items v ≡ no_label w.bound
  pub none_waiting : w.queue ≡ []

-- the label that node v had before is still there, or has become its entry
abbrev pub IsKeptOrTaken : ℕ → List ℕ → List ℕ → List Entry → ℕ → Type 0
IsKeptOrTaken bound before words entries v =
    ((word_at bound words v ≡ word_at bound before v) × (label_in entries v ≡ None))
    ⊎ ((word_at bound words v ≡ no_label bound) × (label_in entries v ≡ edge_label_at bound before v))

-- of the labels that there were before, those of nodes below b have become entries, and no other
pub record AllTaken (bound : ℕ) (before : List ℕ) (b : ℕ) (words : List ℕ) (entries : List Entry) : Type 0 where
  pub most : NoneBeyond bound before
  pub rising : RisesFrom 0 entries
  pub below : All (λ x. x.node.0 < b) entries
  pub above : (v : ℕ) → word_at bound words v ≢ no_label bound → b ≤ v
  pub each : (v : ℕ) → IsKeptOrTaken bound before words entries v

-- the labels of the nodes from one number on, up to another, have become entries too
pub record TakesNodes (bound from to : ℕ) (old : List ℕ) (listed : List Entry) (new : List ℕ) (entries : List Entry) : Type 0 where
  pub taken : (before : List ℕ) → AllTaken bound before from old listed → AllTaken bound before to new entries
  pub fewer : (v : ℕ) → word_at bound new v ≢ no_label bound → word_at bound old v ≢ no_label bound

-- what taking labels out changes: words, marks of octets, and the entries that are listed
pub record Listing : Type 0 where
  pub words : List ℕ
  pub octets : List ℕ
  pub entries : List Entry

abbrev pub listing : List ℕ → List ℕ → List Entry → Listing
listing words octets entries = record { words = words; octets = octets; entries = entries }

-- so it is where the octets of labelled nodes are marked; from the second number on, their marks stay
pub record TakesMarked (bound from to : ℕ) (old new : Listing) : Type 0 where
  pub taken : (before : List ℕ) → ((v : ℕ) → word_at bound old.words v ≢ no_label bound → IsSet old.octets (v / 8)) → AllTaken bound before from old.words old.entries → AllTaken bound before to new.words new.entries
  pub fewer : (v : ℕ) → word_at bound new.words v ≢ no_label bound → word_at bound old.words v ≢ no_label bound
  pub marked : (v : ℕ) → to ≤ v → IsSet old.octets (v / 8) → IsSet new.octets (v / 8)

-- so it is in a search, where what is still labelled is marked
pub record IsTaken (before : List ℕ) (b : ℕ) (w : Workspace) : Type 0 where
  pub taken : AllTaken w.bound before b w.words.items w.found
  pub marked : AllMarked w.bound w.words.items w.marks

-- taking them keeps that, and who waits
pub record Takes (from to : ℕ) (old new : Workspace) : Type 0 where
  pub taken : (before : List ℕ) → IsTaken before from old → IsTaken before to new
  pub queue : new.queue ≡ old.queue
