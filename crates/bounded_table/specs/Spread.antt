-- The words of a row's labels, spread over an array by node.
use Rattle.std.specs.Prelude.{ℕ, ◌≡◌, ◌+◌, ◌<◌, ◌≤◌, ◌^◌, ◌↔◌, Bool, IsTrue, List, Option, Some, None, length}
use Rattle.std.specs.List.{All}
use Rattle.road_network.specs.Net.{Net, HasNode}
use Rattle.bounded_table.specs.declared.table_row.Entry.{Entry}
use Rattle.bounded_table.specs.declared.table_row.Label.{Label}
use Rattle.bounded_table.specs.LabelWords.{low_of, no_label, word_at, word_of}
use Rattle.bounded_table.specs.Table.{entry_in, label_in}

-- a row of this network and bound may have entry x
pub record FitsIn (n : Net) (bound : ℕ) (x : Entry) : Type 0 where
  pub node : HasNode n x.node.0
  pub within : x.distance ≤ bound

-- the word of a label within the bound is raised by one: so no label by an edge has the word of no label
abbrev pub IsRaised : ℕ → Option Label → ℕ → Type 0
IsRaised bound None word = word ≡ no_label bound
IsRaised bound (Some l) word = (word ≡ word_of l.distance l.last + 1) × (l.distance ≤ bound) × (low_of l.last < 2 ^ 32)

-- the words say what the entries say
abbrev pub IsSpread : ℕ → List Entry → List ℕ → Type 0
IsSpread bound entries words = (v : ℕ) → IsRaised bound (label_in entries v) (word_at bound words v)

-- no node is labelled
abbrev pub NoneLabelled : ℕ → List ℕ → Type 0
NoneLabelled bound words = (v : ℕ) → word_at bound words v ≡ no_label bound

-- a blank array for this many nodes, with a bound that a table may have
pub record IsBlank (count bound : ℕ) (words : List ℕ) : Type 0 where
  pub low : bound ≤ 10_000_000
  pub words_count : length words ≡ count
  pub none_labelled : NoneLabelled bound words

-- only nodes of the entries are labelled
abbrev pub LabelsOnly : ℕ → List Entry → List ℕ → Type 0
LabelsOnly bound entries words = (v : ℕ) → entry_in entries v ≡ None → word_at bound words v ≡ no_label bound

-- the answer tells whether a row may have all entries, and then the words say what they say
pub record Spreads (n : Net) (bound : ℕ) (entries : List Entry) (fits : Bool) (new : List ℕ) : Type 0 where
  pub fits_all : IsTrue fits ↔ All (FitsIn n bound) entries
  pub words : IsTrue fits → IsSpread bound entries new
  pub only : LabelsOnly bound entries new
