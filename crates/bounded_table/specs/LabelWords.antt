-- Labels as words: the distance of a label in the high half, the number of its last edge in the low half.
-- Of two words the smaller is the better label: nearer, or as near by an earlier last edge.
use Rattle.std.specs.Prelude.{ℕ, ◌+◌, ◌-◌, ◌*◌, ◌/◌, ◌%◌, ◌^◌, ◌==◌, ◌<◌, ◌≤◌, if◌then◌else◌, List, Option, Some, None, slice_index_or}
use Rattle.road_network.specs.declared.Arc.{Arc}
use Rattle.road_network.specs.declared.EdgeId.{EdgeId}
use Rattle.bounded_table.specs.declared.table_row.Label.{Label}

-- the word of an origin: no distance and no last edge
abbrev pub origin_word : ℕ
origin_word = 2 ^ 32 - 1

-- the word of a label at distance d with last edge e
abbrev pub word_by : ℕ → ℕ → ℕ
word_by d e = d * 2 ^ 32 + e

-- the word of a node without a label: the least of all words beyond the bound
abbrev pub no_label : ℕ → ℕ
no_label bound = word_by (bound + 1) 0

-- the word of a label at distance d, with a last edge or with none
abbrev pub low_of : Option EdgeId → ℕ
low_of None = 2 ^ 32 - 1
low_of (Some e) = e.0

abbrev pub word_of : ℕ → Option EdgeId → ℕ
word_of d last = word_by d (low_of last)

-- the last edge in the low half of a word
abbrev pub last_in : ℕ → Option EdgeId
last_in e = if e == 2 ^ 32 - 1 then None else Some (record { 0 = e })

-- the label in a word of a search within a bound
abbrev pub label_in_word : ℕ → ℕ → Option Label
label_in_word bound word =
    if word == no_label bound then None else Some (record { distance = word / 2 ^ 32; last = last_in (word % 2 ^ 32) })

-- the word of a node
abbrev pub word_at : ℕ → List ℕ → ℕ → ℕ
word_at bound words v = slice_index_or words v (no_label bound)

-- the distance of a node; that of no label is just beyond the bound
abbrev pub distance_at : ℕ → List ℕ → ℕ → ℕ
distance_at bound words v = word_at bound words v / 2 ^ 32

-- the label of a node
abbrev pub label_at : ℕ → List ℕ → ℕ → Option Label
label_at bound words v = label_in_word bound (word_at bound words v)

-- the end of an arc has a word, of so many, and the arc is not too long
pub record IsTriable (count : ℕ) (a : Arc) : Type 0 where
  pub end : a.to.0 < count
  pub not_long : a.length ≤ 100_000_000
