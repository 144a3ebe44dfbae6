-- The entry of a node by its label.
use Rattle.std.specs.Prelude.{ℕ, ◌/◌, ◌%◌, ◌^◌, ◌==◌, if◌then◌else◌, List, Option, Some, None}
use Rattle.bounded_table.specs.declared.table_row.Label.{Label}
use Rattle.bounded_table.specs.declared.table_row.Entry.{Entry}
use Rattle.bounded_table.specs.LabelWords.{no_label, word_at}

-- the label in a word, as if it had a last edge; only the label of an origin has none
abbrev pub edge_label_in : ℕ → ℕ → Option Label
edge_label_in bound word =
    if word == no_label bound then None else Some (record { distance = word / 2 ^ 32; last = Some (record { 0 = word % 2 ^ 32 }) })

abbrev pub edge_label_at : ℕ → List ℕ → ℕ → Option Label
edge_label_at bound words v = edge_label_in bound (word_at bound words v)

-- the entry by such a word
abbrev pub edge_entry_by : ℕ → ℕ → Entry
edge_entry_by v word = record { node = record { 0 = v }; distance = word / 2 ^ 32; last = Some (record { 0 = word % 2 ^ 32 }) }
