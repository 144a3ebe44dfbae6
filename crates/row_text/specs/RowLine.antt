-- The line of a row of the table.
use Rattle.std.specs.Prelude.{ℕ, List, ◌∷◌, ◌++◌, Option, Some, None, codes, map}
use Rattle.std.specs.List.{flat_map}
use Rattle.bounded_table.specs.Table.{TableRow}
use Rattle.bounded_table.specs.declared.table_row.Entry.{Entry}
use Rattle.decimal_text.specs.Number.{decimal}
use Rattle.match_text.specs.MatchText.{line}
use Rattle.road_network.specs.declared.EdgeId.{EdgeId}

-- the number of the last edge, or `-`
abbrev pub last_word : Option EdgeId → List ℕ
last_word None = codes "-"
last_word (Some e) = decimal e.0

-- `N:D:E`, or `N:D:-`
abbrev pub entry_word : Entry → List ℕ
entry_word x = decimal x.node.0 ++ 58 ∷ (decimal x.distance ++ 58 ∷ last_word x.last)

-- `row S N:D:E N:D:E ..`
abbrev pub row_line : TableRow → List ℕ
row_line row = line (codes "row") (decimal row.origin ∷ map entry_word row.entries)

-- each entry after a space
abbrev pub entries_text : List Entry → List ℕ
entries_text entries = flat_map (λ x. 32 ∷ entry_word x) entries
