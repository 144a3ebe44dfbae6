-- A row, read from the front of a text: from left to right, word by word.
use Rattle.std.specs.Prelude.{ℕ, zero, suc, ◌+◌, ◌==◌, ◌&&◌, ◌||◌, nat_le, Bool, true, false, if◌then◌else◌, List, [], ◌∷◌, length, Option, Some, None, is_none, is_some, codes}
use Rattle.std.specs.List.{list_all}
use Rattle.std.specs.Option.{option_map}
use Rattle.bounded_table.specs.Table.{TableRow, label_in}
use Rattle.bounded_table.specs.declared.table_row.Entry.{Entry}
use Rattle.bounded_table.specs.declared.table_row.Label.{Label}
use Rattle.match_text.specs.Reading.{◌>>=◌, after_bytes, most32, number_after}
use Rattle.road_network.specs.declared.EdgeId.{EdgeId}

-- ---- the three rules of a row, as a test

-- the nodes rise strictly, from b on
abbrev pub rises_from : ℕ → List Entry → Bool
rises_from b [] = true
rises_from b (x ∷ entries) = nat_le b x.node.0 && rises_from (x.node.0 + 1) entries

-- this is the label of an origin: distance 0, and no last edge
abbrev pub is_origin_label : Option Label → Bool
is_origin_label None = false
is_origin_label (Some l) = l.distance == 0 && is_none l.last

-- a node other than the origin has a distance of at least 1 and a last edge
abbrev pub is_row_entry : ℕ → Entry → Bool
is_row_entry s x = (x.node.0 == s) || (nat_le 1 x.distance && is_some x.last)

-- decides `MeetsRowRules`
abbrev pub meets_row_rules : TableRow → Bool
meets_row_rules row =
    rises_from 0 row.entries
    && is_origin_label (label_in row.entries row.origin)
    && list_all (is_row_entry row.origin) row.entries

-- ---- the words

-- a last edge, with the colon before it
abbrev pub edge_or_none : Option (List ℕ) → List ℕ → Option (Option EdgeId × List ℕ)
edge_or_none (Some rest) text = Some (None, rest)
edge_or_none None text = option_map (λ e. (Some (record { 0 = e.0 }), e.1)) (number_after (codes ":") most32 text)

unfoldable pub last_at : List ℕ → Option (Option EdgeId × List ℕ)
last_at text = edge_or_none (after_bytes (codes ":-") text) text

-- an entry, with the space before it
unfoldable pub entry_at : List ℕ → Option (Entry × List ℕ)
entry_at text = do
  node ← number_after (codes " ") most32 text
  distance ← number_after (codes ":") most32 node.1
  last ← last_at distance.1
  Some (record { node = record { 0 = node.0 }; distance = distance.0; last = last.0 }, last.1)

-- if an entry was read, it and those after it; else the end of the line
abbrev pub entries_behind : (List ℕ → Option (List Entry × List ℕ)) → List ℕ
    → Option (Entry × List ℕ) → Option (List Entry × List ℕ)
entries_behind more text None = option_map (λ rest. ([], rest)) (after_bytes (10 ∷ []) text)
entries_behind more text (Some x) = option_map (λ m. (x.0 ∷ m.0, m.1)) (more x.1)

-- all entries up to the end of the line; no text has as many as `fuel`, which is above its length
abbrev pub entries_at : ℕ → List ℕ → Option (List Entry × List ℕ)
entries_at zero text = None
entries_at (suc fuel) text = entries_behind (entries_at fuel) text (entry_at text)

-- the row of this origin with these entries, where it meets the rules
abbrev pub row_with : ℕ → List Entry × List ℕ → Option (TableRow × List ℕ)
row_with s read =
    if meets_row_rules (record { origin = s; entries = read.0 })
    then Some (record { origin = s; entries = read.0 }, read.1) else None

-- the row whose line is at the front, and what comes after the line
unfoldable pub row_at : List ℕ → Option (TableRow × List ℕ)
row_at text = do
  origin ← number_after (codes "row ") most32 text
  entries ← entries_at (length origin.1 + 1) origin.1
  row_with origin.0 entries
