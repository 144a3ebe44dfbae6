-- A line that is written part by part.
use Rattle.std.proofs.Common.{◌≡◌, ℕ, List, [], ◌∷◌, ◌++◌, refl, ap, ◌∙◌, append_assoc}
use Rattle.std.specs.Prelude.{codes}
use Rattle.bounded_table.specs.Table.{TableRow}
use Rattle.bounded_table.specs.declared.table_row.Entry.{Entry}
use Rattle.decimal_text.specs.Number.{decimal}
use Rattle.row_text.specs.RowLine.{entries_text, entry_word, row_line}
use Rattle.row_text.proofs.Entries.{entries_line}

entries_parts : (entries : List Entry) → entries_text entries ++ 10 ∷ [] ≡ entries_line entries
entries_parts [] = refl
entries_parts (x ∷ entries) = append_assoc (32 ∷ entry_word x) (entries_text entries) (10 ∷ []) ∙ ap (λ (t : List ℕ). 32 ∷ (entry_word x ++ t)) (entries_parts entries)

pub row_written : (row : TableRow) (old a b c new : List ℕ) → a ≡ old ++ codes "row " → b ≡ a ++ decimal row.origin → c ≡ b ++ entries_text row.entries → new ≡ c ++ 10 ∷ [] → new ≡ old ++ row_line row
row_written row old a b c new first second third last =
    last ∙ ap (λ (t : List ℕ). t ++ 10 ∷ []) third ∙ append_assoc b (entries_text row.entries) (10 ∷ []) ∙ ap (λ (t : List ℕ). b ++ t) (entries_parts row.entries)
    ∙ ap (λ (t : List ℕ). t ++ entries_line row.entries) second ∙ append_assoc a (decimal row.origin) (entries_line row.entries)
    ∙ ap (λ (t : List ℕ). t ++ (decimal row.origin ++ entries_line row.entries)) first ∙ append_assoc old (codes "row ") (decimal row.origin ++ entries_line row.entries)
