-- A row and its line.
use Rattle.std.proofs.Common.{◌≡◌, ℕ, ◌+◌, Bool, true, false, cond, List, [], ◌∷◌, ◌++◌, length, Option, Some, None, refl, sym, ap, subst, ◌∙◌, append_assoc, arith}
use Rattle.std.specs.Prelude.{codes}
use Rattle.std.proofs.lemmas.Option.{some_pair_parts}
use Rattle.bounded_table.specs.RowRules.{MeetsRowRules}
use Rattle.bounded_table.specs.Table.{TableRow}
use Rattle.bounded_table.specs.declared.table_row.Entry.{Entry}
use Rattle.decimal_text.specs.Number.{decimal}
use Rattle.match_text.specs.Reading.{most32, number_after}
use Rattle.match_text.proofs.Fields.{EndsDigits, bind_found, bind_some, number_after_again, number_after_takes, test_passed}
use Rattle.row_text.specs.Laws.{IsRowValue, RowsHaveOneLine, RowsReadBack}
use Rattle.row_text.specs.Reading.{entries_at, meets_row_rules, row_at, row_with}
use Rattle.row_text.specs.RowLine.{row_line}
use Rattle.row_text.proofs.Entries.{entries_again, entries_line, entries_take}
use Rattle.row_text.proofs.Rules.{rules_met, rules_test}

ends_origin : (entries : List Entry) (rest : List ℕ) → EndsDigits (entries_line entries ++ rest)
ends_origin [] rest = refl
ends_origin (x ∷ entries) rest = refl

row_parts : (row : TableRow) (rest : List ℕ) → row_line row ++ rest ≡ codes "row " ++ (decimal row.origin ++ (entries_line row.entries ++ rest))
row_parts row rest = ap (λ (t : List ℕ). codes "row " ++ t) (append_assoc (decimal row.origin) (entries_line row.entries) rest)

pub rows_read_back : RowsReadBack
unfolding row_at
rows_read_back row rest is =
    let behind = entries_line row.entries ++ rest in
    ap row_at (row_parts row rest)
    ∙ bind_some _ _ (row.origin, behind) (number_after_again (codes "row ") most32 row.origin behind (omega (arith, is.origin)) (omega arith) (ends_origin row.entries rest))
    ∙ bind_some _ _ (row.entries, rest) (entries_again row.entries rest (length behind + 1) is.entries (omega arith))
    ∙ rw (rules_test row is.rules) refl

pub rows_have_one_line : RowsHaveOneLine
unfolding row_at
rows_have_one_line row text rest e =
    let origin = bind_found (number_after (codes "row ") most32 text) _ (row, rest) e in
    let entries = bind_found (entries_at (length origin.0.1 + 1) origin.0.1) _ (row, rest) origin.2 in
    let found : TableRow = record { origin = origin.0.0; entries = entries.0.0 } in
    let test = test_passed (meets_row_rules found) (Some (found, entries.0.1)) (row, rest) entries.2 in
    let parts = some_pair_parts found row entries.0.1 rest test.1 in
    let first = number_after_takes (codes "row ") most32 origin.0.0 text origin.0.1 (omega arith) origin.1 in
    let others = entries_take (length origin.0.1 + 1) origin.0.1 entries.0.0 entries.0.1 entries.1 in
    let value : IsRowValue found = record { rules = rules_met found test.0; origin = omega (arith, first.1); entries = others.fit } in
    let text_is : text ≡ row_line found ++ entries.0.1 = first.0 ∙ ap (λ (t : List ℕ). codes "row " ++ (decimal origin.0.0 ++ t)) others.text_is ∙ sym (row_parts found entries.0.1) in
    subst (λ (y : TableRow × List ℕ). IsRowValue y.0 × (text ≡ row_line y.0 ++ y.1)) (λ i. (parts.0 i, parts.1 i)) (value, text_is)

-- ---- the code of a read

-- the origin and the entries of a line
pub line_read : (text : List ℕ) (s : ℕ) (behind : List ℕ) (entries : List Entry) (rest : List ℕ)
    → number_after (codes "row ") most32 text ≡ Some (s, behind) → entries_at (length behind + 1) behind ≡ Some (entries, rest)
    → row_at text ≡ row_with s (entries, rest)
unfolding row_at
line_read text s behind entries rest origin all = bind_some _ _ (s, behind) origin ∙ bind_some _ _ (entries, rest) all

keeps_rules : (row : TableRow) (rest : List ℕ) → MeetsRowRules row → row_with row.origin (row.entries, rest) ≡ Some (row, rest)
keeps_rules row rest meets = rw (rules_test row meets) refl

pub breaks_rules : (row : TableRow) (rest : List ℕ) → (MeetsRowRules row → ⊥) → row_with row.origin (row.entries, rest) ≡ None
breaks_rules row rest breaks = by_test (meets_row_rules row) refl
  where
    by_test : (test : Bool) → meets_row_rules row ≡ test → cond {A = Option (TableRow × List ℕ)} test (Some (row, rest)) None ≡ None
    by_test true is = absurd (breaks (rules_met row is))
    by_test false is = refl

-- the row that was made of them
pub row_read : (text : List ℕ) (s : ℕ) (behind : List ℕ) (entries : List Entry) (rest : List ℕ) (row : TableRow)
    → number_after (codes "row ") most32 text ≡ Some (s, behind) → entries_at (length behind + 1) behind ≡ Some (entries, rest)
    → row ≡ record { origin = s; entries = entries } → MeetsRowRules row → Some (row, rest) ≡ row_at text
row_read text s behind entries rest row origin all is meets =
    let made : TableRow = record { origin = s; entries = entries } in
    sym (line_read text s behind entries rest origin all
    ∙ subst (λ (r : TableRow). MeetsRowRules r → row_with s (entries, rest) ≡ Some (r, rest)) (sym is) (λ m. keeps_rules made rest m) meets)
