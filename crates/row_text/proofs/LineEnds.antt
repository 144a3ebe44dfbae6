-- A line has one LF, at its end.
use Rattle.std.proofs.Common.{◌≡◌, ℕ, ◌+◌, ◌^◌, ◌<◌, Bool, true, false, cond, eqb, ◌&&◌, List, [], ◌∷◌, ◌++◌, map, Option, Some, None, refl, sym, ap, ◌∙◌, append_assoc, arith}
use Rattle.std.specs.Char.{is_ascii_digit}
use Rattle.std.specs.List.{AllByRecursion, concat, flat_map, list_all}
use Rattle.std.specs.Option.{IfSome}
use Rattle.std.specs.Prelude.{codes}
use Rattle.std.proofs.lemmas.Bool.{eqb-true}
use Rattle.decimal_text.specs.Number.{decimal}
use Rattle.decimal_text.proofs.Laws.{all_digits-decimal}
use Rattle.match_text.specs.MatchText.{line, words_after}
use Rattle.bounded_table.specs.Table.{TableRow}
use Rattle.bounded_table.specs.declared.table_row.Entry.{Entry}
use Rattle.road_network.specs.declared.EdgeId.{EdgeId}
use Rattle.row_text.specs.Laws.{EntryFits, IsRowValue}
use Rattle.row_text.specs.LineFaults.{line_count}
use Rattle.row_text.specs.RowLine.{entry_word, last_word, row_line}
use Rattle.row_text.proofs.LineFaults.{HasOneEnd, line_count-append, line_count-cons}

-- a word without LF
abbrev pub HasNoEnd : List ℕ → Type 0
HasNoEnd word = line_count word ≡ 0

digit_is_no_end : (d : ℕ) → is_ascii_digit d ≡ true → eqb d 10 ≡ false
digit_is_no_end d h = by_byte (eqb d 10) refl
  where
    by_byte : (is : Bool) → eqb d 10 ≡ is → eqb d 10 ≡ false
    by_byte false e = e
    by_byte true e = let same : d ≡ 10 = eqb-true d 10 e in absurd (cc (rw same at h))

digits_have_no_end : (digits : List ℕ) → list_all is_ascii_digit digits ≡ true → HasNoEnd digits
digits_have_no_end [] h = refl
digits_have_no_end (d ∷ ds) h = by_digit (is_ascii_digit d) refl h (λ later. digits_have_no_end ds later)
  where
    by_digit : (is : Bool) → is_ascii_digit d ≡ is → is && list_all is_ascii_digit ds ≡ true → (list_all is_ascii_digit ds ≡ true → HasNoEnd ds) → HasNoEnd (d ∷ ds)
    by_digit false e h later = absurd cc
    by_digit true e h later = line_count-cons d ds ∙ ap (λ (b : Bool). cond b 1 0 + line_count ds) (digit_is_no_end d e) ∙ omega (arith, later h)

pub number_has_no_end : (n : ℕ) → n < 2 ^ 64 → HasNoEnd (decimal n)
number_has_no_end n fits = digits_have_no_end (decimal n) (all_digits-decimal n fits)

words_have_one_end : (words : List (List ℕ)) → AllByRecursion HasNoEnd words → HasOneEnd (words_after words)
words_have_one_end [] none = refl
words_have_one_end (word ∷ words) none =
    omega (arith, line_count-cons 32 (word ++ words_after words), line_count-append word (words_after words), none.0, words_have_one_end words none.1)

pub line_has_one_end : (word : List ℕ) (words : List (List ℕ)) → HasNoEnd word → AllByRecursion HasNoEnd words → HasOneEnd (line word words)
line_has_one_end word words first none = omega (arith, line_count-append word (words_after words), first, words_have_one_end words none)

-- ---- the line of a row

last_has_no_end : (last : Option EdgeId) → IfSome last (λ e. e.0 < 2 ^ 32) → HasNoEnd (last_word last)
last_has_no_end None fits = refl
last_has_no_end (Some e) fits = number_has_no_end e.0 (omega (arith, fits))

entry_has_no_end : (x : Entry) → EntryFits x → HasNoEnd (entry_word x)
entry_has_no_end x fits =
    let after = decimal x.distance ++ 58 ∷ last_word x.last in
    omega (
      arith,
      line_count-append (decimal x.node.0) (58 ∷ after),
      line_count-cons 58 after,
      line_count-append (decimal x.distance) (58 ∷ last_word x.last),
      line_count-cons 58 (last_word x.last),
      number_has_no_end x.node.0 (omega (arith, fits.node)),
      number_has_no_end x.distance (omega (arith, fits.distance)),
      last_has_no_end x.last fits.last,
    )

entries_have_no_end : (entries : List Entry) → AllByRecursion EntryFits entries → AllByRecursion HasNoEnd (map entry_word entries)
entries_have_no_end [] fit = tt
entries_have_no_end (x ∷ entries) fit = (entry_has_no_end x fit.0, entries_have_no_end entries fit.1)

pub row_has_one_end : (row : TableRow) → IsRowValue row → HasOneEnd (row_line row)
row_has_one_end row is =
    line_has_one_end (codes "row") (decimal row.origin ∷ map entry_word row.entries) refl (number_has_no_end row.origin (omega (arith, is.origin)), entries_have_no_end row.entries is.entries)

-- the lines of rows, one behind the other
pub rows_joined : (rows : List TableRow) (rest : List (List ℕ)) → concat (map row_line rows ++ rest) ≡ flat_map row_line rows ++ concat rest
rows_joined [] rest = refl
rows_joined (row ∷ rows) rest = ap (λ (t : List ℕ). row_line row ++ t) (rows_joined rows rest) ∙ sym (append_assoc (row_line row) (flat_map row_line rows) (concat rest))
