-- The rows at the front of a text, read one after the other.
use Rattle.std.proofs.Common.{◌≡◌, ℕ, zero, suc, ◌+◌, ◌<◌, ◌≤◌, true, List, [], ◌∷◌, ◌++◌, length, Option, Some, None, refl, sym, ap, subst, ◌∙◌, append_assoc, arith, rules, length-append}
use Rattle.std.specs.Prelude.{nat_le}
use Rattle.std.specs.List.{flat_map}
use Rattle.std.proofs.lemmas.List.{append-nil}
use Rattle.std.proofs.lemmas.Option.{some_pair_parts}
use Rattle.bounded_table.specs.Table.{TableRow}
use Rattle.match_text.proofs.Fields.{bind_found, bind_some, test_passed}
use Rattle.row_text.specs.Laws.{IsRowValue}
use Rattle.row_text.specs.Reading.{row_at}
use Rattle.row_text.specs.RowLine.{row_line}
use Rattle.row_text.proofs.RowLines.{rows_have_one_line, rows_read_back}
use Rattle.potential_certificate.specs.HasText.{AreRowValuesFrom}
use Rattle.potential_certificate.specs.Reading.{if_rises, row_at_least, rows_at_front, rows_after_row}

-- what a row at the front is
pub record RowTaken (least : ℕ) (text : List ℕ) (row : TableRow) (rest : List ℕ) : Type 0 where
  pub value : IsRowValue row
  pub rises : least ≤ row.origin
  pub text_is : text ≡ row_line row ++ rest

pub row_takes : (least : ℕ) (text : List ℕ) (row : TableRow) (rest : List ℕ) → row_at_least least text ≡ Some (row, rest) → RowTaken least text row rest
row_takes least text row rest e =
    let read = bind_found (row_at text) (if_rises least) (row, rest) e in
    let test = test_passed (nat_le least read.0.0.origin) (Some read.0) (row, rest) read.2 in
    let parts = some_pair_parts read.0.0 row read.0.1 rest test.1 in
    let line = rows_have_one_line read.0.0 text read.0.1 read.1 in
    let rises : least ≤ read.0.0.origin = search (rules, test.0) in
    let taken : RowTaken least text read.0.0 read.0.1 = record { value = line.0; rises = rises; text_is = line.1 } in
    subst (λ (y : TableRow × List ℕ). RowTaken least text y.0 y.1) (λ i. (parts.0 i, parts.1 i)) taken

pub row_again : (least : ℕ) (row : TableRow) (rest : List ℕ) → IsRowValue row → least ≤ row.origin → row_at_least least (row_line row ++ rest) ≡ Some (row, rest)
row_again least row rest value rises =
    let test : nat_le least row.origin ≡ true = search (rules, rises) in
    bind_some _ (if_rises least) (row, rest) (rows_read_back row rest value) ∙ rw test refl

pub row_goes_down : (least : ℕ) (text : List ℕ) (row : TableRow) (rest : List ℕ) → row_at_least least text ≡ Some (row, rest) → length rest < length text
row_goes_down least text row rest e =
    omega (arith, ap length (row_takes least text row rest e).text_is, length-append (row_line row) rest)

-- ---- all rows at the front

none_from : (least : ℕ) (rest : List ℕ) → row_at rest ≡ None → row_at_least least rest ≡ None
none_from least rest none = rw none refl

pub rows_again : (rows : List TableRow) (least fuel : ℕ) (rest : List ℕ) → AreRowValuesFrom least rows → row_at rest ≡ None → length (flat_map row_line rows ++ rest) < fuel
    → rows_at_front fuel least (flat_map row_line rows ++ rest) ≡ (rows, rest)
rows_again rows least zero rest are none enough = absurd (omega (arith, enough))
rows_again [] least (suc fuel) rest are none enough = ap (rows_after_row (rows_at_front fuel) rest) (none_from least rest none)
rows_again (row ∷ rows) least (suc fuel) rest are none enough =
    let behind = flat_map row_line rows ++ rest in
    let text_is : flat_map row_line (row ∷ rows) ++ rest ≡ row_line row ++ behind = append_assoc (row_line row) (flat_map row_line rows) rest in
    let more = rows_again rows (row.origin + 1) fuel rest are.2 none (omega (arith, enough, ap length text_is, length-append (row_line row) behind)) in
    ap (rows_at_front (suc fuel) least) text_is
    ∙ ap (rows_after_row (rows_at_front fuel) (row_line row ++ behind)) (row_again least row behind are.0 are.1)
    ∙ ap (λ (x : List TableRow × List ℕ). let y : List TableRow × List ℕ = (row ∷ x.0, x.1) in y) more

-- what so much fuel reads is the text of it
pub record RowsTaken (least : ℕ) (text : List ℕ) (rows : List TableRow) (rest : List ℕ) : Type 0 where
  pub are : AreRowValuesFrom least rows
  pub text_is : text ≡ flat_map row_line rows ++ rest

pub rows_take : (fuel least : ℕ) (text : List ℕ) → RowsTaken least text (rows_at_front fuel least text).0 (rows_at_front fuel least text).1
rows_take zero least text = record { are = tt; text_is = refl }
rows_take (suc fuel) least text = by_row (λ l t. rows_take fuel l t) (row_at_least least text) refl
  where
    by_row : ((l : ℕ) (t : List ℕ) → RowsTaken l t (rows_at_front fuel l t).0 (rows_at_front fuel l t).1) → (read : Option (TableRow × List ℕ)) → row_at_least least text ≡ read
        → RowsTaken least text (rows_after_row (rows_at_front fuel) text read).0 (rows_after_row (rows_at_front fuel) text read).1
    by_row takes None is = record { are = tt; text_is = refl }
    by_row takes (Some read) is =
        let first = row_takes least text read.0 read.1 is in
        let others = takes (read.0.origin + 1) read.1 in
        record {
          are = (first.value, first.rises, others.are);
          text_is = first.text_is ∙ ap (λ (t : List ℕ). row_line read.0 ++ t) others.text_is ∙ sym (append_assoc (row_line read.0) (flat_map row_line (rows_at_front fuel (read.0.origin + 1) read.1).0) (rows_at_front fuel (read.0.origin + 1) read.1).1);
        }

-- ---- the loop over the rows

abbrev pub prepended : List TableRow → List TableRow × List ℕ → List TableRow × List ℕ
prepended front read = (front ++ read.0, read.1)

-- the rows so far and those of what is left are these
pub record GoesOn (whole : List TableRow × List ℕ) (front : List TableRow) (least : ℕ) (left : List ℕ) : Type 0 where
  pub fuel : ℕ
  pub enough : length left < fuel
  pub are : prepended front (rows_at_front fuel least left) ≡ whole

-- what stands behind these rows is read from `least` on
abbrev pub read_behind : List TableRow → ℕ → List ℕ → List TableRow × List ℕ
read_behind front least text = prepended front (rows_at_front (length text + 1) least text)

pub begins : (front : List TableRow) (least : ℕ) (text : List ℕ) → GoesOn (read_behind front least text) front least text
begins front least text = record { fuel = length text + 1; enough = omega arith; are = refl }

pub goes_on : (whole : List TableRow × List ℕ) (front : List TableRow) (least : ℕ) (left : List ℕ) (row : TableRow) (next : List ℕ) → row_at_least least left ≡ Some (row, next)
    → GoesOn whole front least left → GoesOn whole (front ++ row ∷ []) (row.origin + 1) next
goes_on whole front least left row next first so_far = by_fuel so_far.fuel so_far.enough so_far.are
  where
    by_fuel : (fuel : ℕ) → length left < fuel → prepended front (rows_at_front fuel least left) ≡ whole → GoesOn whole (front ++ row ∷ []) (row.origin + 1) next
    by_fuel zero enough are = absurd (omega (arith, enough))
    by_fuel (suc fuel) enough are = record {
      fuel = fuel;
      enough = omega (arith, enough, row_goes_down least left row next first);
      are = ap (λ (t : List TableRow). let y : List TableRow × List ℕ = (t, (rows_at_front fuel (row.origin + 1) next).1) in y) (append_assoc front (row ∷ []) (rows_at_front fuel (row.origin + 1) next).0)
          ∙ ap (prepended front) (sym (ap (rows_after_row (rows_at_front fuel) left) first)) ∙ are;
    }

pub ends : (whole : List TableRow × List ℕ) (front : List TableRow) (least : ℕ) (left : List ℕ) → row_at_least least left ≡ None → GoesOn whole front least left → whole ≡ (front, left)
ends whole front least left none so_far = by_fuel so_far.fuel so_far.enough so_far.are
  where
    by_fuel : (fuel : ℕ) → length left < fuel → prepended front (rows_at_front fuel least left) ≡ whole → whole ≡ (front, left)
    by_fuel zero enough are = absurd (omega (arith, enough))
    by_fuel (suc fuel) enough are =
        sym are ∙ ap (prepended front) (ap (rows_after_row (rows_at_front fuel) left) none) ∙ ap (λ (t : List TableRow). let y : List TableRow × List ℕ = (t, left) in y) (append-nil front)

-- more fuel than the text is long reads the same
pub same_rows : (fuel more least : ℕ) (text : List ℕ) → length text < fuel → length text < more → rows_at_front fuel least text ≡ rows_at_front more least text
same_rows zero more least text enough others = absurd (omega (arith, enough))
same_rows (suc fuel) zero least text enough others = absurd (omega (arith, others))
same_rows (suc fuel) (suc more) least text enough others = by_row (λ l t e o. same_rows fuel more l t e o) (row_at_least least text) refl
  where
    by_row : ((l : ℕ) (t : List ℕ) → length t < fuel → length t < more → rows_at_front fuel l t ≡ rows_at_front more l t) → (read : Option (TableRow × List ℕ)) → row_at_least least text ≡ read
        → rows_at_front (suc fuel) least text ≡ rows_at_front (suc more) least text
    by_row same None is = ap (rows_after_row (rows_at_front fuel) text) is ∙ sym (ap (rows_after_row (rows_at_front more) text) is)
    by_row same (Some read) is =
        let shorter = row_goes_down least text read.0 read.1 is in
        ap (rows_after_row (rows_at_front fuel) text) is
        ∙ ap (prepended (read.0 ∷ [])) (same (read.0.origin + 1) read.1 (omega (arith, shorter, enough)) (omega (arith, shorter, others)))
        ∙ sym (ap (rows_after_row (rows_at_front more) text) is)

-- what is left may be read on its own
pub read_on : (whole : List TableRow × List ℕ) (front : List TableRow) (least : ℕ) (left : List ℕ) → GoesOn whole front least left → whole ≡ read_behind front least left
read_on whole front least left so_far =
    sym so_far.are ∙ ap (prepended front) (same_rows so_far.fuel (length left + 1) least left so_far.enough (omega arith))
