-- The rows of a text, read one after the other.
use Rattle.std.proofs.Common.{◌≡◌, ℕ, zero, suc, ◌+◌, ◌<◌, ◌≤◌, true, List, [], ◌∷◌, ◌++◌, length, Option, Some, None, Result, Ok, Err, refl, sym, ap, subst, ◌∙◌, append_assoc, arith, length-append}
use Rattle.std.proofs.lemmas.List.{append-nil}
use Rattle.std.proofs.lemmas.Option.{some_pair_parts}
use Rattle.bounded_table.specs.Table.{TableRow}
use Rattle.match_text.specs.Reading.{after_bytes}
use Rattle.match_text.proofs.Fields.{after_takes, bind_found, test_passed}
use Rattle.row_text.specs.Laws.{IsRowValue}
use Rattle.row_text.specs.Reading.{row_at}
use Rattle.row_text.specs.RowLine.{row_line}
use Rattle.row_text.proofs.RowLines.{rows_have_one_line}
use Rattle.table_work.specs.Reading.{table_fault_at, if_allowed, is_row_allowed, row_allowed_at, rows_to_last, rows_after_read, rows_after_first, rows_to_end, with_first}
use Rattle.table_work.specs.TableText.{table_end_line, table_text_limit}
use Rattle.table_work.specs.declared.fault.TableFault.{TableFault}
use Rattle.table_work.specs.declared.fault.TableFault.TheVariants.{BadLine}
use Rattle.table_work.specs.declared.reading.Counts.{Counts}

-- what an allowed row at the front is
pub record RowTaken (counts : Counts) (least : ℕ) (text : List ℕ) (row : TableRow) (rest : List ℕ) : Type 0 where
  pub value : IsRowValue row
  pub text_is : text ≡ row_line row ++ rest
  pub allowed : is_row_allowed counts least row ≡ true

pub row_takes : (counts : Counts) (least : ℕ) (text : List ℕ) (row : TableRow) (rest : List ℕ) → row_allowed_at counts least text ≡ Some (row, rest) → RowTaken counts least text row rest
row_takes counts least text row rest e =
    let read = bind_found (row_at text) (if_allowed counts least) (row, rest) e in
    let test = test_passed (is_row_allowed counts least read.0.0) (Some read.0) (row, rest) read.2 in
    let parts = some_pair_parts read.0.0 row read.0.1 rest test.1 in
    let line = rows_have_one_line read.0.0 text read.0.1 read.1 in
    let taken : RowTaken counts least text read.0.0 read.0.1 = record { value = line.0; text_is = line.1; allowed = test.0 } in
    subst (λ (y : TableRow × List ℕ). RowTaken counts least text y.0 y.1) (λ i. (parts.0 i, parts.1 i)) taken

pub row_goes_down : (counts : Counts) (least : ℕ) (text : List ℕ) (row : TableRow) (rest : List ℕ) → row_allowed_at counts least text ≡ Some (row, rest) → length rest < length text
row_goes_down counts least text row rest e =
    omega (arith, ap length (row_takes counts least text row rest e).text_is, length-append (row_line row) rest)

-- ---- the loop over the rows

abbrev pub prepended : List TableRow → Result (List TableRow) TableFault → Result (List TableRow) TableFault
prepended front (Ok rows) = Ok (front ++ rows)
prepended front (Err fault) = Err fault

-- the rows so far and those of what is left are those of all
pub record GoesOn (counts : Counts) (text : List ℕ) (front : List TableRow) (least : ℕ) (left : List ℕ) : Type 0 where
  pub fuel : ℕ
  pub enough : length left < fuel
  pub few : length front + length left ≤ length text
  pub are : prepended front (rows_to_last counts fuel (length front) least left) ≡ rows_after_first counts text

prepended_none : (read : Result (List TableRow) TableFault) → prepended [] read ≡ read
prepended_none (Ok rows) = refl
prepended_none (Err fault) = refl

prepended_more : (front : List TableRow) (row : TableRow) (read : Result (List TableRow) TableFault) → prepended (front ++ row ∷ []) read ≡ prepended front (with_first row read)
prepended_more front row (Ok rows) = ap (λ (t : List TableRow). let y : Result (List TableRow) TableFault = Ok t in y) (append_assoc front (row ∷ []) rows)
prepended_more front row (Err fault) = refl

pub begins : (counts : Counts) (text : List ℕ) → GoesOn counts text [] 0 text
begins counts text = record { fuel = length text + 1; enough = omega arith; few = omega arith; are = prepended_none (rows_after_first counts text) }

-- no last line comes, but a row
pub goes_on : (counts : Counts) (text : List ℕ) (front : List TableRow) (least : ℕ) (left : List ℕ) (row : TableRow) (next : List ℕ)
    → after_bytes (table_end_line (length front)) left ≡ None → row_allowed_at counts least left ≡ Some (row, next)
    → GoesOn counts text front least left → GoesOn counts text (front ++ row ∷ []) (row.origin + 1) next
goes_on counts text front least left row next no_end first so_far = by_fuel so_far.fuel so_far.enough so_far.are
  where
    down : length next < length left
    down = row_goes_down counts least left row next first

    longer : length (front ++ row ∷ []) ≡ length front + 1
    longer = omega (arith, length-append front (row ∷ []))

    by_fuel : (fuel : ℕ) → length left < fuel → prepended front (rows_to_last counts fuel (length front) least left) ≡ rows_after_first counts text → GoesOn counts text (front ++ row ∷ []) (row.origin + 1) next
    by_fuel zero enough are = absurd (omega (arith, enough))
    by_fuel (suc fuel) enough are = record {
      fuel = fuel;
      enough = omega (arith, enough, down);
      few = omega (arith, so_far.few, down, longer);
      are = ap (λ (n : ℕ). prepended (front ++ row ∷ []) (rows_to_last counts fuel n (row.origin + 1) next)) longer
          ∙ prepended_more front row (rows_to_last counts fuel (length front + 1) (row.origin + 1) next)
          ∙ ap (prepended front) (sym (ap (rows_to_end (rows_to_last counts fuel) counts (length front) least left) no_end ∙ ap (rows_after_read (rows_to_last counts fuel) (length front) left) first))
          ∙ are;
    }

-- the last line comes, and these bytes behind it
behind_end : (counts : Counts) (text : List ℕ) (front : List TableRow) (least : ℕ) (left behind : List ℕ)
    → after_bytes (table_end_line (length front)) left ≡ Some behind → GoesOn counts text front least left
    → (fuel : ℕ) × (prepended front (rows_to_end (rows_to_last counts fuel) counts (length front) least left (Some behind)) ≡ rows_after_first counts text)
behind_end counts text front least left behind end so_far = by_fuel so_far.fuel so_far.enough so_far.are
  where
    by_fuel : (fuel : ℕ) → length left < fuel → prepended front (rows_to_last counts fuel (length front) least left) ≡ rows_after_first counts text
        → (f : ℕ) × (prepended front (rows_to_end (rows_to_last counts f) counts (length front) least left (Some behind)) ≡ rows_after_first counts text)
    by_fuel zero enough are = absurd (omega (arith, enough))
    by_fuel (suc fuel) enough are = (fuel, ap (prepended front) (sym (ap (rows_to_end (rows_to_last counts fuel) counts (length front) least left) end)) ∙ are)

nothing_behind : (behind : List ℕ) → length behind ≡ 0 → behind ≡ []
nothing_behind [] e = refl
nothing_behind (b ∷ bs) e = absurd (omega (arith, e))

pub ends : (counts : Counts) (text : List ℕ) (front : List TableRow) (least : ℕ) (left behind : List ℕ)
    → after_bytes (table_end_line (length front)) left ≡ Some behind → length behind ≡ 0 → GoesOn counts text front least left → rows_after_first counts text ≡ Ok front
ends counts text front least left behind end none so_far =
    let is : after_bytes (table_end_line (length front)) left ≡ Some [] = rw (← nothing_behind behind none) end in
    let all = behind_end counts text front least left [] is so_far in
    sym all.1 ∙ ap (λ (t : List TableRow). let y : Result (List TableRow) TableFault = Ok t in y) (append-nil front)

pub goes_past_end : (counts : Counts) (text : List ℕ) (front : List TableRow) (least : ℕ) (left behind : List ℕ)
    → after_bytes (table_end_line (length front)) left ≡ Some behind → (length behind ≡ 0 → ⊥) → GoesOn counts text front least left → rows_after_first counts text ≡ Err (BadLine (length front + 3))
goes_past_end counts text front least left [] end some so_far = absurd (some refl)
goes_past_end counts text front least left (b ∷ bs) end some so_far = sym (behind_end counts text front least left (b ∷ bs) end so_far).1

-- neither the last line comes nor a row
pub fails : (counts : Counts) (text : List ℕ) (front : List TableRow) (least : ℕ) (left : List ℕ)
    → after_bytes (table_end_line (length front)) left ≡ None → row_allowed_at counts least left ≡ None → GoesOn counts text front least left → rows_after_first counts text ≡ Err (table_fault_at (length front + 2) left)
fails counts text front least left no_end no_row so_far = by_fuel so_far.fuel so_far.enough so_far.are
  where
    by_fuel : (fuel : ℕ) → length left < fuel → prepended front (rows_to_last counts fuel (length front) least left) ≡ rows_after_first counts text → rows_after_first counts text ≡ Err (table_fault_at (length front + 2) left)
    by_fuel zero enough are = absurd (omega (arith, enough))
    by_fuel (suc fuel) enough are =
        sym are ∙ ap (prepended front) (ap (rows_to_end (rows_to_last counts fuel) counts (length front) least left) no_end ∙ ap (rows_after_read (rows_to_last counts fuel) (length front) left) no_row)

-- ---- as the code reads them, where the count of the rows so far is `lines`

end_known : (front : List TableRow) (lines : ℕ) (left : List ℕ) (end : Option (List ℕ)) → lines ≡ length front → end ≡ after_bytes (table_end_line lines) left → after_bytes (table_end_line (length front)) left ≡ end
end_known front lines left end same is = ap (λ (n : ℕ). after_bytes (table_end_line n) left) (sym same) ∙ sym is

pub read_whole : (counts : Counts) (text : List ℕ) (front : List TableRow) (least lines : ℕ) (left behind : List ℕ) → lines ≡ length front
    → Some behind ≡ after_bytes (table_end_line lines) left → length behind ≡ 0 → GoesOn counts text front least left → rows_after_first counts text ≡ Ok front
read_whole counts text front least lines left behind same is none so_far = ends counts text front least left behind (end_known front lines left (Some behind) same is) none so_far

pub read_past_end : (counts : Counts) (text : List ℕ) (front : List TableRow) (least lines : ℕ) (left behind : List ℕ) → lines ≡ length front
    → Some behind ≡ after_bytes (table_end_line lines) left → (length behind ≡ 0 → ⊥) → GoesOn counts text front least left → rows_after_first counts text ≡ Err (BadLine (lines + 3))
read_past_end counts text front least lines left behind same is some so_far =
    goes_past_end counts text front least left behind (end_known front lines left (Some behind) same is) some so_far
    ∙ ap (λ (n : ℕ). let r : Result (List TableRow) TableFault = Err (BadLine (n + 3)) in r) (sym same)

pub read_fails : (counts : Counts) (text : List ℕ) (front : List TableRow) (least lines : ℕ) (left : List ℕ) (fault : TableFault) → lines ≡ length front
    → None ≡ after_bytes (table_end_line lines) left → None ≡ row_allowed_at counts least left → fault ≡ table_fault_at (lines + 2) left → GoesOn counts text front least left → rows_after_first counts text ≡ Err fault
read_fails counts text front least lines left fault same no_end no_row is so_far =
    fails counts text front least left (end_known front lines left None same no_end) (sym no_row) so_far
    ∙ ap (λ (n : ℕ). let r : Result (List TableRow) TableFault = Err (table_fault_at (n + 2) left) in r) (sym same)
    ∙ ap (λ (f : TableFault). let r : Result (List TableRow) TableFault = Err f in r) (sym is)

pub read_more : (counts : Counts) (text : List ℕ) (front front' : List TableRow) (least lines least' : ℕ) (left : List ℕ) (row : TableRow) (next : List ℕ) → lines ≡ length front
    → None ≡ after_bytes (table_end_line lines) left → Some (row, next) ≡ row_allowed_at counts least left → least' ≡ row.origin + 1 → front' ≡ front ++ row ∷ []
    → GoesOn counts text front least left → GoesOn counts text front' least' next
read_more counts text front front' least lines least' left row next same no_end first least_is front_is so_far =
    let more = goes_on counts text front least left row next (end_known front lines left None same no_end) (sym first) so_far in
    subst (λ (x : List TableRow × ℕ). GoesOn counts text x.0 x.1 next) (λ i. (sym front_is i, sym least_is i)) more

pub left_short : (text first rest : List ℕ) → Some rest ≡ after_bytes first text → length text ≤ table_text_limit → length rest ≤ table_text_limit
left_short text first rest is short = omega (arith, short, ap length (after_takes first text rest (sym is)), length-append first rest)
