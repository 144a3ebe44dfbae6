-- The fault of the rows and of the last line of a certificate.
use Rattle.std.proofs.Common.{◌≡◌, ℕ, zero, suc, ◌+◌, ◌^◌, ◌<◌, ◌≤◌, cond, List, [], ◌∷◌, ◌++◌, length, map, Option, Some, None, Result, Err, refl, sym, ap, subst, ◌∙◌, arith, length-append}
use Rattle.std.proofs.lemmas.Option.{none-some, some_pair_parts}
use Rattle.bounded_table.specs.Table.{TableRow}
use Rattle.match_text.specs.Reading.{after_bytes, number_after}
use Rattle.match_text.proofs.Fields.{after_again, after_takes}
use Rattle.row_text.specs.LineFaults.{line_count}
use Rattle.row_text.specs.Reading.{row_at}
use Rattle.row_text.specs.RowLine.{row_line}
use Rattle.row_text.proofs.LineEnds.{row_has_one_end}
use Rattle.row_text.proofs.LineFaults.{HasOneEnd, IsFaultOf, Steps, fails_at, has_line, line_count-append, past_at, same_lines, step}
use Rattle.potential_certificate.specs.CertificateText.{last_line}
use Rattle.potential_certificate.specs.HasText.{AreRowValuesFrom}
use Rattle.potential_certificate.specs.Reading.{ended, certificate_fault_at, line_number, row_at_least, rows_at_front, rows_after_row}
use Rattle.potential_certificate.specs.declared.fault.CertFault.{CertFault}
use Rattle.potential_certificate.specs.declared.fault.CertFault.TheVariants.{BadLine, Cut}
use Rattle.potential_certificate.specs.declared.proof.Certificate.{Certificate}
use Rattle.potential_certificate.proofs.EndsOfLines.{last_has_one_end}
use Rattle.potential_certificate.proofs.RowsRead.{row_again, row_goes_down, row_takes}

-- ---- the number of a line

abbrev pub FaultIs : (number : ℕ) → (List (List ℕ) → Type 0) → List ℕ → CertFault → Type 0
FaultIs number T text fault = IsFaultOf (λ n. BadLine n) Cut number T text fault

-- `text` is a rest of the whole, and begins with this line of it
pub record IsCounted (whole : List ℕ) (number : ℕ) (text : List ℕ) : Type 0 where
  pub positive : 1 ≤ number
  pub count : line_count whole + 1 ≡ number + line_count text

pub counted_behind : (whole : List ℕ) (number : ℕ) (text line next : List ℕ) → HasOneEnd line → text ≡ line ++ next → IsCounted whole number text → IsCounted whole (number + 1) next
counted_behind whole number text line next one text_is counted = record {
  positive = omega arith;
  count = omega (arith, counted.count, one, ap line_count text_is, line_count-append line next);
}

number_is : (whole : List ℕ) (number : ℕ) (text : List ℕ) → IsCounted whole number text → line_number whole text ≡ number
number_is whole number text counted = omega (arith, counted.positive, counted.count)

pub fault_here : (whole : List ℕ) (number : ℕ) (text : List ℕ) → IsCounted whole number text → certificate_fault_at whole text ≡ cond (has_line text) (BadLine number) Cut
fault_here whole number text counted = ap (λ (n : ℕ). cond (has_line text) (BadLine n) Cut) (number_is whole number text counted)

-- ---- rows, behind `count` rows whose origins are below `least`, and the last line

pub record RowsFrom (traces count least : ℕ) (lines : List (List ℕ)) : Type 0 where
  pub rows : List TableRow
  pub are : AreRowValuesFrom least rows
  pub few : count + length rows < 2 ^ 32
  pub lines_are : lines ≡ map row_line rows ++ last_line traces (count + length rows) ∷ []

some_lines : (traces count least : ℕ) → RowsFrom traces count least [] → ⊥
some_lines traces count least r = omega (arith, ap length r.lines_are, length-append (map row_line r.rows) (last_line traces (count + length r.rows) ∷ []))

last_at : (traces count least : ℕ) → count < 2 ^ 32 → RowsFrom traces count least (last_line traces (count + 0) ∷ [])
last_at traces count least few = record { rows = []; are = tt; few = omega (arith, few); lines_are = refl }

no_row : (traces count least : ℕ) (rest : List ℕ) → row_at_least least (last_line traces count ++ rest) ≡ None
unfolding row_at number_after
no_row traces count least rest = refl

-- what stands at the front, where these lines begin the text
record Front (traces count least : ℕ) (text : List ℕ) (others : List (List ℕ)) (rest : List ℕ) : Type 0 where
  pub last : row_at_least least text ≡ None → (after_bytes (last_line traces (count + 0)) text ≡ Some rest) × (others ≡ [])
  pub row : (row : TableRow) (next : List ℕ) → row_at_least least text ≡ Some (row, next) → RowsFrom traces (count + 1) (row.origin + 1) others × (rest ≡ next)

front : (traces count least : ℕ) (text first : List ℕ) (others : List (List ℕ)) (rest : List ℕ) → RowsFrom traces count least (first ∷ others) → text ≡ first ++ rest → Front traces count least text others rest
front traces count least text first others rest t begins = by_rows t.rows t.are t.few t.lines_are
  where
    by_rows : (rows : List TableRow) → AreRowValuesFrom least rows → count + length rows < 2 ^ 32 → first ∷ others ≡ map row_line rows ++ last_line traces (count + length rows) ∷ [] → Front traces count least text others rest
    by_rows [] are few lines_are =
        let parts = same_lines first (last_line traces (count + 0)) others [] lines_are in
        let text_is : text ≡ last_line traces (count + 0) ++ rest = begins ∙ ap (λ (l : List ℕ). l ++ rest) parts.0 in
        record {
          last = λ none. (ap (after_bytes (last_line traces (count + 0))) text_is ∙ after_again (last_line traces (count + 0)) rest, parts.1);
          row = λ row next e. absurd (none-some (row, next) (sym (no_row traces (count + 0) least rest) ∙ ap (row_at_least least) (sym text_is) ∙ e));
        }
    by_rows (row ∷ rows) are few lines_are =
        let parts = same_lines first (row_line row) others (map row_line rows ++ last_line traces (count + suc (length rows)) ∷ []) lines_are in
        let found : row_at_least least text ≡ Some (row, rest) = ap (row_at_least least) (begins ∙ ap (λ (l : List ℕ). l ++ rest) parts.0) ∙ row_again least row rest are.0 are.1 in
        let more : RowsFrom traces (count + 1) (row.origin + 1) others = record {
          rows = rows;
          are = are.2;
          few = omega (arith, few);
          lines_are = parts.1 ∙ ap (λ (n : ℕ). map row_line rows ++ last_line traces n ∷ []) (let e : count + suc (length rows) ≡ count + 1 + length rows = omega arith in e);
        } in
        record {
          last = λ none. absurd (none-some (row, rest) (sym none ∙ found));
          row = λ other next e.
              let same = some_pair_parts row other rest next (sym found ∙ e) in
              (subst (λ (r : TableRow). RowsFrom traces (count + 1) (r.origin + 1) others) same.0 more, same.1);
        }

row_steps : (traces count least : ℕ) (text : List ℕ) (row : TableRow) (next : List ℕ) → row_at_least least text ≡ Some (row, next) → Steps (RowsFrom traces count least) (RowsFrom traces (count + 1) (row.origin + 1)) text (row_line row) next
row_steps traces count least text row next first =
    let taken = row_takes least text row next first in
    record {
      one = row_has_one_end row taken.value;
      text_is = taken.text_is;
      more = λ others u. record {
        rows = row ∷ u.rows;
        are = (taken.value, taken.rises, u.are);
        few = omega (arith, u.few);
        lines_are = ap (λ (ls : List (List ℕ)). row_line row ∷ ls) u.lines_are
            ∙ ap (λ (n : ℕ). row_line row ∷ (map row_line u.rows ++ last_line traces n ∷ [])) (let e : count + 1 + length u.rows ≡ count + suc (length u.rows) = omega arith in e);
      };
      some = some_lines traces count least;
      only = λ line others rest t begins. (front traces count least text line others rest t begins).row row next first;
    }

pub same_fault : (f g : CertFault) → ◌≡◌ {A = Result Certificate CertFault} (Err f) (Err g) → g ≡ f
same_fault f g e = cc

-- no row stands here
last_fault : (whole : List ℕ) (traces count least number : ℕ) (text : List ℕ) (c : Certificate) (fault : CertFault) → IsCounted whole number text → traces < 2 ^ 32 → count < 2 ^ 32 → row_at_least least text ≡ None
    → (end : Option (List ℕ)) → after_bytes (last_line traces (count + 0)) text ≡ end → ended whole c text end ≡ Err fault → FaultIs number (RowsFrom traces count least) text fault
last_fault whole traces count least number text c fault counted traces_few few none None is e =
    fails_at (λ n. BadLine n) Cut number text fault (
    record {
      lines = last_line traces (count + 0) ∷ [];
      is = last_at traces count least few;
      some = some_lines traces count least;
      none = λ first others rest t begins. none-some rest (sym is ∙ ((front traces count least text first others rest t begins).last none).0);
    }
    ) (same_fault (certificate_fault_at whole text) fault e ∙ fault_here whole number text counted)
last_fault whole traces count least number text c fault counted traces_few few none (Some []) is e = absurd cc
last_fault whole traces count least number text c fault counted traces_few few none (Some (b ∷ bs)) is e =
    let text_is = after_takes (last_line traces (count + 0)) text (b ∷ bs) is in
    let one = last_has_one_end traces (count + 0) (omega (arith, traces_few)) (omega (arith, few)) in
    past_at (λ n. BadLine n) Cut number text (last_line traces (count + 0)) b bs fault (
    record {
      is = last_at traces count least few;
      text_is = text_is;
      last = λ first second others rest t begins.
          let alone = ((front traces count least text first (second ∷ others) rest t begins).last none).1 in
          omega (arith, ap length alone);
    }
    )
    (same_fault (BadLine (line_number whole (b ∷ bs))) fault e
    ∙ ap (λ (n : ℕ). let f : CertFault = BadLine n in f) (number_is whole (number + 1) (b ∷ bs) (counted_behind whole number text (last_line traces (count + 0)) (b ∷ bs) one text_is counted)))

-- the fault of what was read as rows and of what is left
abbrev pub EndsIn : (whole : List ℕ) (traces count : ℕ) → Certificate → List TableRow × List ℕ → CertFault → Type 0
EndsIn whole traces count c read fault = ended whole c read.1 (after_bytes (last_line traces (count + length read.0)) read.1) ≡ Err fault

pub rows_fault : (whole : List ℕ) (fuel traces count least number : ℕ) (text : List ℕ) (c : Certificate) (fault : CertFault) → IsCounted whole number text → length text < fuel → traces < 2 ^ 32 → count + length text < 2 ^ 32
    → EndsIn whole traces count c (rows_at_front fuel least text) fault → FaultIs number (RowsFrom traces count least) text fault
rows_fault whole zero traces count least number text c fault counted enough traces_few few e = absurd (omega (arith, enough))
rows_fault whole (suc fuel) traces count least number text c fault counted enough traces_few few e =
    by_row (λ l m t counted enough few h. rows_fault whole fuel traces (count + 1) l m t c fault counted enough traces_few few h) (row_at_least least text) refl e
  where
    by_row : ((l m : ℕ) (t : List ℕ) → IsCounted whole m t → length t < fuel → count + 1 + length t < 2 ^ 32 → EndsIn whole traces (count + 1) c (rows_at_front fuel l t) fault → FaultIs m (RowsFrom traces (count + 1) l) t fault)
        → (read : Option (TableRow × List ℕ)) → row_at_least least text ≡ read → EndsIn whole traces count c (rows_after_row (rows_at_front fuel) text read) fault → FaultIs number (RowsFrom traces count least) text fault
    by_row more None is e =
        last_fault whole traces count least number text c fault counted traces_few (omega (arith, few)) is (after_bytes (last_line traces (count + 0)) text) refl e
    by_row more (Some (row, next)) is e =
        let steps = row_steps traces count least text row next is in
        let others = rows_at_front fuel (row.origin + 1) next in
        let shorter = row_goes_down least text row next is in
        let moved : count + suc (length others.0) ≡ count + 1 + length others.0 = omega arith in
        let later : EndsIn whole traces (count + 1) c others fault = subst (λ (n : ℕ). ended whole c others.1 (after_bytes (last_line traces n) others.1) ≡ Err fault) moved e in
        step (λ n. BadLine n) Cut number fault steps
        (more (row.origin + 1) (number + 1) next (counted_behind whole number text (row_line row) next steps.one steps.text_is counted) (omega (arith, enough, shorter)) (omega (arith, few, shorter)) later)
