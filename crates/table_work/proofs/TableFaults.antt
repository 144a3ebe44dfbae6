-- The faults of a table text mean what they say.
use Rattle.std.proofs.Common.{◌≡◌, ◌≢◌, ℕ, zero, suc, ◌+◌, ◌^◌, ◌<◌, ◌≤◌, Bool, true, false, cond, List, [], ◌∷◌, ◌++◌, length, map, Option, Some, None, Result, Ok, Err, refl, sym, ap, subst, ◌∙◌, arith, rules, length-append}
use Rattle.std.specs.Prelude.{codes, nat_le, nat_lt}
use Rattle.std.specs.List.{concat, list_all}
use Rattle.std.proofs.lemmas.List.{append-nil}
use Rattle.std.proofs.lemmas.Option.{none-some, some_pair_parts}
use Rattle.bounded_table.specs.Table.{TableRow}
use Rattle.decimal_text.specs.Number.{decimal}
use Rattle.match_text.specs.Reading.{after_bytes}
use Rattle.match_text.proofs.Fields.{after_again, after_takes}
use Rattle.row_text.specs.RowLine.{row_line}
use Rattle.row_text.proofs.LineEnds.{line_has_one_end, number_has_no_end, row_has_one_end, rows_joined}
use Rattle.row_text.proofs.LineFaults.{HasOneEnd, IsFaultOf, Steps, fails_at, past_at, same_lines, step}
use Rattle.row_text.proofs.FaultMeanings.{Means, fault_means}
use Rattle.table_work.specs.Faults.{AreTableLines}
use Rattle.table_work.specs.Laws.{AreTableRowsFrom, IsTableRow}
use Rattle.table_work.specs.Reading.{table_after_first, is_entry_below, row_allowed_at, rows_to_last, rows_after_read, rows_to_end, table_of_text, with_first}
use Rattle.table_work.specs.TableText.{table_end_line, table_first_line, row_lines, table_lines, table_text, table_text_limit}
use Rattle.table_work.specs.declared.fault.TableFault.{TableFault}
use Rattle.table_work.specs.declared.fault.TableFault.TheVariants.{BadLine, Cut, TooLong}
use Rattle.table_work.proofs.RowsOfText.{row_goes_down, row_takes}
use Rattle.table_work.proofs.Tables.{both, counts_of, entries_met, row_again, tables_have_one_text, tables_read_back}

abbrev pub Rows : Type 0
Rows = Result (List TableRow) TableFault

abbrev FaultIs : (number : ℕ) → (List (List ℕ) → Type 0) → List ℕ → TableFault → Type 0
FaultIs number T text fault = IsFaultOf (λ n. BadLine n) Cut number T text fault

-- ---- the lines behind the first one, behind `count` rows whose origins are below `least`

record RowsFrom (nodes edges count least : ℕ) (lines : List (List ℕ)) : Type 0 where
  pub rows : List TableRow
  pub are : AreTableRowsFrom nodes edges least rows
  pub lines_are : lines ≡ map row_line rows ++ table_end_line (count + length rows) ∷ []

some_lines : (nodes edges count least : ℕ) → RowsFrom nodes edges count least [] → ⊥
some_lines nodes edges count least r = omega (arith, ap length r.lines_are, length-append (map row_line r.rows) (table_end_line (count + length r.rows) ∷ []))

end_at : (nodes edges count least : ℕ) → RowsFrom nodes edges count least (table_end_line count ∷ [])
end_at nodes edges count least = record { rows = []; are = tt; lines_are = ap (λ (n : ℕ). let ls : List (List ℕ) = table_end_line n ∷ [] in ls) (let e : count ≡ count + 0 = omega arith in e) }

-- what stands at the front, where these lines begin the text
record Front (nodes edges count least : ℕ) (text first : List ℕ) (others : List (List ℕ)) (rest : List ℕ) : Type 0 where
  pub end : after_bytes (table_end_line count) text ≡ None → (row : TableRow) × (row_allowed_at (counts_of nodes edges) least text ≡ Some (row, rest)) × RowsFrom nodes edges (count + 1) (row.origin + 1) others
  pub alone : (behind : List ℕ) → after_bytes (table_end_line count) text ≡ Some behind → others ≡ []

front : (nodes edges count least : ℕ) (text first : List ℕ) (others : List (List ℕ)) (rest : List ℕ) → RowsFrom nodes edges count least (first ∷ others) → text ≡ first ++ rest → Front nodes edges count least text first others rest
front nodes edges count least text first others rest t begins = by_rows t.rows t.are t.lines_are
  where
    by_rows : (rows : List TableRow) → AreTableRowsFrom nodes edges least rows → first ∷ others ≡ map row_line rows ++ table_end_line (count + length rows) ∷ [] → Front nodes edges count least text first others rest
    by_rows [] are lines_are =
        let parts = same_lines first (table_end_line (count + 0)) others [] lines_are in
        let is_end : first ≡ table_end_line count = parts.0 ∙ ap table_end_line (let e : count + 0 ≡ count = omega arith in e) in
        let found : after_bytes (table_end_line count) text ≡ Some rest = ap (after_bytes (table_end_line count)) (begins ∙ ap (λ (l : List ℕ). l ++ rest) is_end) ∙ after_again (table_end_line count) rest in
        record { end = λ none. absurd (none-some rest (sym none ∙ found)); alone = λ behind e. parts.1 }
    by_rows (row ∷ rows) are lines_are =
        let parts = same_lines first (row_line row) others (map row_line rows ++ table_end_line (count + suc (length rows)) ∷ []) lines_are in
        let text_is : text ≡ row_line row ++ rest = begins ∙ ap (λ (l : List ℕ). l ++ rest) parts.0 in
        let no_end : after_bytes (table_end_line count) text ≡ None = ap (after_bytes (table_end_line count)) text_is in
        record {
          end = λ none. (
            row,
            ap (row_allowed_at (counts_of nodes edges) least) text_is ∙ row_again nodes edges least row rest are.0,
            record {
              rows = rows;
              are = are.1;
              lines_are = parts.1 ∙ ap (λ (n : ℕ). map row_line rows ++ table_end_line n ∷ []) (let e : count + suc (length rows) ≡ count + 1 + length rows = omega arith in e);
            },
          );
          alone = λ behind e. absurd (none-some behind (sym no_end ∙ e));
        }

row_is : (nodes edges least : ℕ) (text : List ℕ) (row : TableRow) (rest : List ℕ) → row_allowed_at (counts_of nodes edges) least text ≡ Some (row, rest) → IsTableRow nodes edges least row
row_is nodes edges least text row rest e =
    let taken = row_takes (counts_of nodes edges) least text row rest e in
    let allowed = both (nat_le least row.origin) (list_all (is_entry_below (counts_of nodes edges)) row.entries) taken.allowed in
    record { value = taken.value; rises = search (rules, allowed.0); below = entries_met nodes edges row.entries allowed.1 }

row_steps : (nodes edges count least : ℕ) (text : List ℕ) (row : TableRow) (next : List ℕ) → after_bytes (table_end_line count) text ≡ None → row_allowed_at (counts_of nodes edges) least text ≡ Some (row, next)
    → Steps (RowsFrom nodes edges count least) (RowsFrom nodes edges (count + 1) (row.origin + 1)) text (row_line row) next
row_steps nodes edges count least text row next no_end first =
    let taken = row_takes (counts_of nodes edges) least text row next first in
    record {
      one = row_has_one_end row taken.value;
      text_is = taken.text_is;
      more = λ others u. record {
        rows = row ∷ u.rows;
        are = (row_is nodes edges least text row next first, u.are);
        lines_are = ap (λ (ls : List (List ℕ)). row_line row ∷ ls) u.lines_are
            ∙ ap (λ (n : ℕ). row_line row ∷ (map row_line u.rows ++ table_end_line n ∷ [])) (let e : count + 1 + length u.rows ≡ count + suc (length u.rows) = omega arith in e);
      };
      some = some_lines nodes edges count least;
      only = λ line others rest t begins.
          let found = (front nodes edges count least text line others rest t begins).end no_end in
          let parts = some_pair_parts found.0 row rest next (sym found.1 ∙ first) in
          (subst (λ (r : TableRow). RowsFrom nodes edges (count + 1) (r.origin + 1) others) parts.0 found.2, parts.1);
    }

-- the fault of the rows from here on
rows_fault : (nodes edges fuel count least : ℕ) (text : List ℕ) (fault : TableFault) → length text < fuel → rows_to_last (counts_of nodes edges) fuel count least text ≡ Err fault → FaultIs (count + 2) (RowsFrom nodes edges count least) text fault
rows_fault nodes edges zero count least text fault enough e = absurd (omega (arith, enough))
rows_fault nodes edges (suc fuel) count least text fault enough e =
    by_end (λ l t enough h. rows_fault nodes edges fuel (count + 1) l t fault enough h) (after_bytes (table_end_line count) text) refl e
  where
    same_fault : (f g : TableFault) → ◌≡◌ {A = Rows} (Err f) (Err g) → g ≡ f
    same_fault f g e = cc

    added : (row : TableRow) (read : Rows) → with_first row read ≡ Err fault → read ≡ Err fault
    added row (Ok rows) e = absurd cc
    added row (Err other) e = e

    by_row : ((l : ℕ) (t : List ℕ) → length t < fuel → rows_to_last (counts_of nodes edges) fuel (count + 1) l t ≡ Err fault → FaultIs (count + 1 + 2) (RowsFrom nodes edges (count + 1) l) t fault)
        → after_bytes (table_end_line count) text ≡ None → (read : Option (TableRow × List ℕ)) → row_allowed_at (counts_of nodes edges) least text ≡ read
        → rows_after_read (rows_to_last (counts_of nodes edges) fuel) count text read ≡ Err fault → FaultIs (count + 2) (RowsFrom nodes edges count least) text fault
    by_row more no_end None is e = fails_at (λ n. BadLine n) Cut (count + 2) text fault (
        record {
          lines = table_end_line count ∷ [];
          is = end_at nodes edges count least;
          some = some_lines nodes edges count least;
          none = λ first others rest t begins.
              let found = (front nodes edges count least text first others rest t begins).end no_end in
              none-some (found.0, rest) (sym is ∙ found.1);
        }
        ) (same_fault _ fault e)
    by_row more no_end (Some (row, next)) is e =
        let shorter = row_goes_down (counts_of nodes edges) least text row next is in
        let later = more (row.origin + 1) next (omega (arith, enough, shorter)) (added row (rows_to_last (counts_of nodes edges) fuel (count + 1) (row.origin + 1) next) e) in
        step (λ n. BadLine n) Cut (count + 2) fault (row_steps nodes edges count least text row next no_end is)
        (subst (λ (n : ℕ). FaultIs n (RowsFrom nodes edges (count + 1) (row.origin + 1)) next fault) (let e : count + 1 + 2 ≡ count + 2 + 1 = omega arith in e) later)

    by_end : ((l : ℕ) (t : List ℕ) → length t < fuel → rows_to_last (counts_of nodes edges) fuel (count + 1) l t ≡ Err fault → FaultIs (count + 1 + 2) (RowsFrom nodes edges (count + 1) l) t fault)
        → (end : Option (List ℕ)) → after_bytes (table_end_line count) text ≡ end
        → rows_to_end (rows_to_last (counts_of nodes edges) fuel) (counts_of nodes edges) count least text end ≡ Err fault → FaultIs (count + 2) (RowsFrom nodes edges count least) text fault
    by_end more None is e = by_row more is (row_allowed_at (counts_of nodes edges) least text) refl e
    by_end more (Some []) is e = absurd cc
    by_end more (Some (b ∷ bs)) is e = past_at (λ n. BadLine n) Cut (count + 2) text (table_end_line count) b bs fault (
        record {
          is = end_at nodes edges count least;
          text_is = after_takes (table_end_line count) text (b ∷ bs) is;
          last = λ first second others rest t begins.
              let alone = (front nodes edges count least text first (second ∷ others) rest t begins).alone (b ∷ bs) is in
              omega (arith, ap length alone);
        }
        ) (same_fault (BadLine (count + 3)) fault e ∙ ap (λ (n : ℕ). let f : TableFault = BadLine n in f) (let e : count + 3 ≡ count + 2 + 1 = omega arith in e))

-- ---- the whole text

pub lines_are_text : (bound nodes edges : ℕ) (rows : List TableRow) → concat (table_lines bound nodes edges rows) ≡ table_text bound nodes edges rows
lines_are_text bound nodes edges rows =
    ap (λ (t : List ℕ). table_first_line bound nodes edges ++ t)
    (rows_joined rows (table_end_line (length rows) ∷ []) ∙ ap (λ (t : List ℕ). row_lines rows ++ t) (append-nil (table_end_line (length rows))))

-- the text is that of a table
whole_reads : (bound nodes edges : ℕ) (text : List ℕ) (lines : List (List ℕ)) → length text ≤ table_text_limit → AreTableLines bound nodes edges lines → text ≡ concat lines → (rows : List TableRow) × (table_of_text bound nodes edges text ≡ Ok rows)
whole_reads bound nodes edges text lines short is whole =
    let text_is : text ≡ table_text bound nodes edges is.rows = whole ∙ ap concat is.lines_are ∙ lines_are_text bound nodes edges is.rows in
    (is.rows, ap (table_of_text bound nodes edges) text_is ∙ tables_read_back bound nodes edges is.rows is.rows_are (subst (λ (t : List ℕ). length t ≤ table_text_limit) text_is short))

first_has_one_end : (bound nodes edges : ℕ) → bound < 2 ^ 32 → nodes < 2 ^ 32 → edges < 2 ^ 32 → HasOneEnd (table_first_line bound nodes edges)
first_has_one_end bound nodes edges b n e =
    line_has_one_end (codes "fmm-table") (codes "1" ∷ codes "bound" ∷ decimal bound ∷ codes "nodes" ∷ decimal nodes ∷ codes "edges" ∷ decimal edges ∷ []) refl
    (refl, (refl, (number_has_no_end bound (omega (arith, b)), (refl, (number_has_no_end nodes (omega (arith, n)), (refl, (number_has_no_end edges (omega (arith, e)), tt)))))))

no_empty_table : (bound nodes edges : ℕ) → AreTableLines bound nodes edges [] → ⊥
no_empty_table bound nodes edges is = omega (arith, ap length is.lines_are)

-- a text of a table begins with the first line
first_found : (bound nodes edges : ℕ) (text first : List ℕ) (others : List (List ℕ)) (rest : List ℕ) → AreTableLines bound nodes edges (first ∷ others) → text ≡ first ++ rest
    → (after_bytes (table_first_line bound nodes edges) text ≡ Some rest) × RowsFrom nodes edges 0 0 others
first_found bound nodes edges text first others rest is begins =
    let parts = same_lines first (table_first_line bound nodes edges) others (map row_line is.rows ++ table_end_line (length is.rows) ∷ []) is.lines_are in (
      ap (after_bytes (table_first_line bound nodes edges)) (begins ∙ ap (λ (l : List ℕ). l ++ rest) parts.0) ∙ after_again (table_first_line bound nodes edges) rest,
      record {
        rows = is.rows;
        are = is.rows_are;
        lines_are = parts.1 ∙ ap (λ (n : ℕ). map row_line is.rows ++ table_end_line n ∷ []) (let e : length is.rows ≡ 0 + length is.rows = omega arith in e);
      },
    )

pub record Bounds (bound nodes edges : ℕ) : Type 0 where
  pub bound_fits : bound < 2 ^ 32
  pub nodes_fit : nodes < 2 ^ 32
  pub edges_fit : edges < 2 ^ 32

behind_first_fault : (bound nodes edges : ℕ) (text : List ℕ) (fault : TableFault) → Bounds bound nodes edges → (first : Option (List ℕ)) → after_bytes (table_first_line bound nodes edges) text ≡ first
    → table_after_first (counts_of nodes edges) text first ≡ Err fault → FaultIs 1 (AreTableLines bound nodes edges) text fault
behind_first_fault bound nodes edges text fault fit None is e = fails_at (λ n. BadLine n) Cut 1 text fault (
    record {
      lines = table_lines bound nodes edges [];
      is = record { rows = []; rows_are = tt; lines_are = refl };
      some = no_empty_table bound nodes edges;
      none = λ first others rest t begins. none-some rest (sym is ∙ (first_found bound nodes edges text first others rest t begins).0);
    }
    ) cc
behind_first_fault bound nodes edges text fault fit (Some next) is e =
    let steps : Steps (AreTableLines bound nodes edges) (RowsFrom nodes edges 0 0) text (table_first_line bound nodes edges) next = record {
      one = first_has_one_end bound nodes edges fit.bound_fits fit.nodes_fit fit.edges_fit;
      text_is = after_takes (table_first_line bound nodes edges) text next is;
      more = λ others u. record {
        rows = u.rows;
        rows_are = u.are;
        lines_are = ap (λ (ls : List (List ℕ)). table_first_line bound nodes edges ∷ ls) u.lines_are
            ∙ ap (λ (n : ℕ). table_first_line bound nodes edges ∷ (map row_line u.rows ++ table_end_line n ∷ [])) (let e : 0 + length u.rows ≡ length u.rows = omega arith in e);
      };
      some = no_empty_table bound nodes edges;
      only = λ first others rest t begins.
          let found = first_found bound nodes edges text first others rest t begins in
          (found.1, cc (found.0, is));
    } in
    step (λ n. BadLine n) Cut 1 fault steps (rows_fault nodes edges (length next + 1) 0 0 next fault (omega arith) e)

-- a fault of a text within the limit means what it says
pub record Meant (bound nodes edges : ℕ) (text : List ℕ) (fault : TableFault) : Type 0 where
  pub short : length text ≤ table_text_limit
  pub means : Means (λ n. BadLine n) Cut (AreTableLines bound nodes edges) text fault

pub meant : (bound nodes edges : ℕ) (text : List ℕ) (fault : TableFault) → Bounds bound nodes edges → table_of_text bound nodes edges text ≡ Err fault → (fault ≡ TooLong → ⊥) → Meant bound nodes edges text fault
meant bound nodes edges text fault fit e other = by_length (nat_lt table_text_limit (length text)) refl e
  where
    not_whole : length text ≤ table_text_limit → (lines : List (List ℕ)) → AreTableLines bound nodes edges lines → text ≢ concat lines
    not_whole short lines is whole = let read = whole_reads bound nodes edges text lines short is whole in absurd (cc (sym read.1 ∙ e))

    by_length : (long : Bool) → nat_lt table_text_limit (length text) ≡ long
        → cond {A = Rows} long (Err TooLong) (table_after_first (counts_of nodes edges) text (after_bytes (table_first_line bound nodes edges) text)) ≡ Err fault → Meant bound nodes edges text fault
    by_length true is h = absurd (other cc)
    by_length false is h =
        let short : length text ≤ table_text_limit = search (rules, is) in
        record { short = short; means = fault_means (λ n. BadLine n) Cut fault (not_whole short) (behind_first_fault bound nodes edges text fault fit (after_bytes (table_first_line bound nodes edges) text) refl h) }

-- a text within the limit that is no table has a fault that means what it says
pub no_table : (bound nodes edges : ℕ) (text : List ℕ) → Bounds bound nodes edges → length text ≤ table_text_limit → ((lines : List (List ℕ)) → AreTableLines bound nodes edges lines → text ≢ concat lines)
    → (fault : TableFault) × (table_of_text bound nodes edges text ≡ Err fault) × Means (λ n. BadLine n) Cut (AreTableLines bound nodes edges) text fault
no_table bound nodes edges text fit short not_whole = by_read (table_after_first (counts_of nodes edges) text (after_bytes (table_first_line bound nodes edges) text)) refl
  where
    within : nat_lt table_text_limit (length text) ≡ false
    within = search (rules, short)

    reads : (read : Rows) → table_after_first (counts_of nodes edges) text (after_bytes (table_first_line bound nodes edges) text) ≡ read → table_of_text bound nodes edges text ≡ read
    reads read e = rw within e

    by_read : (read : Rows) → table_after_first (counts_of nodes edges) text (after_bytes (table_first_line bound nodes edges) text) ≡ read
        → (fault : TableFault) × (table_of_text bound nodes edges text ≡ Err fault) × Means (λ n. BadLine n) Cut (AreTableLines bound nodes edges) text fault
    by_read (Ok rows) e =
        let is = tables_have_one_text bound nodes edges rows text (reads (Ok rows) e) in
        absurd (not_whole (table_lines bound nodes edges rows) (record { rows = rows; rows_are = is.rows_are; lines_are = refl }) (is.text_is ∙ sym (lines_are_text bound nodes edges rows)))
    by_read (Err fault) e =
        (fault, reads (Err fault) e, fault_means (λ n. BadLine n) Cut fault not_whole (behind_first_fault bound nodes edges text fault fit (after_bytes (table_first_line bound nodes edges) text) refl e))
