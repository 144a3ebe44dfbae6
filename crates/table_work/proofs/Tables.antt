-- A table and its text.
use Rattle.std.proofs.Common.{◌≡◌, ℕ, zero, suc, ◌+◌, ◌<◌, ◌≤◌, Bool, true, false, cond, ◌&&◌, List, [], ◌∷◌, ◌++◌, length, Option, Some, None, Result, Ok, Err, refl, sym, ap, subst, ◌∙◌, append_assoc, arith, rules, length-append}
use Rattle.std.specs.Prelude.{nat_le, nat_lt}
use Rattle.std.specs.List.{AllByRecursion, list_all}
use Rattle.std.specs.Option.{IfSome}
use Rattle.std.proofs.lemmas.List.{append-nil}
use Rattle.std.proofs.lemmas.Bool.{lt-ltb}
use Rattle.bounded_table.specs.Table.{TableRow}
use Rattle.bounded_table.specs.declared.table_row.Entry.{Entry}
use Rattle.match_text.specs.Reading.{after_bytes}
use Rattle.match_text.proofs.Fields.{after_again, after_takes, bind_some}
use Rattle.road_network.specs.declared.EdgeId.{EdgeId}
use Rattle.row_text.specs.RowLine.{row_line}
use Rattle.row_text.proofs.RowLines.{rows_read_back}
use Rattle.table_work.specs.Laws.{AreTableRowsFrom, IsEntryBelow, IsTableRow, IsTableText, TablesHaveOneText, TablesReadBack}
use Rattle.table_work.specs.Reading.{table_after_first, if_allowed, is_edge_below, is_entry_below, is_row_allowed, row_allowed_at, rows_to_last, rows_after_read, rows_to_end, with_first}
use Rattle.table_work.specs.TableText.{table_end_line, table_first_line, row_lines, table_text, table_text_limit}
use Rattle.table_work.specs.declared.fault.TableFault.{TableFault}
use Rattle.table_work.specs.declared.fault.TableFault.TheVariants.{TooLong}
use Rattle.table_work.specs.declared.reading.Counts.{Counts}
use Rattle.table_work.proofs.RowsOfText.{row_takes}

abbrev pub counts_of : ℕ → ℕ → Counts
counts_of nodes edges = record { nodes = nodes; edges = edges }

pub both : (a b : Bool) → a && b ≡ true → (a ≡ true) × (b ≡ true)
both true b h = (refl, h)
both false b h = absurd cc

-- ---- the test of a row

edge_test : (edges : ℕ) (last : Option EdgeId) → IfSome last (λ e. e.0 < edges) → is_edge_below edges last ≡ true
edge_test edges None h = refl
edge_test edges (Some e) h = lt-ltb e.0 edges h

edge_met : (edges : ℕ) (last : Option EdgeId) → is_edge_below edges last ≡ true → IfSome last (λ e. e.0 < edges)
edge_met edges None h = tt
edge_met edges (Some e) h = search (rules, h)

entries_test : (nodes edges : ℕ) (entries : List Entry) → AllByRecursion (IsEntryBelow nodes edges) entries → list_all (is_entry_below (counts_of nodes edges)) entries ≡ true
entries_test nodes edges [] h = refl
entries_test nodes edges (x ∷ entries) h =
    rw (lt-ltb x.node.0 nodes h.0.node, edge_test edges x.last h.0.last) (entries_test nodes edges entries h.1)

pub entries_met : (nodes edges : ℕ) (entries : List Entry) → list_all (is_entry_below (counts_of nodes edges)) entries ≡ true → AllByRecursion (IsEntryBelow nodes edges) entries
entries_met nodes edges [] h = tt
entries_met nodes edges (x ∷ entries) h =
    let parts = both (is_entry_below (counts_of nodes edges) x) (list_all (is_entry_below (counts_of nodes edges)) entries) h in
    let first = both (nat_lt x.node.0 nodes) (is_edge_below edges x.last) parts.0 in
    (record { node = search (rules, first.0); last = edge_met edges x.last first.1 }, entries_met nodes edges entries parts.1)

row_test : (nodes edges least : ℕ) (row : TableRow) → IsTableRow nodes edges least row → is_row_allowed (counts_of nodes edges) least row ≡ true
row_test nodes edges least row is =
    let rises : nat_le least row.origin ≡ true = search (rules, is.rises) in
    rw rises (entries_test nodes edges row.entries is.below)

pub row_again : (nodes edges least : ℕ) (row : TableRow) (rest : List ℕ) → IsTableRow nodes edges least row → row_allowed_at (counts_of nodes edges) least (row_line row ++ rest) ≡ Some (row, rest)
row_again nodes edges least row rest is =
    bind_some _ (if_allowed (counts_of nodes edges) least) (row, rest) (rows_read_back row rest is.value) ∙ rw (row_test nodes edges least row is) refl

-- ---- rows behind the first line

no_end : (count : ℕ) (row : TableRow) (rest : List ℕ) → after_bytes (table_end_line count) (row_line row ++ rest) ≡ None
no_end count row rest = refl

-- from here on `count` rows are behind
rows_again : (nodes edges count least fuel : ℕ) (rows : List TableRow) → AreTableRowsFrom nodes edges least rows
    → length (row_lines rows ++ table_end_line (count + length rows)) < fuel
    → rows_to_last (counts_of nodes edges) fuel count least (row_lines rows ++ table_end_line (count + length rows)) ≡ Ok rows
rows_again nodes edges count least zero rows are enough = absurd (omega (arith, enough))
rows_again nodes edges count least (suc fuel) [] are enough =
    let is : table_end_line (count + 0) ≡ table_end_line count ++ [] = ap table_end_line (let e : count + 0 ≡ count = omega arith in e) ∙ sym (append-nil (table_end_line count)) in
    ap (rows_to_end (rows_to_last (counts_of nodes edges) fuel) (counts_of nodes edges) count least (table_end_line (count + 0))) (ap (after_bytes (table_end_line count)) is ∙ after_again (table_end_line count) [])
rows_again nodes edges count least (suc fuel) (row ∷ rows) are enough =
    let rest = row_lines rows ++ table_end_line (count + 1 + length rows) in
    let text_is : row_lines (row ∷ rows) ++ table_end_line (count + suc (length rows)) ≡ row_line row ++ rest =
    append_assoc (row_line row) (row_lines rows) (table_end_line (count + suc (length rows)))
    ∙ ap (λ (n : ℕ). row_line row ++ (row_lines rows ++ table_end_line n)) (let e : count + suc (length rows) ≡ count + 1 + length rows = omega arith in e) in
    let more = rows_again nodes edges (count + 1) (row.origin + 1) fuel rows are.1 (omega (arith, enough, ap length text_is, length-append (row_line row) rest)) in
    ap (rows_to_last (counts_of nodes edges) (suc fuel) count least) text_is
    ∙ ap (rows_to_end (rows_to_last (counts_of nodes edges) fuel) (counts_of nodes edges) count least (row_line row ++ rest)) (no_end count row rest)
    ∙ ap (rows_after_read (rows_to_last (counts_of nodes edges) fuel) count (row_line row ++ rest)) (row_again nodes edges least row rest are.0)
    ∙ ap (with_first row) more

pub tables_read_back : TablesReadBack
tables_read_back bound nodes edges rows are short =
    let first = table_first_line bound nodes edges in
    let rest = row_lines rows ++ table_end_line (length rows) in
    let within : nat_lt table_text_limit (length (table_text bound nodes edges rows)) ≡ false = search (rules, short) in
    let none : 0 + length rows ≡ length rows = omega arith in
    let all = subst (λ (n : ℕ). length (row_lines rows ++ table_end_line n) < length rest + 1 → rows_to_last (counts_of nodes edges) (length rest + 1) 0 0 (row_lines rows ++ table_end_line n) ≡ Ok rows) none
    (rows_again nodes edges 0 0 (length rest + 1) rows are) (omega arith) in
    rw within (ap (table_after_first (counts_of nodes edges) (first ++ rest)) (after_again first rest) ∙ all)

record RowsTaken (nodes edges count least : ℕ) (text : List ℕ) (rows : List TableRow) : Type 0 where
  pub rows_are : AreTableRowsFrom nodes edges least rows
  pub text_is : text ≡ row_lines rows ++ table_end_line (count + length rows)

-- what so much fuel reads is the text of it
abbrev Takes : (nodes edges fuel count : ℕ) → Type 0
Takes nodes edges fuel count = (least : ℕ) (next : List ℕ) (others : List TableRow) → rows_to_last (counts_of nodes edges) fuel count least next ≡ Ok others → RowsTaken nodes edges count least next others

rows_take : (nodes edges fuel count least : ℕ) (text : List ℕ) (rows : List TableRow) → rows_to_last (counts_of nodes edges) fuel count least text ≡ Ok rows → RowsTaken nodes edges count least text rows
rows_take nodes edges zero count least text rows e = absurd cc
rows_take nodes edges (suc fuel) count least text rows e = by_end (λ l next others h. rows_take nodes edges fuel (count + 1) l next others h) (after_bytes (table_end_line count) text) refl e
  where
    same_rows : (xs ys : List TableRow) → ◌≡◌ {A = Result (List TableRow) TableFault} (Ok xs) (Ok ys) → xs ≡ ys
    same_rows xs ys e = cc

    by_rows : Takes nodes edges fuel (count + 1) → (row : TableRow) (rest : List ℕ) → row_allowed_at (counts_of nodes edges) least text ≡ Some (row, rest) → (read : Result (List TableRow) TableFault)
        → rows_to_last (counts_of nodes edges) fuel (count + 1) (row.origin + 1) rest ≡ read → with_first row read ≡ Ok rows → RowsTaken nodes edges count least text rows
    by_rows takes row rest is (Err fault) read_is e = absurd cc
    by_rows takes row rest is (Ok others) read_is e =
        let taken = row_takes (counts_of nodes edges) least text row rest is in
        let more = takes (row.origin + 1) rest others read_is in
        let allowed = both (nat_le least row.origin) (list_all (is_entry_below (counts_of nodes edges)) row.entries) taken.allowed in
        let all : RowsTaken nodes edges count least text (row ∷ others) = record {
          rows_are = (record { value = taken.value; rises = search (rules, allowed.0); below = entries_met nodes edges row.entries allowed.1 }, more.rows_are);
          text_is = taken.text_is ∙ ap (λ (t : List ℕ). row_line row ++ t) more.text_is
              ∙ sym (append_assoc (row_line row) (row_lines others) (table_end_line (count + 1 + length others)))
              ∙ ap (λ (n : ℕ). row_lines (row ∷ others) ++ table_end_line n) (let e : count + 1 + length others ≡ count + suc (length others) = omega arith in e);
        } in
        subst (λ (rs : List TableRow). RowsTaken nodes edges count least text rs) (same_rows (row ∷ others) rows e) all

    by_row : Takes nodes edges fuel (count + 1) → (read : Option (TableRow × List ℕ)) → row_allowed_at (counts_of nodes edges) least text ≡ read → rows_after_read (rows_to_last (counts_of nodes edges) fuel) count text read ≡ Ok rows → RowsTaken nodes edges count least text rows
    by_row takes None is e = absurd cc
    by_row takes (Some read) is e = by_rows takes read.0 read.1 is (rows_to_last (counts_of nodes edges) fuel (count + 1) (read.0.origin + 1) read.1) refl e

    by_end : Takes nodes edges fuel (count + 1) → (end : Option (List ℕ)) → after_bytes (table_end_line count) text ≡ end → rows_to_end (rows_to_last (counts_of nodes edges) fuel) (counts_of nodes edges) count least text end ≡ Ok rows → RowsTaken nodes edges count least text rows
    by_end takes None is e = by_row takes (row_allowed_at (counts_of nodes edges) least text) refl e
    by_end takes (Some (b ∷ bs)) is e = absurd cc
    by_end takes (Some []) is e =
        let none : RowsTaken nodes edges count least text [] = record {
          rows_are = tt;
          text_is = after_takes (table_end_line count) text [] is ∙ append-nil (table_end_line count) ∙ ap table_end_line (let e : count ≡ count + 0 = omega arith in e);
        } in
        subst (λ (rs : List TableRow). RowsTaken nodes edges count least text rs) (same_rows [] rows e) none

pub tables_have_one_text : TablesHaveOneText
tables_have_one_text bound nodes edges rows text e = by_length (nat_lt table_text_limit (length text)) refl e
  where
    by_first : (first : Option (List ℕ)) → after_bytes (table_first_line bound nodes edges) text ≡ first → length text ≤ table_text_limit
        → table_after_first (counts_of nodes edges) text first ≡ Ok rows → IsTableText bound nodes edges rows text
    by_first None is short e = absurd cc
    by_first (Some rest) is short e =
        let taken = rows_take nodes edges (length rest + 1) 0 0 rest rows e in
        record {
          rows_are = taken.rows_are;
          text_is = after_takes (table_first_line bound nodes edges) text rest is
              ∙ ap (λ (t : List ℕ). table_first_line bound nodes edges ++ t)
              (taken.text_is ∙ ap (λ (n : ℕ). row_lines rows ++ table_end_line n) (let e : 0 + length rows ≡ length rows = omega arith in e));
          short = short;
        }

    by_length : (long : Bool) → nat_lt table_text_limit (length text) ≡ long
        → cond {A = Result (List TableRow) TableFault} long (Err TooLong) (table_after_first (counts_of nodes edges) text (after_bytes (table_first_line bound nodes edges) text)) ≡ Ok rows
        → IsTableText bound nodes edges rows text
    by_length true is e = absurd cc
    by_length false is e = by_first (after_bytes (table_first_line bound nodes edges) text) refl (search (rules, is)) e
