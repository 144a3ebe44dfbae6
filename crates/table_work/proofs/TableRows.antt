-- The rows of all nodes, added one after the other.
use Rattle.std.proofs.Common.{◌≡◌, ℕ, zero, suc, ◌+◌, ◌-◌, ◌<◌, ◌≤◌, List, [], ◌∷◌, ◌++◌, length, Result, Ok, Err, refl, sym, ap, subst, ◌∙◌, arith, length-append}
use Rattle.std.specs.Prelude.{IfOk, IsErrOf, fold}
use Rattle.std.proofs.lemmas.List.FromFn.{map-range_with_len_more}
use Rattle.std.proofs.lemmas.List.Sums.{fold-append}
use Rattle.bounded_table.proofs.RowValues.{row_values}
use Rattle.bounded_table.specs.RowValue.{row_of}
use Rattle.bounded_table.specs.Table.{BoundedTable, IsRow, TableRow}
use Rattle.road_network.specs.Net.{HasNode, IsLawful, Net}
use Rattle.table_work.proofs.Drafts.{drafts_are_tables}
use Rattle.table_work.specs.Draft.{Draft, draft_of_no_rows, draft_with_row}
use Rattle.table_work.specs.TableText.{table_end_line, table_text_limit}
use Rattle.table_work.specs.declared.fault.TableWriteFault.{TableWriteFault}
use Rattle.table_work.specs.declared.fault.TableWriteFault.TheVariants.{TooLong, Memory}
use Rattle.table_work.specs.Table.{first_rows, text_of_network}
use Rattle.table_work.specs.inside.TableDone.{AddsRows, WritesTable, draft_with_rows}

-- the row of one more node
next_row : (table : BoundedTable) (k : ℕ) (draft : Draft) → draft_with_rows table (k + 1) draft ≡ draft_with_row (draft_with_rows table k draft) (row_of table.network table.bound k)
next_row table k draft =
    let more : first_rows table.network table.bound (k + 1) ≡ first_rows table.network table.bound k ++ row_of table.network table.bound k ∷ [] =
    map-range_with_len_more (row_of table.network table.bound) 0 k k (omega arith) in
    ap (fold draft_with_row draft) more ∙ fold-append draft_with_row draft (first_rows table.network table.bound k) (row_of table.network table.bound k ∷ [])

-- the row that was found is that of the node
pub row_added : (table : BoundedTable) (k : ℕ) (row : TableRow) (first old new : Draft) → IsLawful table.network → HasNode table.network k → IsRow table.network table.bound k row
    → old ≡ draft_with_rows table k first → new ≡ draft_with_row old row → new ≡ draft_with_rows table (k + 1) first
row_added table k row first old new lawful has is before added =
    let value : row ≡ row_of table.network table.bound k = (row_values table.network table.bound k row lawful has).0 is in
    added ∙ ap (λ (d : Draft). draft_with_row d row) before ∙ ap (draft_with_row (draft_with_rows table k first)) value ∙ sym (next_row table k first)

-- ---- a text that is too long

no_shorter : (front back : List ℕ) → length front ≤ length (front ++ back)
no_shorter front back = omega (arith, length-append front back)

at_most : (a : ℕ) → a ≤ a
at_most a = omega arith

within_both : (a b c : ℕ) → a ≤ b → b ≤ c → a ≤ c
within_both a b c one two = omega arith

below_both : (a b c : ℕ) → a < b → b ≤ c → a < c
below_both a b c one two = omega arith

-- one more row makes the lines no shorter
grows_once : (table : BoundedTable) (k : ℕ) (draft : Draft) → length (draft_with_rows table k draft).lines ≤ length (draft_with_rows table (k + 1) draft).lines
grows_once table k draft =
    subst (λ (d : Draft). length (draft_with_rows table k draft).lines ≤ length d.lines) (sym (next_row table k draft)) (no_shorter (draft_with_rows table k draft).lines _)

-- nor do more rows
grows : (table : BoundedTable) (k more : ℕ) (draft : Draft) → length (draft_with_rows table k draft).lines ≤ length (draft_with_rows table (k + more) draft).lines
grows table k zero draft =
    subst (λ (n : ℕ). length (draft_with_rows table k draft).lines ≤ length (draft_with_rows table n draft).lines) (let e : k ≡ k + 0 = omega arith in e) (at_most (length (draft_with_rows table k draft).lines))
grows table k (suc more) draft =
    subst (λ (n : ℕ). length (draft_with_rows table k draft).lines ≤ length (draft_with_rows table n draft).lines) (let e : k + more + 1 ≡ k + suc more = omega arith in e)
    (within_both (length (draft_with_rows table k draft).lines) (length (draft_with_rows table (k + more) draft).lines) (length (draft_with_rows table (k + more + 1) draft).lines) (grows table k more draft) (grows_once table (k + more) draft))

-- where one row makes the text too long, those of all nodes do
row_too_long : (table : BoundedTable) (k nodes : ℕ) (row : TableRow) (first old : Draft) → k < nodes → IsLawful table.network → HasNode table.network k → IsRow table.network table.bound k row
    → old ≡ draft_with_rows table k first → table_text_limit < length (draft_with_row old row).lines → table_text_limit < length (draft_with_rows table nodes first).lines
row_too_long table k nodes row first old low lawful has is before long =
    let here = subst (λ (d : Draft). table_text_limit < length d.lines) (row_added table k row first old (draft_with_row old row) lawful has is before refl) long in
    let rest : k + 1 + (nodes - (k + 1)) ≡ nodes = omega (arith, low) in
    let more = subst (λ (n : ℕ). length (draft_with_rows table (k + 1) first).lines ≤ length (draft_with_rows table n first).lines) rest (grows table (k + 1) (nodes - (k + 1)) first) in
    below_both table_text_limit (length (draft_with_rows table (k + 1) first).lines) (length (draft_with_rows table nodes first).lines) here more

abbrev pub failed : TableWriteFault → Result (Unit {0}) TableWriteFault
failed fault = Err fault

-- a row that is not added
pub row_fails : (table : BoundedTable) (k nodes : ℕ) (row : TableRow) (first old new : Draft) (fault : TableWriteFault) → k < nodes → IsLawful table.network → HasNode table.network k → IsRow table.network table.bound k row
    → old ≡ draft_with_rows table k first → (IsErrOf (failed fault) TooLong → table_text_limit < length (draft_with_row old row).lines) → AddsRows table nodes first new (Err fault)
row_fails table k nodes row first old new TooLong low lawful has is before long = row_too_long table k nodes row first old low lawful has is before (long refl)
row_fails table k nodes row first old new Memory low lawful has is before long = tt

-- ---- the text of all rows

-- the first line, and the lines of all nodes
abbrev all_rows : Net → ℕ → Draft
all_rows net bound = draft_with_rows (record { network = net; bound = bound }) (length net.nodes) (draft_of_no_rows bound (length net.nodes) (length net.edges))

-- the searcher and the writer were opened for this network
pub record IsOpened (net : Net) (bound nodes edges : ℕ) (table : BoundedTable) (first : Draft) : Type 0 where
  pub table_is : table ≡ record { network = net; bound = bound }
  pub nodes_are : nodes ≡ length net.nodes
  pub edges_are : edges ≡ length net.edges
  pub first_is : first ≡ draft_of_no_rows bound nodes edges

opened_rows : (net : Net) (bound nodes edges : ℕ) (table : BoundedTable) (first : Draft) → IsOpened net bound nodes edges table first → draft_with_rows table nodes first ≡ all_rows net bound
opened_rows net bound nodes edges table first opened =
    let whole : BoundedTable = record { network = net; bound = bound } in
    ap (λ (t : BoundedTable). draft_with_rows t nodes first) opened.table_is
    ∙ ap (λ (n : ℕ). draft_with_rows whole n first) opened.nodes_are
    ∙ ap (draft_with_rows whole (length net.nodes)) (opened.first_is ∙ ap (λ (n : ℕ). draft_of_no_rows bound n edges) opened.nodes_are ∙ ap (draft_of_no_rows bound (length net.nodes)) opened.edges_are)

-- the lines of all rows with the last line are the text
text_is : (net : Net) (bound : ℕ) (draft : Draft) → draft ≡ all_rows net bound → draft.lines ++ table_end_line draft.rows ≡ text_of_network net bound
text_is net bound draft is =
    ap (λ (d : Draft). d.lines ++ table_end_line d.rows) is ∙ drafts_are_tables bound (length net.nodes) (length net.edges) (first_rows net bound (length net.nodes))

lines_too_long : (net : Net) (bound : ℕ) (draft : Draft) → draft ≡ all_rows net bound → table_text_limit < length draft.lines → table_text_limit < length (text_of_network net bound)
lines_too_long net bound draft is long =
    subst (λ (t : List ℕ). table_text_limit < length t) (text_is net bound draft is)
    (below_both table_text_limit (length draft.lines) (length (draft.lines ++ table_end_line draft.rows)) long (no_shorter draft.lines (table_end_line draft.rows)))

-- rows that are not all added
pub rows_fail : (net : Net) (bound nodes edges : ℕ) (table : BoundedTable) (first new : Draft) (fault : TableWriteFault) → IsOpened net bound nodes edges table first
    → AddsRows table nodes first new (Err fault) → WritesTable net bound (Err fault)
rows_fail net bound nodes edges table first new TooLong opened long = lines_too_long net bound (draft_with_rows table nodes first) (opened_rows net bound nodes edges table first opened) long
rows_fail net bound nodes edges table first new Memory opened long = tt

-- the text that a writer with all rows gives
pub rows_end : (net : Net) (bound nodes edges : ℕ) (table : BoundedTable) (first all : Draft) (text : Result (List ℕ) TableWriteFault) → IsOpened net bound nodes edges table first
    → all ≡ draft_with_rows table nodes first → IfOk text (λ t. t ≡ all.lines ++ table_end_line all.rows) → IfOk text (λ t. length t ≤ table_text_limit)
    → (IsErrOf text TooLong → table_text_limit < length (all.lines ++ table_end_line all.rows)) → WritesTable net bound text
rows_end net bound nodes edges table first all (Ok text) opened added ok within long =
    (ok ∙ text_is net bound all (added ∙ opened_rows net bound nodes edges table first opened), within)
rows_end net bound nodes edges table first all (Err TooLong) opened added ok within long =
    subst (λ (t : List ℕ). table_text_limit < length t) (text_is net bound all (added ∙ opened_rows net bound nodes edges table first opened)) (long refl)
rows_end net bound nodes edges table first all (Err Memory) opened added ok within long = tt
