-- Rows of a table file, tried one by one.
use Rattle.std.proofs.Common.{◌≡◌, ◌↔◌, ◌<◌, ℕ, ◌+◌, ◌==◌, Bool, true, false, cond, List, [], ◌∷◌, length, Option, Some, Result, Ok, Err, All, refl, sym, ◌∙◌, ap, subst}
use Rattle.std.specs.Prelude.{IsTrue, option_map}
use Rattle.std.specs.List.{AllByRecursion}
use Rattle.std.proofs.lemmas.Bool.Decides.{Decides-eqb}
use Rattle.std.proofs.lemmas.List.Elements.{All-cons, All-nil}
use Rattle.bounded_table.proofs.RightRows.{tried_is}
use Rattle.bounded_table.specs.RightRow.{is_right_row}
use Rattle.bounded_table.specs.Table.{BoundedTable, IsRow, TableRow, entry_in, label_in, label_of}
use Rattle.bounded_table.specs.declared.table_row.Entry.{Entry}
use Rattle.bounded_table.specs.declared.table_row.Label.{Label}
use Rattle.road_network.specs.Net.{HasNode, IsLawful, Net, node_name}
use Rattle.table_work.proofs.Tables.{tables_have_one_text}
use Rattle.table_work.specs.Laws.{AreTableRowsFrom, IsEntryBelow}
use Rattle.table_work.specs.Reading.{table_of_text}
use Rattle.program_frame.specs.Loads.{RefusesLoad}
use Rattle.program_frame.specs.Stops.{RefusesFault}
use Rattle.program_frame.specs.declared.stop.Refusal.{Refusal}
use Rattle.program_frame.specs.declared.stop.Refusal.TheVariants.{Table}
use Rattle.program_frame.specs.declared.stop.Stop.{Stop}
use Rattle.program_frame.specs.declared.stop.Stop.TheVariants.{Refused, NoMemory, Unread, Unwritten}
use Rattle.table_work.specs.Preload.{row_said, wrong_row_line}

-- ---- what is said of a row

-- a row was tried with this answer
pub record IsTried (net : Net) (table : BoundedTable) (row : TableRow) (origin : ℕ) (t : Bool) : Type 0 where
  pub lawful : IsLawful net
  pub has : HasNode net row.origin
  pub network : table.network ≡ net
  pub of_origin : origin ≡ row.origin
  pub answer : IsTrue t ↔ IsRow table.network table.bound origin row

pub answer_is : (net : Net) (table : BoundedTable) (row : TableRow) (origin : ℕ) (t : Bool) → IsTried net table row origin t → is_right_row net table.bound row ≡ t
answer_is net table row origin t tried =
    let at_origin = subst (λ (s : ℕ). IsTrue t ↔ IsRow table.network table.bound s row) tried.of_origin tried.answer in
    sym (tried_is net table.bound row t tried.lawful tried.has (subst (λ (n : Net). IsTrue t ↔ IsRow n table.bound row.origin row) tried.network at_origin))

said_by : (net : Net) (bound : ℕ) (row : TableRow) (t : Bool) → is_right_row net bound row ≡ t → row_said net bound row ≡ cond {A = Result (Unit {0}) (List ℕ)} t (Ok tt) (Err (wrong_row_line (node_name net row.origin)))
said_by net bound row t is = ap (λ b. cond {A = Result (Unit {0}) (List ℕ)} b (Ok tt) (Err (wrong_row_line (node_name net row.origin)))) is

pub right_said : (net : Net) (table : BoundedTable) (row : TableRow) (origin : ℕ) → IsTried net table row origin true → row_said net table.bound row ≡ Ok tt
right_said net table row origin tried = said_by net table.bound row true (answer_is net table row origin true tried)

-- a refusal with the line that is said
refused_said : {A : Type 0} (refusal : Refusal) (said : Result A (List ℕ)) (line : List ℕ) (stop : Stop) → said ≡ Err line → RefusesFault refusal (Unit {0}) line stop → RefusesLoad refusal said stop
refused_said refusal said line (Refused r l) is stops = (stops.1, is ∙ ap (λ t. Err t) (sym stops.2))
refused_said refusal said line NoMemory is stops = tt
refused_said refusal said line (Unread file) is stops = absurd stops
refused_said refusal said line Unwritten is stops = absurd stops

pub wrong_said : (net : Net) (table : BoundedTable) (row : TableRow) (origin id : ℕ) (stop : Stop) → IsTried net table row origin false → id ≡ node_name net origin → RefusesFault Table (Unit {0}) (wrong_row_line id) stop → RefusesLoad Table (row_said net table.bound row) stop
wrong_said net table row origin id stop tried named stops =
    let own : id ≡ node_name net row.origin = named ∙ ap (node_name net) tried.of_origin in
    refused_said Table (row_said net table.bound row) (wrong_row_line id) stop
    (said_by net table.bound row false (answer_is net table row origin false tried) ∙ ap (λ (n : ℕ). Err (wrong_row_line n)) (sym own)) stops

-- ---- the origins of rows that were read

listed_below : (nodes edges v : ℕ) (l : Label) (entries : List Entry) → AllByRecursion (IsEntryBelow nodes edges) entries → label_in entries v ≡ Some l → v < nodes
listed_below nodes edges v l [] below e = absurd cc
listed_below nodes edges v l (x ∷ entries) below e = by_test (x.node.0 == v) refl (λ later. listed_below nodes edges v l entries below.1 later) e
  where
    by_test : (here : Bool) → (x.node.0 == v) ≡ here → (label_in entries v ≡ Some l → v < nodes) → option_map label_of (cond {A = Option Entry} here (Some x) (entry_in entries v)) ≡ Some l → v < nodes
    by_test true is later e = subst (λ n. n < nodes) ((Decides-eqb x.node.0 v).0 is) below.0.node
    by_test false is later e = later e

origins_below : (nodes edges least : ℕ) (rows : List TableRow) → AreTableRowsFrom nodes edges least rows → All (λ (row : TableRow). row.origin < nodes) rows
origins_below nodes edges least [] are = All-nil (λ (row : TableRow). row.origin < nodes)
origins_below nodes edges least (row ∷ rows) are =
    All-cons (λ (r : TableRow). r.origin < nodes) row rows (listed_below nodes edges row.origin _ row.entries are.0.below are.0.value.rules.origin) (origins_below nodes edges (row.origin + 1) rows are.1)

-- the origin of a row that was read is a node
pub have_nodes : (net : Net) (bound : ℕ) (bytes : List ℕ) (rows : List TableRow) → table_of_text bound (length net.nodes) (length net.edges) bytes ≡ Ok rows → All (λ (row : TableRow). HasNode net row.origin) rows
have_nodes net bound bytes rows is =
    origins_below (length net.nodes) (length net.edges) 0 rows (tables_have_one_text bound (length net.nodes) (length net.edges) rows bytes is).rows_are
