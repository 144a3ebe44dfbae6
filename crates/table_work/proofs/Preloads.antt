-- A table file that is read and accepted, or refused.
use Rattle.std.proofs.Common.{◌≡◌, ℕ, List, ◌∷◌, length, Result, Ok, sym, ◌∙◌, ap, subst}
use Rattle.bounded_table.specs.Table.{TableRow}
use Rattle.command_line.specs.Options.{and_then}
use Rattle.program_frame.specs.Loads.{RefusesLoad}
use Rattle.program_frame.specs.inside.Refusing.{Accepts}
use Rattle.program_frame.specs.declared.stop.Refusal.{Refusal}
use Rattle.program_frame.specs.declared.stop.Refusal.TheVariants.{Table}
use Rattle.program_frame.specs.declared.stop.Stop.{Stop}
use Rattle.program_frame.specs.declared.stop.Stop.TheVariants.{Refused, NoMemory, Unread, Unwritten}
use Rattle.road_network.specs.Net.{Net}
use Rattle.table_work.specs.Reading.{table_of_text}
use Rattle.table_work.specs.Preload.{row_said, rows_in, rows_said, table_file_said}

-- ---- the text

-- the call was for this network and these bytes
pub record IsCallFor (net : Net) (bytes : List ℕ) (nodes edges : ℕ) (text : List ℕ) : Type 0 where
  pub nodes_are : nodes ≡ length net.nodes
  pub edges_are : edges ≡ length net.edges
  pub text_is : text ≡ bytes

pub called : (net : Net) (bound : ℕ) (bytes : List ℕ) (nodes edges : ℕ) (text : List ℕ) → IsCallFor net bytes nodes edges text → table_of_text bound nodes edges text ≡ table_of_text bound (length net.nodes) (length net.edges) bytes
called net bound bytes nodes edges text call =
    ap (λ n. table_of_text bound n edges text) call.nodes_are
    ∙ ap (λ n. table_of_text bound (length net.nodes) n text) call.edges_are
    ∙ ap (table_of_text bound (length net.nodes) (length net.edges)) call.text_is

-- ---- one part accepted or refused before the next

-- a refusal of the first part is one of both
pub first_refuses : {A B : Type 0} (refusal : Refusal) (said : Result A (List ℕ)) (next : A → Result B (List ℕ)) (stop : Stop) → RefusesLoad refusal said stop → RefusesLoad refusal (and_then said next) stop
first_refuses {A} {B} refusal said next (Refused r line) refuses = (refuses.0, ap (λ (s : Result A (List ℕ)). and_then s next) refuses.1)
first_refuses refusal said next NoMemory refuses = tt
first_refuses refusal said next (Unread file) refuses = absurd refuses
first_refuses refusal said next Unwritten refuses = absurd refuses

-- ---- the rows

-- a row was tried, and those behind it are left
pub rows_left : (net : Net) (bound : ℕ) (row : TableRow) (all left rest : List TableRow) → left ≡ row ∷ rest → row_said net bound row ≡ Ok tt → rows_said net bound left ≡ rows_said net bound all → rows_said net bound rest ≡ rows_said net bound all
rows_left net bound row all left rest next is before =
    sym (ap (rows_said net bound) next ∙ ap (λ (s : Result (Unit {0}) (List ℕ)). and_then s (λ _. rows_said net bound rest)) is) ∙ before

-- a row is refused, and so are all
pub rows_refused : (net : Net) (bound : ℕ) (row : TableRow) (all left rest : List TableRow) (stop : Stop) → left ≡ row ∷ rest → rows_said net bound left ≡ rows_said net bound all → RefusesLoad Table (row_said net bound row) stop → RefusesLoad Table (rows_said net bound all) stop
rows_refused net bound row all left rest stop next before refuses =
    subst (λ (s : Result (Unit {0}) (List ℕ)). RefusesLoad Table s stop) (sym (ap (rows_said net bound) next) ∙ before) (first_refuses Table (row_said net bound row) (λ _. rows_said net bound rest) stop refuses)

-- ---- the file

-- the rows of a file were read and tried
pub file_tried : (net : Net) (bound checked : ℕ) (bytes : List ℕ) (rows : List TableRow) (tried : Result (Unit {0}) Stop) → rows_in net bound bytes ≡ Ok rows → checked ≡ bound → Accepts Table (rows_said net checked rows) tried → Accepts Table (table_file_said net bound bytes) tried
file_tried net bound checked bytes rows tried read same accepts =
    subst (λ (said : Result (Unit {0}) (List ℕ)). Accepts Table said tried) (sym (ap (λ (r : Result (List TableRow) (List ℕ)). and_then r (rows_said net bound)) read))
    (subst (λ (b : ℕ). Accepts Table (rows_said net b rows) tried) same accepts)

-- the file is for this network and this bound
pub file_for : (net net' : Net) (bound bound' : ℕ) (bytes : List ℕ) (tried : Result (Unit {0}) Stop) → net ≡ net' → bound ≡ bound' → Accepts Table (table_file_said net bound bytes) tried → Accepts Table (table_file_said net' bound' bytes) tried
file_for net net' bound bound' bytes tried networks bounds accepts =
    subst (λ (n : Net). Accepts Table (table_file_said n bound' bytes) tried) networks
    (subst (λ (b : ℕ). Accepts Table (table_file_said net b bytes) tried) bounds accepts)
