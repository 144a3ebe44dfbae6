-- The laws of the faults of a table text.
use Rattle.std.proofs.Common.{◌≡◌, ◌≢◌, ℕ, ◌^◌, ◌<◌, ◌≤◌, ◌⊎◌, inl, inr, List, [], length, Ok, Err, sym, ap, subst, ◌∙◌}
use Rattle.std.specs.List.{concat}
use Rattle.std.proofs.lemmas.List.{append-nil}
use Rattle.row_text.specs.LineFaults.{IsCutOf, IsFirstBadLineOf}
use Rattle.row_text.proofs.FaultMeanings.{is_bad_line, is_cut}
use Rattle.table_work.specs.Faults.{BadTableLinesAreFirst, CutTablesLackTheirEnd, AreTableLines}
use Rattle.table_work.specs.Reading.{Answers, ReadsTable, table_of_text}
use Rattle.table_work.specs.TableText.{table_text_limit}
use Rattle.table_work.specs.declared.fault.TableFault.{TableFault}
use Rattle.table_work.specs.declared.fault.TableFault.TheVariants.{BadLine, Cut, Memory}
use Rattle.table_work.proofs.TableFaults.{Rows, Bounds, meant, no_table}

-- ---- the laws

pub bad_lines_are_first : BadTableLinesAreFirst
bad_lines_are_first bound nodes edges text n b ns es = (to, back)
  where
    fit : Bounds bound nodes edges
    fit = record { bound_fits = b; nodes_fit = ns; edges_fit = es }

    by_kind : length text ≤ table_text_limit → ((k : ℕ) × (◌≡◌ {A = TableFault} (BadLine n) (BadLine k)) × IsFirstBadLineOf (AreTableLines bound nodes edges) k text) ⊎ ((◌≡◌ {A = TableFault} (BadLine n) Cut) × IsCutOf (AreTableLines bound nodes edges) text)
        → (length text ≤ table_text_limit) × IsFirstBadLineOf (AreTableLines bound nodes edges) n text
    by_kind short (inl (k, e, first)) = let same : k ≡ n = cc in (short, subst (λ (m : ℕ). IsFirstBadLineOf (AreTableLines bound nodes edges) m text) same first)
    by_kind short (inr (e, cut)) = absurd cc

    to : table_of_text bound nodes edges text ≡ Err (BadLine n) → (length text ≤ table_text_limit) × IsFirstBadLineOf (AreTableLines bound nodes edges) n text
    to e = let m = meant bound nodes edges text (BadLine n) fit e (λ h. absurd cc) in by_kind m.short m.means.says

    back : (length text ≤ table_text_limit) × IsFirstBadLineOf (AreTableLines bound nodes edges) n text → table_of_text bound nodes edges text ≡ Err (BadLine n)
    back h =
        let found = no_table bound nodes edges text fit h.0 h.1.not_whole in
        found.1 ∙ ap (λ (f : TableFault). let r : Rows = Err f in r) (is_bad_line (λ k. BadLine k) Cut found.0 n found.2 h.1)

pub cuts_lack_their_end : CutTablesLackTheirEnd
cuts_lack_their_end bound nodes edges text b ns es = (to, back)
  where
    fit : Bounds bound nodes edges
    fit = record { bound_fits = b; nodes_fit = ns; edges_fit = es }

    by_kind : length text ≤ table_text_limit → ((k : ℕ) × (◌≡◌ {A = TableFault} Cut (BadLine k)) × IsFirstBadLineOf (AreTableLines bound nodes edges) k text) ⊎ ((◌≡◌ {A = TableFault} Cut Cut) × IsCutOf (AreTableLines bound nodes edges) text)
        → (length text ≤ table_text_limit) × IsCutOf (AreTableLines bound nodes edges) text
    by_kind short (inl (k, e, first)) = absurd cc
    by_kind short (inr (e, cut)) = (short, cut)

    to : table_of_text bound nodes edges text ≡ Err Cut → (length text ≤ table_text_limit) × IsCutOf (AreTableLines bound nodes edges) text
    to e = let m = meant bound nodes edges text Cut fit e (λ h. absurd cc) in by_kind m.short m.means.says

    back : (length text ≤ table_text_limit) × IsCutOf (AreTableLines bound nodes edges) text → table_of_text bound nodes edges text ≡ Err Cut
    back h =
        let not_whole : (lines : List (List ℕ)) → AreTableLines bound nodes edges lines → text ≢ concat lines =
        λ lines is whole. h.1.missing (record { lines = lines; is = is; rest = []; begins = whole ∙ sym (append-nil (concat lines)) }) in
        let found = no_table bound nodes edges text fit h.0 not_whole in
        found.1 ∙ ap (λ (f : TableFault). let r : Rows = Err f in r) (is_cut (λ k. BadLine k) Cut found.0 found.2 h.1)

-- ---- as a call answers them

answered : (is : Rows) (result : Rows) (fault : TableFault) → Answers is result → result ≡ Err fault → (fault ≡ Memory → ⊥) → is ≡ Err fault
answered is (Ok rows) fault answers e other = absurd cc
answered is (Err found) fault answers e other = by_kind answers
  where
    same : found ≡ fault
    same = cc

    by_kind : (found ≡ Memory) ⊎ (is ≡ Err found) → is ≡ Err fault
    by_kind (inl memory) = absurd (other (sym same ∙ memory))
    by_kind (inr read) = read ∙ ap (λ (f : TableFault). let r : Rows = Err f in r) same

pub read_bad_line : (bound nodes edges : ℕ) (text : List ℕ) (result : Rows) (n : ℕ) → bound < 2 ^ 32 → nodes < 2 ^ 32 → edges < 2 ^ 32
    → ReadsTable bound nodes edges text result → result ≡ Err (BadLine n) → IsFirstBadLineOf (AreTableLines bound nodes edges) n text
read_bad_line bound nodes edges text result n b ns es answers e =
    ((bad_lines_are_first bound nodes edges text n b ns es).0 (answered (table_of_text bound nodes edges text) result (BadLine n) answers e (λ h. absurd cc))).1

pub read_cut : (bound nodes edges : ℕ) (text : List ℕ) (result : Rows) → bound < 2 ^ 32 → nodes < 2 ^ 32 → edges < 2 ^ 32
    → ReadsTable bound nodes edges text result → result ≡ Err Cut → IsCutOf (AreTableLines bound nodes edges) text
read_cut bound nodes edges text result b ns es answers e =
    ((cuts_lack_their_end bound nodes edges text b ns es).0 (answered (table_of_text bound nodes edges text) result Cut answers e (λ h. absurd cc))).1
