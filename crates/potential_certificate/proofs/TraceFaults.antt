-- The faults of the proofs of a text mean what they say.
use Rattle.std.proofs.Common.{◌≡◌, ℕ, zero, suc, ◌+◌, ◌^◌, ◌<◌, List, [], ◌∷◌, ◌++◌, length, map, Option, Some, None, Ok, Err, refl, sym, ap, subst, ◌∙◌, append_assoc, arith}
use Rattle.std.specs.List.{AllByRecursion, flat_map}
use Rattle.std.proofs.lemmas.Option.{none-some, some_pair_parts}
use Rattle.bounded_table.specs.Table.{TableRow}
use Rattle.match_text.specs.Grammar.{Continues, start}
use Rattle.match_text.specs.MatchText.{trace_line}
use Rattle.match_text.specs.Reading.{number_after, trace_at}
use Rattle.match_text.proofs.Lines.{trace_again, trace_takes}
use Rattle.row_text.specs.RowLine.{row_line}
use Rattle.row_text.proofs.LineFaults.{Narrows, Steps, narrow, same_lines, step}
use Rattle.potential_certificate.specs.CertificateText.{last_line, proof_lines}
use Rattle.potential_certificate.specs.HasText.{AreRowValuesFrom, IsProof}
use Rattle.potential_certificate.specs.Reading.{ProofRead, ProofsRead, in_match, proof_and_more, proof_at, proofs_at, proofs_behind, with_proof}
use Rattle.potential_certificate.specs.declared.fault.CertFault.{CertFault}
use Rattle.potential_certificate.specs.declared.fault.CertFault.TheVariants.{BadLine, Cut}
use Rattle.potential_certificate.specs.declared.proof.TraceProof.{TraceProof}
use Rattle.potential_certificate.specs.declared.proof_line.ProofLine.{ProofLine}
use Rattle.potential_certificate.proofs.EndsOfLines.{trace_has_one_end}
use Rattle.potential_certificate.proofs.ProofTexts.{lines_are_proof, proof_has_lines, texts_of_lines}
use Rattle.potential_certificate.proofs.ProofsRead.{proof_of, texts_of}
use Rattle.potential_certificate.proofs.ProofLists.{proof_goes_down}
use Rattle.potential_certificate.proofs.RowFaults.{FaultIs, IsCounted, RowsFrom, counted_behind}
use Rattle.potential_certificate.proofs.ProofFaults.{ItemsFrom, no_items, LinesFrom, IsLater, Here, lines_fault}

-- ---- proofs

no_trace_in_rows : (rows : List TableRow) (traces count : ℕ) (first : List ℕ) (others : List (List ℕ)) (rest : List ℕ) → first ∷ others ≡ map row_line rows ++ last_line traces count ∷ [] → trace_at (first ++ rest) ≡ None
unfolding trace_at number_after
no_trace_in_rows [] traces count first others rest e =
    ap (λ (l : List ℕ). trace_at (l ++ rest)) (same_lines first (last_line traces count) others [] e).0
no_trace_in_rows (row ∷ rows) traces count first others rest e =
    ap (λ (l : List ℕ). trace_at (l ++ rest)) (same_lines first (row_line row) others (map row_line rows ++ last_line traces count ∷ []) e).0

-- where no trace stands, rows may come
narrows : (traces : ℕ) (text : List ℕ) → trace_at text ≡ None → Narrows (ItemsFrom traces) (RowsFrom (traces + 0) 0 0) text
narrows traces text none = record {
  more = λ lines u. record {
    proofs = [];
    rows = u.rows;
    proofs_are = tt;
    rows_are = u.are;
    few = omega (arith, u.few);
    lines_are = u.lines_are ∙ ap (λ (n : ℕ). map row_line u.rows ++ last_line (traces + 0) n ∷ []) (let e : 0 + length u.rows ≡ length u.rows = omega arith in e);
  };
  some = no_items traces;
  only = λ first others rest t begins. by_proofs first others rest t.rows t.rows_are t.few begins t.proofs t.proofs_are t.lines_are;
}
  where
    by_proofs : (first : List ℕ) (others : List (List ℕ)) (rest : List ℕ) (rows : List TableRow) → AreRowValuesFrom 0 rows → length rows < 2 ^ 32 → text ≡ first ++ rest → (proofs : List TraceProof) → AllByRecursion IsProof proofs
        → first ∷ others ≡ flat_map proof_lines proofs ++ (map row_line rows ++ last_line (traces + length proofs) (length rows) ∷ []) → RowsFrom (traces + 0) 0 0 (first ∷ others)
    by_proofs first others rest rows rows_are few begins [] are e = record {
      rows = rows;
      are = rows_are;
      few = omega (arith, few);
      lines_are = e ∙ ap (λ (n : ℕ). map row_line rows ++ last_line (traces + 0) n ∷ []) (let e : length rows ≡ 0 + length rows = omega arith in e);
    }
    by_proofs first others rest rows rows_are few begins (proof ∷ proofs) are e =
        let parts = same_lines first (trace_line proof.id) others _ e in
        let found : trace_at text ≡ Some (proof.id, rest) = ap trace_at (begins ∙ ap (λ (l : List ℕ). l ++ rest) parts.0) ∙ trace_again proof.id rest are.0.id in
        absurd (none-some (proof.id, rest) (sym none ∙ found))

-- the lines of a proof and of what stands behind it
proof_joined : (proof : TraceProof) (own : List ProofLine) (items : List (List ℕ)) (id : ℕ) → proof_of id own ≡ proof → Continues (start id) (map in_match own) → proof_lines proof ++ items ≡ trace_line id ∷ (texts_of (start id) own ++ items)
proof_joined proof own items id is continues = ap (λ (x : TraceProof). proof_lines x ++ items) (sym is) ∙ ap (λ (ls : List (List ℕ)). ls ++ items) (texts_of_lines id own continues)

lines_joined : (traces : ℕ) (proof : TraceProof) (proofs : List TraceProof) (rows : List TableRow)
    → flat_map proof_lines (proof ∷ proofs) ++ (map row_line rows ++ last_line (traces + suc (length proofs)) (length rows) ∷ [])
    ≡ proof_lines proof ++ (flat_map proof_lines proofs ++ (map row_line rows ++ last_line (traces + 1 + length proofs) (length rows) ∷ []))
lines_joined traces proof proofs rows =
    append_assoc (proof_lines proof) (flat_map proof_lines proofs) (map row_line rows ++ last_line (traces + suc (length proofs)) (length rows) ∷ [])
    ∙ ap (λ (n : ℕ). proof_lines proof ++ (flat_map proof_lines proofs ++ (map row_line rows ++ last_line n (length rows) ∷ []))) (let e : traces + suc (length proofs) ≡ traces + 1 + length proofs = omega arith in e)

trace_steps : (traces : ℕ) (text : List ℕ) (id : ℕ) (next : List ℕ) → trace_at text ≡ Some (id, next) → Steps (ItemsFrom traces) (LinesFrom traces (start id)) text (trace_line id) next
trace_steps traces text id next first =
    let taken = trace_takes text id next first in
    record {
      one = trace_has_one_end id taken.1;
      text_is = taken.0;
      more = λ others u.
          let i = u.items_are in
          record {
            proofs = proof_of id u.own ∷ i.proofs;
            rows = i.rows;
            proofs_are = (lines_are_proof id u.own taken.1 u.continues u.fit, i.proofs_are);
            rows_are = i.rows_are;
            few = i.few;
            lines_are = ap (λ (ls : List (List ℕ)). trace_line id ∷ ls) (u.lines_are ∙ ap (λ (ls : List (List ℕ)). texts_of (start id) u.own ++ ls) i.lines_are)
                ∙ sym (proof_joined (proof_of id u.own) u.own _ id refl u.continues) ∙ sym (lines_joined traces (proof_of id u.own) i.proofs i.rows);
          };
      some = no_items traces;
      only = λ line others rest t begins. by_proofs line others rest t.rows t.rows_are t.few begins t.proofs t.proofs_are t.lines_are;
    }
  where
    by_proofs : (line : List ℕ) (others : List (List ℕ)) (rest : List ℕ) (rows : List TableRow) → AreRowValuesFrom 0 rows → length rows < 2 ^ 32 → text ≡ line ++ rest → (proofs : List TraceProof) → AllByRecursion IsProof proofs
        → line ∷ others ≡ flat_map proof_lines proofs ++ (map row_line rows ++ last_line (traces + length proofs) (length rows) ∷ []) → LinesFrom traces (start id) others × (rest ≡ next)
    by_proofs line others rest rows rows_are few begins [] are e =
        absurd (none-some (id, next) (sym (no_trace_in_rows rows (traces + 0) (length rows) line others rest e) ∙ ap trace_at (sym begins) ∙ first))
    by_proofs line others rest rows rows_are few begins (proof ∷ proofs) are e =
        let has = proof_has_lines proof are.0 in
        let items = flat_map proof_lines proofs ++ (map row_line rows ++ last_line (traces + 1 + length proofs) (length rows) ∷ []) in
        let parts = same_lines line (trace_line proof.id) others (texts_of (start proof.id) has.lines ++ items) (e ∙ lines_joined traces proof proofs rows ∙ proof_joined proof has.lines items proof.id has.proof_is has.continues) in
        let found : trace_at text ≡ Some (proof.id, rest) = ap trace_at (begins ∙ ap (λ (l : List ℕ). l ++ rest) parts.0) ∙ trace_again proof.id rest are.0.id in
        let same = some_pair_parts proof.id id rest next (sym found ∙ first) in
        let is : LinesFrom traces (start proof.id) others = record {
          own = has.lines;
          items = items;
          continues = has.continues;
          fit = has.fit;
          items_are = record { proofs = proofs; rows = rows; proofs_are = are.1; rows_are = rows_are; few = few; lines_are = refl };
          lines_are = parts.1;
        } in
        (subst (λ (n : ℕ). LinesFrom traces (start n) others) same.0 is, same.1)

-- a fault behind the proofs that were read, or the fault that was read
abbrev pub IsBehind : (whole : List ℕ) (traces : ℕ) → CertFault → ProofsRead → Type 0
IsBehind whole traces fault (Ok read) = (m : ℕ) → IsCounted whole m read.1 → FaultIs m (RowsFrom (traces + length read.0) 0 0) read.1 fault
IsBehind whole traces fault (Err found) = fault ≡ found

behind_added : (whole : List ℕ) (traces : ℕ) (fault : CertFault) (proof : TraceProof) (read : ProofsRead) → IsBehind whole traces fault (with_proof proof read) → IsBehind whole (traces + 1) fault read
behind_added whole traces fault proof (Ok read) later = λ m counted. subst (λ (n : ℕ). FaultIs m (RowsFrom n 0 0) read.1 fault) (let e : traces + suc (length read.0) ≡ traces + 1 + length read.0 = omega arith in e) (later m counted)
behind_added whole traces fault proof (Err found) later = later

abbrev MoreProofs : (whole : List ℕ) (fuel traces : ℕ) → CertFault → Type 0
MoreProofs whole fuel traces fault =
    (m : ℕ) (t : List ℕ) → IsCounted whole m t → length t < fuel → IsBehind whole (traces + 1) fault (proofs_at whole fuel t) → FaultIs m (ItemsFrom (traces + 1)) t fault

pub proofs_fault : (whole : List ℕ) (fuel traces number : ℕ) (text : List ℕ) (fault : CertFault) → IsCounted whole number text → length text < fuel → IsBehind whole traces fault (proofs_at whole fuel text) → FaultIs number (ItemsFrom traces) text fault
proofs_fault whole zero traces number text fault counted enough later = absurd (omega (arith, enough))
proofs_fault whole (suc fuel) traces number text fault counted enough later =
    by_trace (λ m t counted enough later. proofs_fault whole fuel (traces + 1) m t fault counted enough later) (trace_at text) refl later
  where
    by_proof : MoreProofs whole fuel traces fault → (id : ℕ) (next : List ℕ) → trace_at text ≡ Some (id, next) → (read : ProofRead) → proof_at whole id next ≡ read → IsBehind whole traces fault (proof_and_more (proofs_at whole fuel) read) → IsLater whole traces fault read
    by_proof more id next is (Err found) read_is later = later
    by_proof more id next is (Ok (proof, rest)) read_is later = λ m counted.
        more m rest counted (omega (arith, enough, proof_goes_down whole text id next proof rest is read_is)) (behind_added whole traces fault proof (proofs_at whole fuel rest) later)

    by_trace : MoreProofs whole fuel traces fault → (trace : Option (ℕ × List ℕ)) → trace_at text ≡ trace → IsBehind whole traces fault (proofs_behind (proofs_at whole fuel) whole text trace) → FaultIs number (ItemsFrom traces) text fault
    by_trace more None is later = narrow (λ n. BadLine n) Cut number fault (narrows traces text is) (later number counted)
    by_trace more (Some (id, next)) is later =
        let steps = trace_steps traces text id next is in
        let here : Here whole traces (start id) (number + 1) next = record {
          small = (trace_takes text id next is).1;
          sound = record { near = omega arith; waits = tt };
          counted = counted_behind whole number text (trace_line id) next steps.one steps.text_is counted;
        } in
        step (λ n. BadLine n) Cut number fault steps (lines_fault whole (length next + 1) traces (start id) (number + 1) next fault here (omega arith) (by_proof more id next is (proof_at whole id next) refl later))
