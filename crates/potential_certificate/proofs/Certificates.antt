-- A certificate and its text.
use Rattle.std.proofs.Common.{◌≡◌, ℕ, zero, suc, ◌+◌, ◌^◌, ◌<◌, ◌≤◌, Bool, true, false, cond, List, [], ◌∷◌, ◌++◌, length, Option, Some, None, Result, Ok, Err, refl, sym, ap, subst, ◌∙◌, append_assoc, arith, rules, length-append}
use Rattle.std.specs.Prelude.{nat_lt}
use Rattle.std.specs.List.{AllByRecursion, flat_map}
use Rattle.std.proofs.lemmas.List.{append-nil}
use Rattle.bounded_table.specs.Table.{TableRow}
use Rattle.cost_model.specs.declared.params.Params.{Params}
use Rattle.match_text.specs.Grammar.{start}
use Rattle.match_text.specs.MatchText.{trace_line}
use Rattle.match_text.specs.Reading.{after_bytes, number_after, trace_at}
use Rattle.match_text.proofs.Fields.{after_again, after_takes}
use Rattle.match_text.proofs.Lines.{trace_again, trace_takes}
use Rattle.row_text.specs.Reading.{row_at}
use Rattle.row_text.specs.RowLine.{row_line}
use Rattle.potential_certificate.specs.CertificateText.{certificate_text, certificate_first_line, last_line, proof_text, certificate_text_limit}
use Rattle.potential_certificate.specs.HasText.{IsProof}
use Rattle.potential_certificate.specs.Laws.{CertificatesHaveOneText, CertificatesReadBack, IsTextOf}
use Rattle.potential_certificate.specs.Reading.{ProofRead, ProofsRead, all_rows_at, certificate_after_first, certificate_of_text, ended, proof_and_more, proof_at, proofs_and_rows, proofs_at, proofs_behind, rows_and_end, with_proof}
use Rattle.potential_certificate.specs.declared.fault.CertFault.{CertFault}
use Rattle.potential_certificate.specs.declared.fault.CertFault.TheVariants.{TooLong}
use Rattle.potential_certificate.specs.declared.proof.Certificate.{Certificate}
use Rattle.potential_certificate.specs.declared.proof.TraceProof.{TraceProof}
use Rattle.potential_certificate.proofs.ProofTexts.{id_of_lines, lines_are_proof, proof_has_lines, text_of_lines}
use Rattle.potential_certificate.proofs.ProofsRead.{lines_again, lines_take, lines_text, proof_of}
use Rattle.potential_certificate.proofs.RowsRead.{rows_again, rows_take}

-- ---- the code of a read

-- what was read up to the rows
pub read_so_far : (p : Params) (text rest : List ℕ) (proofs : List TraceProof) (behind : List ℕ) → length text ≤ certificate_text_limit → Some rest ≡ after_bytes (certificate_first_line p) text
    → proofs_at text (length rest + 1) rest ≡ Ok (proofs, behind) → certificate_of_text p text ≡ rows_and_end text proofs (all_rows_at behind)
read_so_far p text rest proofs behind short first proofs_are =
    let within : nat_lt certificate_text_limit (length text) ≡ false = search (rules, short) in
    rw within (ap (certificate_after_first text) (sym first) ∙ ap (proofs_and_rows text) proofs_are)

pub read_fails : (p : Params) (text rest : List ℕ) (fault : CertFault) → length text ≤ certificate_text_limit → Some rest ≡ after_bytes (certificate_first_line p) text
    → proofs_at text (length rest + 1) rest ≡ Err fault → certificate_of_text p text ≡ Err fault
read_fails p text rest fault short first proofs_are =
    let within : nat_lt certificate_text_limit (length text) ≡ false = search (rules, short) in
    rw within (ap (certificate_after_first text) (sym first) ∙ ap (proofs_and_rows text) proofs_are)

-- ---- the proofs at the front

proof_again : (whole : List ℕ) (proof : TraceProof) (rest : List ℕ) → IsProof proof
    → (lines : List ℕ) × (proof_text proof ++ rest ≡ trace_line proof.id ++ lines) × (trace_at (proof_text proof ++ rest) ≡ Some (proof.id, lines)) × (proof_at whole proof.id lines ≡ Ok (proof, rest))
proof_again whole proof rest is =
    let has = proof_has_lines proof is in
    let lines = lines_text (start proof.id) has.lines ++ rest in
    let text_is : proof_text proof ++ rest ≡ trace_line proof.id ++ lines =
    ap (λ (x : TraceProof). proof_text x ++ rest) (sym has.proof_is) ∙ text_of_lines proof.id has.lines rest has.continues
    ∙ ap (λ (n : ℕ). trace_line n ++ lines) (id_of_lines proof.id has.lines) in (
      lines,
      text_is,
      ap trace_at text_is ∙ trace_again proof.id lines is.id,
      lines_again whole has.lines (start proof.id) rest (length lines + 1) is.id has.continues has.fit (omega arith)
          ∙ ap (λ (x : TraceProof). let y : ProofRead = Ok (x, rest) in y) has.proof_is,
    )

proofs_again : (whole : List ℕ) (proofs : List TraceProof) (rest : List ℕ) (fuel : ℕ) → AllByRecursion IsProof proofs → trace_at rest ≡ None → length (flat_map proof_text proofs ++ rest) < fuel
    → proofs_at whole fuel (flat_map proof_text proofs ++ rest) ≡ Ok (proofs, rest)
proofs_again whole proofs rest zero are none enough = absurd (omega (arith, enough))
proofs_again whole [] rest (suc fuel) are none enough = ap (proofs_behind (proofs_at whole fuel) whole rest) none
proofs_again whole (proof ∷ proofs) rest (suc fuel) are none enough =
    let behind = flat_map proof_text proofs ++ rest in
    let text_is : flat_map proof_text (proof ∷ proofs) ++ rest ≡ proof_text proof ++ behind = append_assoc (proof_text proof) (flat_map proof_text proofs) rest in
    let first = proof_again whole proof behind are.0 in
    let shorter : length behind < fuel = omega (arith, enough, ap length text_is, length-append (proof_text proof) behind) in
    ap (proofs_at whole (suc fuel)) text_is
    ∙ ap (proofs_behind (proofs_at whole fuel) whole (proof_text proof ++ behind)) first.2
    ∙ ap (proof_and_more (proofs_at whole fuel)) first.3
    ∙ ap (with_proof proof) (proofs_again whole proofs rest fuel are.1 none shorter)

pub record ProofsTaken (text : List ℕ) (proofs : List TraceProof) (rest : List ℕ) : Type 0 where
  pub are : AllByRecursion IsProof proofs
  pub text_is : text ≡ flat_map proof_text proofs ++ rest

abbrev pub Takes : List ℕ → ℕ → Type 0
Takes whole fuel = (text : List ℕ) (proofs : List TraceProof) (rest : List ℕ) → proofs_at whole fuel text ≡ Ok (proofs, rest) → ProofsTaken text proofs rest

ok_parts : (p q : List TraceProof) (a b : List ℕ) → ◌≡◌ {A = ProofsRead} (Ok (p, a)) (Ok (q, b)) → (p ≡ q) × (a ≡ b)
ok_parts p q a b e =
    let same : ◌≡◌ {A = List TraceProof × List ℕ} (p, a) (q, b) = cc in
    (ap (λ (x : List TraceProof × List ℕ). x.0) same, ap (λ (x : List TraceProof × List ℕ). x.1) same)

-- a proof that was read has a text, and that stood there
proof_takes : (whole text : List ℕ) (id : ℕ) (lines : List ℕ) (proof : TraceProof) (rest : List ℕ) → trace_at text ≡ Some (id, lines) → proof_at whole id lines ≡ Ok (proof, rest) → IsProof proof × (text ≡ proof_text proof ++ rest)
proof_takes whole text id lines proof rest trace e =
    let first = trace_takes text id lines trace in
    let taken = lines_take whole (length lines + 1) (start id) lines proof rest e in
    let is = lines_are_proof id taken.lines first.1 taken.continues taken.fit in
    let text_is : text ≡ proof_text (proof_of id taken.lines) ++ rest =
    first.0 ∙ ap (λ (t : List ℕ). trace_line id ++ t) taken.text_is
    ∙ ap (λ (n : ℕ). trace_line n ++ (lines_text (start id) taken.lines ++ rest)) (sym (id_of_lines id taken.lines))
    ∙ sym (text_of_lines id taken.lines rest taken.continues) in
    subst (λ (x : TraceProof). IsProof x × (text ≡ proof_text x ++ rest)) (sym taken.proof_is) (is, text_is)

pub proofs_take : (whole : List ℕ) (fuel : ℕ) → Takes whole fuel
proofs_take whole zero text proofs rest e = absurd cc
proofs_take whole (suc fuel) text proofs rest e = by_trace (λ t ps r h. proofs_take whole fuel t ps r h) (trace_at text) refl e
  where
    by_more : Takes whole fuel → (id : ℕ) (lines : List ℕ) → trace_at text ≡ Some (id, lines) → (proof : TraceProof) (next : List ℕ) → proof_at whole id lines ≡ Ok (proof, next)
        → (more : ProofsRead) → proofs_at whole fuel next ≡ more → with_proof proof more ≡ Ok (proofs, rest) → ProofsTaken text proofs rest
    by_more takes id lines trace proof next first (Err fault) is e = absurd cc
    by_more takes id lines trace proof next first (Ok (others, r)) is e =
        let parts = ok_parts (proof ∷ others) proofs r rest e in
        let one = proof_takes whole text id lines proof next trace first in
        let more = takes next others r is in
        subst (λ (y : List TraceProof × List ℕ). ProofsTaken text y.0 y.1) (λ i. (parts.0 i, parts.1 i))
        (record {
          are = (one.0, more.are);
          text_is = one.1 ∙ ap (λ (t : List ℕ). proof_text proof ++ t) more.text_is ∙ sym (append_assoc (proof_text proof) (flat_map proof_text others) r);
        })

    by_proof : Takes whole fuel → (id : ℕ) (lines : List ℕ) → trace_at text ≡ Some (id, lines) → (read : ProofRead) → proof_at whole id lines ≡ read
        → proof_and_more (proofs_at whole fuel) read ≡ Ok (proofs, rest) → ProofsTaken text proofs rest
    by_proof takes id lines trace (Err fault) is e = absurd cc
    by_proof takes id lines trace (Ok (proof, next)) is e = by_more takes id lines trace proof next is (proofs_at whole fuel next) refl e

    by_trace : Takes whole fuel → (trace : Option (ℕ × List ℕ)) → trace_at text ≡ trace → proofs_behind (proofs_at whole fuel) whole text trace ≡ Ok (proofs, rest) → ProofsTaken text proofs rest
    by_trace takes None is e =
        let parts = ok_parts [] proofs text rest e in
        subst (λ (y : List TraceProof × List ℕ). ProofsTaken text y.0 y.1) (λ i. (parts.0 i, parts.1 i)) (record { are = tt; text_is = refl })
    by_trace takes (Some (id, lines)) is e = by_proof takes id lines is (proof_at whole id lines) refl e

-- ---- the laws

no_trace : (rows : List TableRow) (traces count : ℕ) → trace_at (flat_map row_line rows ++ last_line traces count) ≡ None
unfolding trace_at number_after
no_trace [] traces count = refl
no_trace (row ∷ rows) traces count = refl

no_row : (traces count : ℕ) → row_at (last_line traces count) ≡ None
unfolding row_at number_after
no_row traces count = refl

pub certificates_read_back : CertificatesReadBack
certificates_read_back p c has short =
    let text = certificate_text p c in
    let last = last_line (length c.proofs) (length c.rows) in
    let behind = flat_map row_line c.rows ++ last in
    let rest = flat_map proof_text c.proofs ++ behind in
    let first : Some rest ≡ after_bytes (certificate_first_line p) text = sym (after_again (certificate_first_line p) rest) in
    let proofs_are = proofs_again text c.proofs behind (length rest + 1) has.proofs (no_trace c.rows (length c.proofs) (length c.rows)) (omega arith) in
    let rows_are = rows_again c.rows 0 (length behind + 1) last has.rows (no_row (length c.proofs) (length c.rows)) (omega arith) in
    let end : after_bytes last last ≡ Some [] = ap (after_bytes last) (sym (append-nil last)) ∙ after_again last [] in
    read_so_far p text rest c.proofs behind short first proofs_are ∙ ap (rows_and_end text c.proofs) rows_are ∙ ap (ended text c last) end

pub rows_few : (rows : List TableRow) → length rows ≤ length (flat_map row_line rows)
rows_few [] = omega arith
rows_few (row ∷ rows) = omega (arith, rows_few rows, length-append (row_line row) (flat_map row_line rows))

pub certificates_have_one_text : CertificatesHaveOneText
certificates_have_one_text p c text e = by_length (nat_lt certificate_text_limit (length text)) refl e
  where
    by_end : (rest : List ℕ) → text ≡ certificate_first_line p ++ rest → length text ≤ certificate_text_limit → (proofs : List TraceProof) (behind : List ℕ) → ProofsTaken rest proofs behind → (end : Option (List ℕ))
        → after_bytes (last_line (length proofs) (length (all_rows_at behind).0)) (all_rows_at behind).1 ≡ end
        → ended text (record { proofs = proofs; rows = (all_rows_at behind).0 }) (all_rows_at behind).1 end ≡ Ok c → IsTextOf p c text
    by_end rest first short proofs behind taken None is e = absurd cc
    by_end rest first short proofs behind taken (Some (b ∷ bs)) is e = absurd cc
    by_end rest first short proofs behind taken (Some []) is e =
        let rows = rows_take (length behind + 1) 0 behind in
        let found : Certificate = record { proofs = proofs; rows = (all_rows_at behind).0 } in
        let last = last_line (length proofs) (length found.rows) in
        let same : found ≡ c = cc in
        let left_is : (all_rows_at behind).1 ≡ last = after_takes last (all_rows_at behind).1 [] is ∙ append-nil last in
        let behind_is : behind ≡ flat_map row_line found.rows ++ last = rows.text_is ∙ ap (λ (t : List ℕ). flat_map row_line found.rows ++ t) left_is in
        let text_is : text ≡ certificate_text p found =
        first ∙ ap (λ (t : List ℕ). certificate_first_line p ++ t) (taken.text_is ∙ ap (λ (t : List ℕ). flat_map proof_text proofs ++ t) behind_is) in
        let few : length found.rows < 2 ^ 32 =
        omega (
          arith,
          short,
          rows_few found.rows,
          ap length first,
          length-append (certificate_first_line p) rest,
          ap length taken.text_is,
          length-append (flat_map proof_text proofs) behind,
          ap length behind_is,
          length-append (flat_map row_line found.rows) last,
        ) in
        let all : IsTextOf p found text = record { has = record { proofs = taken.are; rows = rows.are; few = few }; text_is = text_is; short = short } in
        subst (λ (x : Certificate). IsTextOf p x text) same all

    by_proofs : (rest : List ℕ) → text ≡ certificate_first_line p ++ rest → length text ≤ certificate_text_limit → (read : ProofsRead) → proofs_at text (length rest + 1) rest ≡ read → proofs_and_rows text read ≡ Ok c → IsTextOf p c text
    by_proofs rest first short (Err fault) is e = absurd cc
    by_proofs rest first short (Ok (proofs, behind)) is e =
        by_end rest first short proofs behind (proofs_take text (length rest + 1) rest proofs behind is) (after_bytes (last_line (length proofs) (length (all_rows_at behind).0)) (all_rows_at behind).1) refl e

    by_first : length text ≤ certificate_text_limit → (first : Option (List ℕ)) → after_bytes (certificate_first_line p) text ≡ first → certificate_after_first text first ≡ Ok c → IsTextOf p c text
    by_first short None is e = absurd cc
    by_first short (Some rest) is e = by_proofs rest (after_takes (certificate_first_line p) text rest is) short (proofs_at text (length rest + 1) rest) refl e

    by_length : (long : Bool) → nat_lt certificate_text_limit (length text) ≡ long → cond {A = Result Certificate CertFault} long (Err TooLong) (certificate_after_first text (after_bytes (certificate_first_line p) text)) ≡ Ok c → IsTextOf p c text
    by_length true is e = absurd cc
    by_length false is e = let short : length text ≤ certificate_text_limit = search (rules, is) in by_first short (after_bytes (certificate_first_line p) text) refl e
