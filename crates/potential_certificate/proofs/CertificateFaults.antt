-- The faults of a certificate's text mean what they say.
use Rattle.std.proofs.Common.{◌≡◌, ◌≢◌, ℕ, ◌+◌, ◌≤◌, ◌⊎◌, inl, inr, Bool, true, false, cond, List, [], ◌∷◌, ◌++◌, length, map, Option, Some, None, Result, Ok, Err, IfErr, refl, sym, ap, subst, ◌∙◌, append_assoc, arith, rules, length-append}
use Rattle.std.specs.Prelude.{nat_lt}
use Rattle.std.specs.List.{concat, flat_map}
use Rattle.std.proofs.lemmas.List.{append-nil}
use Rattle.std.proofs.lemmas.List.Folds.{concat-append}
use Rattle.std.proofs.lemmas.Option.{none-some, same_Some}
use Rattle.cost_model.specs.declared.params.Params.{Params}
use Rattle.match_text.specs.MatchText.{end_line, trace_line}
use Rattle.match_text.specs.Reading.{after_bytes}
use Rattle.match_text.proofs.Fields.{after_again, after_takes}
use Rattle.row_text.specs.LineFaults.{IsCutOf, IsFirstBadLineOf}
use Rattle.row_text.specs.RowLine.{row_line}
use Rattle.row_text.proofs.LineEnds.{rows_joined}
use Rattle.row_text.proofs.LineFaults.{Steps, fails_at, same_lines, step}
use Rattle.row_text.proofs.FaultMeanings.{Means, fault_means, is_bad_line, is_cut}
use Rattle.potential_certificate.specs.CertificateText.{certificate_lines, certificate_text, certificate_first_line, last_line, position_lines, proof_lines, proof_text, certificate_text_limit}
use Rattle.potential_certificate.specs.Faults.{BadCertificateLinesAreFirst, CutCertificatesLackTheirEnd, IsCertificate, OptionsFit}
use Rattle.potential_certificate.specs.Reading.{ProofsRead, all_rows_at, certificate_after_first, certificate_of_text, ended, certificate_fault_at, proofs_and_rows, proofs_at}
use Rattle.potential_certificate.specs.declared.fault.CertFault.{CertFault}
use Rattle.potential_certificate.specs.declared.fault.CertFault.TheVariants.{BadLine, Cut, TooLong, Memory}
use Rattle.potential_certificate.specs.declared.proof.Certificate.{Certificate}
use Rattle.potential_certificate.specs.declared.proof.TraceProof.{TraceProof}
use Rattle.potential_certificate.proofs.Certificates.{certificates_have_one_text, certificates_read_back, proofs_take}
use Rattle.potential_certificate.proofs.EndsOfLines.{first_has_one_end}
use Rattle.potential_certificate.proofs.ProofFaults.{ItemsFrom}
use Rattle.potential_certificate.proofs.TraceFaults.{IsBehind, proofs_fault}
use Rattle.potential_certificate.proofs.RowFaults.{EndsIn, FaultIs, IsCounted, counted_behind, fault_here, rows_fault, same_fault}

abbrev Read : Type 0
Read = Result Certificate CertFault

-- ---- the lines are the text

proof_joined : (proof : TraceProof) → concat (proof_lines proof) ≡ proof_text proof
proof_joined proof =
    let points = position_lines 0 proof.ranks proof.tables proof.pieces in
    ap (λ (t : List ℕ). trace_line proof.id ++ t) (concat-append points (end_line proof.id ∷ []) ∙ ap (λ (t : List ℕ). concat points ++ t) (append-nil (end_line proof.id)))

proofs_joined : (proofs : List TraceProof) (rest : List (List ℕ)) → concat (flat_map proof_lines proofs ++ rest) ≡ flat_map proof_text proofs ++ concat rest
proofs_joined [] rest = refl
proofs_joined (proof ∷ proofs) rest =
    ap concat (append_assoc (proof_lines proof) (flat_map proof_lines proofs) rest)
    ∙ concat-append (proof_lines proof) (flat_map proof_lines proofs ++ rest)
    ∙ ap (λ (t : List ℕ). t ++ concat (flat_map proof_lines proofs ++ rest)) (proof_joined proof)
    ∙ ap (λ (t : List ℕ). proof_text proof ++ t) (proofs_joined proofs rest)
    ∙ sym (append_assoc (proof_text proof) (flat_map proof_text proofs) (concat rest))

pub lines_are_text : (p : Params) (c : Certificate) → concat (certificate_lines p c) ≡ certificate_text p c
lines_are_text p c =
    let last = last_line (length c.proofs) (length c.rows) in
    ap (λ (t : List ℕ). certificate_first_line p ++ t)
    (proofs_joined c.proofs (map row_line c.rows ++ last ∷ [])
    ∙ ap (λ (t : List ℕ). flat_map proof_text c.proofs ++ t) (rows_joined c.rows (last ∷ []) ∙ ap (λ (t : List ℕ). flat_map row_line c.rows ++ t) (append-nil last)))

-- the text is that of a certificate
whole_reads : (p : Params) (text : List ℕ) (lines : List (List ℕ)) → length text ≤ certificate_text_limit → IsCertificate p lines → text ≡ concat lines → (c : Certificate) × (certificate_of_text p text ≡ Ok c)
whole_reads p text lines short is whole =
    let text_is : text ≡ certificate_text p is.certificate = whole ∙ ap concat is.lines_are ∙ lines_are_text p is.certificate in
    (is.certificate, ap (certificate_of_text p) text_is ∙ certificates_read_back p is.certificate is.has (subst (λ (t : List ℕ). length t ≤ certificate_text_limit) text_is short))

-- ---- the first line

no_certificate : (p : Params) → IsCertificate p [] → ⊥
no_certificate p is = omega (arith, ap length is.lines_are)

first_found : (p : Params) (text first : List ℕ) (others : List (List ℕ)) (rest : List ℕ) → IsCertificate p (first ∷ others) → text ≡ first ++ rest → (after_bytes (certificate_first_line p) text ≡ Some rest) × ItemsFrom 0 others
first_found p text first others rest is begins =
    let c = is.certificate in
    let parts = same_lines first (certificate_first_line p) others (flat_map proof_lines c.proofs ++ (map row_line c.rows ++ last_line (length c.proofs) (length c.rows) ∷ [])) is.lines_are in (
      ap (after_bytes (certificate_first_line p)) (begins ∙ ap (λ (l : List ℕ). l ++ rest) parts.0) ∙ after_again (certificate_first_line p) rest,
      record {
        proofs = c.proofs;
        rows = c.rows;
        proofs_are = is.has.proofs;
        rows_are = is.has.rows;
        few = is.has.few;
        lines_are = parts.1 ∙ ap (λ (n : ℕ). flat_map proof_lines c.proofs ++ (map row_line c.rows ++ last_line n (length c.rows) ∷ [])) (let e : length c.proofs ≡ 0 + length c.proofs = omega arith in e);
      },
    )

first_steps : (p : Params) (text next : List ℕ) → OptionsFit p → after_bytes (certificate_first_line p) text ≡ Some next → Steps (IsCertificate p) (ItemsFrom 0) text (certificate_first_line p) next
first_steps p text next fit is = record {
  one = first_has_one_end p fit;
  text_is = after_takes (certificate_first_line p) text next is;
  more = λ others u. record {
    certificate = record { proofs = u.proofs; rows = u.rows };
    has = record { proofs = u.proofs_are; rows = u.rows_are; few = u.few };
    lines_are = ap (λ (ls : List (List ℕ)). certificate_first_line p ∷ ls) u.lines_are
        ∙ ap (λ (n : ℕ). certificate_first_line p ∷ (flat_map proof_lines u.proofs ++ (map row_line u.rows ++ last_line n (length u.rows) ∷ []))) (let e : 0 + length u.proofs ≡ length u.proofs = omega arith in e);
  };
  some = no_certificate p;
  only = λ first others rest t begins.
      let found = first_found p text first others rest t begins in
      (found.1, same_Some rest next (sym found.0 ∙ is));
}

proofs_few : (proofs : List TraceProof) → length proofs ≤ length (flat_map proof_text proofs)
proofs_few [] = omega arith
proofs_few (proof ∷ proofs) =
    let behind = concat (position_lines 0 proof.ranks proof.tables proof.pieces) ++ end_line proof.id in
    omega (arith, proofs_few proofs, length-append (proof_text proof) (flat_map proof_text proofs), length-append (trace_line proof.id) behind)

-- the fault that was read of the proofs, or of what stands behind them
behind_fault : (text next : List ℕ) (fault : CertFault) → length next ≤ certificate_text_limit → (read : ProofsRead) → proofs_at text (length next + 1) next ≡ read → proofs_and_rows text read ≡ Err fault → IsBehind text 0 fault read
behind_fault text next fault short (Err found) is e = same_fault found fault e
behind_fault text next fault short (Ok (proofs, behind)) is e = λ m counted.
    let taken = proofs_take text (length next + 1) next proofs behind is in
    let rows = all_rows_at behind in
    let c : Certificate = record { proofs = proofs; rows = rows.0 } in
    let ends : EndsIn text (0 + length proofs) 0 c rows fault =
    subst (λ (n : ℕ). ended text c rows.1 (after_bytes (last_line n (0 + length rows.0)) rows.1) ≡ Err fault) (let e : length proofs ≡ 0 + length proofs = omega arith in e)
    (subst (λ (n : ℕ). ended text c rows.1 (after_bytes (last_line (length proofs) n) rows.1) ≡ Err fault) (let e : length rows.0 ≡ 0 + length rows.0 = omega arith in e) e) in
    let parts = length-append (flat_map proof_text proofs) behind in
    rows_fault text (length behind + 1) (0 + length proofs) 0 0 m behind c fault counted (omega arith)
    (omega (arith, short, proofs_few proofs, ap length taken.text_is, parts)) (omega (arith, short, ap length taken.text_is, parts)) ends

first_fault : (p : Params) (text : List ℕ) (fault : CertFault) → OptionsFit p → length text ≤ certificate_text_limit → (first : Option (List ℕ)) → after_bytes (certificate_first_line p) text ≡ first
    → certificate_after_first text first ≡ Err fault → FaultIs 1 (IsCertificate p) text fault
first_fault p text fault fit short None is e =
    let counted : IsCounted text 1 text = record { positive = omega arith; count = omega arith } in
    fails_at (λ n. BadLine n) Cut 1 text fault (
    record {
      lines = certificate_lines p (record { proofs = []; rows = [] });
      is = record { certificate = record { proofs = []; rows = [] }; has = record { proofs = tt; rows = tt; few = omega arith }; lines_are = refl };
      some = no_certificate p;
      none = λ first others rest t begins. none-some rest (sym is ∙ (first_found p text first others rest t begins).0);
    }
    ) (same_fault (certificate_fault_at text text) fault e ∙ fault_here text 1 text counted)
first_fault p text fault fit short (Some next) is e =
    let steps = first_steps p text next fit is in
    let counted : IsCounted text 1 text = record { positive = omega arith; count = omega arith } in
    let shorter : length next ≤ certificate_text_limit = omega (arith, short, ap length steps.text_is, length-append (certificate_first_line p) next) in
    step (λ n. BadLine n) Cut 1 fault steps
    (proofs_fault text (length next + 1) 0 (1 + 1) next fault (counted_behind text 1 text (certificate_first_line p) next steps.one steps.text_is counted) (omega arith)
    (behind_fault text next fault shorter (proofs_at text (length next + 1) next) refl e))

-- ---- what a fault means

record Meant (p : Params) (text : List ℕ) (fault : CertFault) : Type 0 where
  pub short : length text ≤ certificate_text_limit
  pub means : Means (λ n. BadLine n) Cut (IsCertificate p) text fault

meant : (p : Params) (text : List ℕ) (fault : CertFault) → OptionsFit p → certificate_of_text p text ≡ Err fault → (fault ≡ TooLong → ⊥) → Meant p text fault
meant p text fault fit e other = by_length (nat_lt certificate_text_limit (length text)) refl e
  where
    not_whole : length text ≤ certificate_text_limit → (lines : List (List ℕ)) → IsCertificate p lines → text ≢ concat lines
    not_whole short lines is whole = let read = whole_reads p text lines short is whole in absurd (cc (sym read.1 ∙ e))

    by_length : (long : Bool) → nat_lt certificate_text_limit (length text) ≡ long
        → cond {A = Read} long (Err TooLong) (certificate_after_first text (after_bytes (certificate_first_line p) text)) ≡ Err fault → Meant p text fault
    by_length true is h = absurd (other cc)
    by_length false is h =
        let short : length text ≤ certificate_text_limit = search (rules, is) in
        record { short = short; means = fault_means (λ n. BadLine n) Cut fault (not_whole short) (first_fault p text fault fit short (after_bytes (certificate_first_line p) text) refl h) }

-- a text within the limit that is no certificate has a fault that means what it says
no_whole : (p : Params) (text : List ℕ) → OptionsFit p → length text ≤ certificate_text_limit → ((lines : List (List ℕ)) → IsCertificate p lines → text ≢ concat lines)
    → (fault : CertFault) × (certificate_of_text p text ≡ Err fault) × Means (λ n. BadLine n) Cut (IsCertificate p) text fault
no_whole p text fit short not_whole = by_read (certificate_after_first text (after_bytes (certificate_first_line p) text)) refl
  where
    within : nat_lt certificate_text_limit (length text) ≡ false
    within = search (rules, short)

    reads : (read : Read) → certificate_after_first text (after_bytes (certificate_first_line p) text) ≡ read → certificate_of_text p text ≡ read
    reads read e = rw within e

    by_read : (read : Read) → certificate_after_first text (after_bytes (certificate_first_line p) text) ≡ read
        → (fault : CertFault) × (certificate_of_text p text ≡ Err fault) × Means (λ n. BadLine n) Cut (IsCertificate p) text fault
    by_read (Ok c) e =
        let is = certificates_have_one_text p c text (reads (Ok c) e) in
        absurd (not_whole (certificate_lines p c) (record { certificate = c; has = is.has; lines_are = refl }) (is.text_is ∙ sym (lines_are_text p c)))
    by_read (Err fault) e =
        (fault, reads (Err fault) e, fault_means (λ n. BadLine n) Cut fault not_whole (first_fault p text fault fit short (after_bytes (certificate_first_line p) text) refl e))

-- ---- the laws

pub bad_lines_are_first : BadCertificateLinesAreFirst
bad_lines_are_first p text n fit = (to, back)
  where
    by_kind : length text ≤ certificate_text_limit → ((k : ℕ) × (◌≡◌ {A = CertFault} (BadLine n) (BadLine k)) × IsFirstBadLineOf (IsCertificate p) k text) ⊎ ((◌≡◌ {A = CertFault} (BadLine n) Cut) × IsCutOf (IsCertificate p) text)
        → (length text ≤ certificate_text_limit) × IsFirstBadLineOf (IsCertificate p) n text
    by_kind short (inl (k, e, first)) = let same : k ≡ n = cc in (short, subst (λ (m : ℕ). IsFirstBadLineOf (IsCertificate p) m text) same first)
    by_kind short (inr (e, cut)) = absurd cc

    to : certificate_of_text p text ≡ Err (BadLine n) → (length text ≤ certificate_text_limit) × IsFirstBadLineOf (IsCertificate p) n text
    to e = let m = meant p text (BadLine n) fit e (λ h. absurd cc) in by_kind m.short m.means.says

    back : (length text ≤ certificate_text_limit) × IsFirstBadLineOf (IsCertificate p) n text → certificate_of_text p text ≡ Err (BadLine n)
    back h =
        let found = no_whole p text fit h.0 h.1.not_whole in
        found.1 ∙ ap (λ (f : CertFault). let r : Read = Err f in r) (is_bad_line (λ k. BadLine k) Cut found.0 n found.2 h.1)

pub cuts_lack_their_end : CutCertificatesLackTheirEnd
cuts_lack_their_end p text fit = (to, back)
  where
    by_kind : length text ≤ certificate_text_limit → ((k : ℕ) × (◌≡◌ {A = CertFault} Cut (BadLine k)) × IsFirstBadLineOf (IsCertificate p) k text) ⊎ ((◌≡◌ {A = CertFault} Cut Cut) × IsCutOf (IsCertificate p) text)
        → (length text ≤ certificate_text_limit) × IsCutOf (IsCertificate p) text
    by_kind short (inl (k, e, first)) = absurd cc
    by_kind short (inr (e, cut)) = (short, cut)

    to : certificate_of_text p text ≡ Err Cut → (length text ≤ certificate_text_limit) × IsCutOf (IsCertificate p) text
    to e = let m = meant p text Cut fit e (λ h. absurd cc) in by_kind m.short m.means.says

    back : (length text ≤ certificate_text_limit) × IsCutOf (IsCertificate p) text → certificate_of_text p text ≡ Err Cut
    back h =
        let not_whole : (lines : List (List ℕ)) → IsCertificate p lines → text ≢ concat lines =
        λ lines is whole. h.1.missing (record { lines = lines; is = is; rest = []; begins = whole ∙ sym (append-nil (concat lines)) }) in
        let found = no_whole p text fit h.0 not_whole in
        found.1 ∙ ap (λ (f : CertFault). let r : Read = Err f in r) (is_cut (λ k. BadLine k) Cut found.0 found.2 h.1)

-- ---- as a call answers them

answered : (is result : Read) (fault : CertFault) → IfErr result (λ found. (found ≡ Memory) ⊎ (is ≡ Err found)) → result ≡ Err fault → (fault ≡ Memory → ⊥) → is ≡ Err fault
answered is (Ok c) fault says e other = absurd cc
answered is (Err found) fault says e other = by_kind says
  where
    same : found ≡ fault
    same = cc

    by_kind : (found ≡ Memory) ⊎ (is ≡ Err found) → is ≡ Err fault
    by_kind (inl memory) = absurd (other (sym same ∙ memory))
    by_kind (inr read) = read ∙ ap (λ (f : CertFault). let r : Read = Err f in r) same

pub read_bad_line : (p : Params) (text : List ℕ) (result : Read) (n : ℕ) → OptionsFit p → IfErr result (λ found. (found ≡ Memory) ⊎ (certificate_of_text p text ≡ Err found)) → result ≡ Err (BadLine n) → IsFirstBadLineOf (IsCertificate p) n text
read_bad_line p text result n fit says e = ((bad_lines_are_first p text n fit).0 (answered (certificate_of_text p text) result (BadLine n) says e (λ h. absurd cc))).1

pub read_cut : (p : Params) (text : List ℕ) (result : Read) → OptionsFit p → IfErr result (λ found. (found ≡ Memory) ⊎ (certificate_of_text p text ≡ Err found)) → result ≡ Err Cut → IsCutOf (IsCertificate p) text
read_cut p text result fit says e = ((cuts_lack_their_end p text fit).0 (answered (certificate_of_text p text) result Cut says e (λ h. absurd cc))).1
