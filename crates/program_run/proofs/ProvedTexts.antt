-- What `prove` writes, `check` finds proved.
use Rattle.std.proofs.Common.{◌≡◌, ℕ, zero, suc, ◌<◌, ◌≤◌, Bool, true, false, cond, List, [], ◌∷◌, length, map, get_or, Result, Ok, Err, refl, ◌∙◌, ap, subst, arith}
use Rattle.std.proofs.lemmas.Bool.{or_left, or_right}
use Rattle.std.specs.Prelude.{nat_lt}
use Rattle.std.specs.Result.{result_map_both}
use Rattle.std.proofs.lemmas.Bool.Decides.{nat_tests}
use Rattle.cert_checker.specs.Laws.{AreProofsOf}
use Rattle.cert_checker.specs.Rows.{first_bad_row}
use Rattle.cert_checker.specs.Whole.{verdict}
use Rattle.cert_checker.specs.declared.verdict.Verdict.{Verdict}
use Rattle.cert_checker.specs.declared.verdict.Verdict.TheVariants.{Proved}
use Rattle.cert_checker.proofs.MatchTexts.{matches_have_text}
use Rattle.cert_checker.proofs.WholeVerdict.{matches_are_proved}
use Rattle.command_line.specs.Options.{and_then}
use Rattle.cost_model.specs.declared.params.Params.{Params}
use Rattle.trace_match.specs.Totals.{is_asked_by}
use Rattle.potential_certificate.specs.CertificateText.{certificate_text_limit}
use Rattle.potential_certificate.specs.Reading.{certificate_of_text as certificate_read}
use Rattle.potential_certificate.specs.declared.fault.CertFault.{CertFault}
use Rattle.potential_certificate.specs.declared.proof.Certificate.{Certificate}
use Rattle.potential_certificate.proofs.Certificates.{certificates_read_back}
use Rattle.prove_work.specs.Certificates.{certificate_of, proof_of}
use Rattle.road_network.specs.Net.{Net}
use Rattle.trace_match.specs.Match.{asks}
use Rattle.trace_reader.specs.declared.trace.Trace.{Trace}
use Rattle.program_run.specs.ProvedTexts.{ProvedTextsAreAccepted}
use Rattle.trace_match.specs.Setting.{Setting}
use Rattle.check_work.specs.Check.{certificate_fault_line, check_said, proved_line, proved_or_refused, verdict_said}
use Rattle.prove_work.specs.Prove.{certificate_too_long, text_of_proofs}

-- ---- the text

not_above : (a b : ℕ) → nat_lt a b ≡ false → b ≤ a
not_above a b is = grind (arith, nat_tests)

-- the text that is written is that of the certificate, within the limit
pub written : (whole : List ℕ) (text : List ℕ) (long : Bool) → nat_lt certificate_text_limit (length whole) ≡ long → cond {A = Result (List ℕ) (List ℕ)} long (Err certificate_too_long) (Ok whole) ≡ Ok text
    → (whole ≡ text) × (length whole ≤ certificate_text_limit)
written whole text true is said = absurd (cc)
written whole text false is said = (cc, not_above certificate_text_limit (length whole) is)

-- ---- the proofs and the rows

proofs_are : (n : Net) (p : Params) (traces : List Trace) → AreProofsOf n p traces (map (proof_of n p) traces)
proofs_are n p [] = tt
proofs_are n p (trace ∷ traces) = (refl, record { ranks = refl; tables = refl; pieces = refl }, proofs_are n p traces)

-- what one of the traces asks for, is asked for
asked_at : (on : Setting) (traces : List Trace) (k : ℕ) (d : Trace) (v : ℕ) → k < length traces → asks on.network on.params (get_or traces k d) v ≡ true → is_asked_by on traces v ≡ true
asked_at on [] k d v low is = absurd (omega (arith, low))
asked_at on (trace ∷ traces) zero d v low is = or_left (asks on.network on.params trace v) (is_asked_by on traces v) is
asked_at on (trace ∷ traces) (suc k) d v low is = or_right (asks on.network on.params trace v) (is_asked_by on traces v) (asked_at on traces k d v (omega (arith, low)) is)

-- ---- the verdict

-- a text that is read as a certificate that is proved
said_proved : (on : Setting) (traces : List Trace) (text : List ℕ) (c : Certificate) → certificate_read on.params text ≡ Ok c → verdict on.network on.params traces c ≡ Proved → check_said on traces text ≡ Ok (proved_line c)
said_proved on traces text c read proved =
    ap (λ (r : Result Certificate CertFault). and_then (result_map_both (λ x. x) certificate_fault_line r) (proved_or_refused on traces)) read
    ∙ ap (λ (v : Verdict). result_map_both (λ _. proved_line c) (λ line. line) (verdict_said (first_bad_row on.network on.params.bound c.rows) v)) proved

pub proved_texts_are_accepted : ProvedTextsAreAccepted
proved_texts_are_accepted on traces text lawful accepted fixes ids said =
    let n = on.network in
    let p = on.params in
    let proofs = map (proof_of n p) traces in
    let c = certificate_of on traces in
    let w = written (text_of_proofs on traces) text (nat_lt certificate_text_limit (length (text_of_proofs on traces))) refl said in
    let has = matches_have_text n p traces proofs (is_asked_by on traces) lawful accepted fixes ids (proofs_are n p traces) in
    let read = subst (λ (t : List ℕ). certificate_read p t ≡ Ok c) w.0 (certificates_read_back p c has w.1) in
    said_proved on traces text c read (matches_are_proved n p traces proofs (is_asked_by on traces) lawful accepted fixes (proofs_are n p traces) (λ k d low v is. asked_at on traces k d v low is))
