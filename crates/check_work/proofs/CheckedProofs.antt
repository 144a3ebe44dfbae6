-- Certificates that were read, and what is said of them.
use Rattle.std.proofs.Common.{◌≡◌, ℕ, ◌+◌, ◌*◌, ◌<◌, ◌≤◌, ◌^◌, List, [], ◌∷◌, ◌++◌, length, Option, Some, None, Ok, refl, sym, subst, arith, length-append}
use Rattle.std.specs.Prelude.{drop}
use Rattle.std.specs.List.{AllByRecursion, flat_map}
use Rattle.std.proofs.lemmas.List.Sums.{sum_by-cons}
use Rattle.cert_checker.specs.Rows.{first_bad_row}
use Rattle.cert_checker.specs.Verdicts.{or_else}
use Rattle.cert_checker.specs.Whole.{finding, found_of, refused_whole, verdict}
use Rattle.cert_checker.specs.declared.verdict.Condition.TheVariants.{Row}
use Rattle.cert_checker.specs.declared.verdict.Verdict.{Verdict}
use Rattle.cert_checker.specs.declared.verdict.Verdict.TheVariants.{Proved, Refused}
use Rattle.cost_model.specs.declared.params.Params.{Params}
use Rattle.match_text.specs.MatchText.{IsRising, PieceFits}
use Rattle.match_text.specs.declared.matched.Routed.{Routed}
use Rattle.potential_certificate.specs.CertificateText.{certificate_text, certificate_first_line, proof_text, certificate_text_limit}
use Rattle.potential_certificate.specs.HasText.{IsProof}
use Rattle.potential_certificate.specs.Laws.{IsTextOf}
use Rattle.potential_certificate.specs.Reading.{certificate_of_text}
use Rattle.potential_certificate.specs.declared.proof.Certificate.{Certificate}
use Rattle.potential_certificate.specs.declared.proof.TraceProof.{TraceProof}
use Rattle.potential_certificate.proofs.Certificates.{certificates_have_one_text}
use Rattle.road_network.specs.Net.{Net}
use Rattle.trace_reader.specs.declared.trace.Trace.{Trace}
use Rattle.check_work.specs.Check.{proved_piece_count, pieces_proved, proofs_said, verdict_said}
use Rattle.check_work.specs.inside.CheckDone.{finding_said}

-- ---- how many pieces

-- each piece ends at a number of 32 bits, above the one before it
pieces_few : (i : ℕ) (pieces : List Routed) → IsRising i pieces → AllByRecursion PieceFits pieces → i ≤ 2 ^ 32 → i + length pieces ≤ 2 ^ 32
pieces_few i [] rising fit low = omega (arith, low)
pieces_few i (piece ∷ pieces) rising fit low =
    let from = rising.0 in
    let ends = rising.1 in
    let last = fit.0.last in
    let rest = pieces_few (piece.last + 1) pieces rising.2 fit.1 (omega (arith, last)) in
    omega (arith, rest, from, ends)

all_few : (proofs : List TraceProof) → AllByRecursion IsProof proofs → proved_piece_count proofs ≤ length proofs * 2 ^ 32
all_few [] are = omega arith
all_few (proof ∷ proofs) are =
    let one = pieces_few 0 proof.pieces are.0.pieces.rising are.0.pieces_fit (omega arith) in
    let rest = all_few proofs are.1 in
    let sum : proved_piece_count (proof ∷ proofs) ≡ length proof.pieces + proved_piece_count proofs = sum_by-cons (λ (x : TraceProof). length x.pieces) proof proofs in
    omega (arith, one, rest, sum)

text_begins : (proof : TraceProof) → proof_text proof ≡ 116 ∷ drop 1 (proof_text proof)
text_begins proof = refl

text_some : (proof : TraceProof) → 1 ≤ length (proof_text proof)
text_some proof = subst (λ (t : List ℕ). 1 ≤ length t) (sym (text_begins proof)) (omega arith)

proofs_few : (proofs : List TraceProof) → length proofs ≤ length (flat_map proof_text proofs)
proofs_few [] = omega arith
proofs_few (proof ∷ proofs) = omega (arith, text_some proof, proofs_few proofs, length-append (proof_text proof) (flat_map proof_text proofs))

middle_no_longer : (front middle back : List ℕ) → length middle ≤ length (front ++ (middle ++ back))
middle_no_longer front middle back = omega (arith, length-append front (middle ++ back), length-append middle back)

-- a text within the limit has not too many
pub read_few : (p : Params) (text : List ℕ) (c : Certificate) → certificate_of_text p text ≡ Ok c → pieces_proved c < 2 ^ 63
read_few p text c is =
    let of : IsTextOf p c text = certificates_have_one_text p c text is in
    let within : length (certificate_text p c) ≤ 1_073_741_824 = subst (λ (t : List ℕ). length t ≤ certificate_text_limit) of.text_is of.short in
    let part : length (flat_map proof_text c.proofs) ≤ length (certificate_text p c) = middle_no_longer (certificate_first_line p) (flat_map proof_text c.proofs) _ in
    omega (arith, within, part, proofs_few c.proofs, all_few c.proofs of.has.proofs)

-- ---- the verdict

says : (bad : Option ℕ) (rest : Verdict) → finding_said (found_of bad (or_else (refused_whole Row bad) rest)) ≡ verdict_said bad (or_else (refused_whole Row bad) rest)
says None Proved = refl
says None (Refused x trace place) = refl
says (Some row) rest = refl

-- what is said of the finding is what is said of the verdict
pub finding_says : (n : Net) (p : Params) (traces : List Trace) (c : Certificate) → finding_said (finding n p traces c) ≡ proofs_said n p traces c
unfolding verdict
finding_says n p traces c = says (first_bad_row n p.bound c.rows) _
