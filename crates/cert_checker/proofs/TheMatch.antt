-- A trace is proved exactly by proofs of its match.
use Rattle.std.proofs.Common.{◌≡◌, ℕ, List, refl, arith}
use Rattle.std.proofs.lemmas.List.{length-map}
use Rattle.cost_model.specs.declared.params.Params.{Params}
use Rattle.cost_model.specs.Options.{IsAccepted}
use Rattle.road_network.specs.Net.{Net, IsLawful}
use Rattle.trace_reader.specs.declared.trace.Trace.{Trace}
use Rattle.trace_reader.specs.Trace.{IsLawfulTrace}
use Rattle.bounded_table.specs.Table.{TableRow}
use Rattle.trace_match.specs.Match.{layer_of, layers_of}
use Rattle.trace_match.proofs.TraceLayers.{matchable}
use Rattle.potential_certificate.specs.declared.proof.TraceProof.{TraceProof}
use Rattle.cert_checker.specs.declared.verdict.Verdict.TheVariants.{Proved}
use Rattle.cert_checker.specs.Laws.{HasAskedRows, IsProofOf, ProvedIsTheMatch}
use Rattle.cert_checker.specs.Verdicts.{case_of, trace_verdict}
use Rattle.cert_checker.proofs.EachPoint.{each_proved, proved_each}
use Rattle.cert_checker.proofs.PointConditions.{point_holds, point_told}
use Rattle.cert_checker.proofs.MatchedCases.{IsGroundOf}
use Rattle.cert_checker.proofs.MatchHolds.{match_holds}
use Rattle.cert_checker.proofs.MatchProofs.{case_matched, matched_case}
use Rattle.cert_checker.proofs.HeldMatch.{held_matches}

pub ground_of : (n : Net) (p : Params) (rows : List TableRow) (trace : Trace) (proof : TraceProof) → IsLawful n → IsAccepted p → IsLawfulTrace trace → IsGroundOf (case_of n p rows trace proof)
ground_of n p rows trace proof lawful accepted fixes = record { lawful = lawful; trace = matchable n p trace (layers_of n p trace) accepted fixes refl }

-- what is made of the match is proved
pub match_proved : (number : ℕ) (n : Net) (p : Params) (rows : List TableRow) (trace : Trace) (proof : TraceProof)
    → IsLawful n → IsAccepted p → IsLawfulTrace trace → IsProofOf n p trace proof × HasAskedRows n p rows trace → trace_verdict number (case_of n p rows trace proof) ≡ Proved
match_proved number n p rows trace proof lawful accepted fixes h =
    let c = case_of n p rows trace proof in
    let ground = ground_of n p rows trace proof lawful accepted fixes in
    let matched = case_matched n p rows trace proof h.0 h.1 in
    each_proved number c (λ i lt. point_holds c i (match_holds c i ground matched lt))

-- and what is proved is made of the match
pub proved_match : (number : ℕ) (n : Net) (p : Params) (rows : List TableRow) (trace : Trace) (proof : TraceProof)
    → IsLawful n → IsAccepted p → IsLawfulTrace trace → trace_verdict number (case_of n p rows trace proof) ≡ Proved → IsProofOf n p trace proof × HasAskedRows n p rows trace
proved_match number n p rows trace proof lawful accepted fixes e =
    let c = case_of n p rows trace proof in
    let ground = ground_of n p rows trace proof lawful accepted fixes in
    let count = length-map trace.fixes (layer_of n p) in
    let some = fixes.some in
    matched_case n p rows trace proof
    (held_matches c (record { ground = ground; some = omega (arith, count, some); each = λ i lt. point_told c i (proved_each number c e i lt) }))

pub proved_is_the_match : ProvedIsTheMatch
proved_is_the_match number n p rows trace proof lawful accepted fixes =
    (proved_match number n p rows trace proof lawful accepted fixes, match_proved number n p rows trace proof lawful accepted fixes)
