-- A certificate of the matches of traces has a text.
use Rattle.std.proofs.Common.{◌<◌, ◌^◌, List, [], ◌∷◌, sym, subst}
use Rattle.std.specs.List.{All, AllByRecursion}
use Rattle.std.proofs.lemmas.List.Elements.{All-head, All-tail}
use Rattle.cost_model.specs.declared.params.Params.{Params}
use Rattle.cost_model.specs.Options.{IsAccepted}
use Rattle.road_network.specs.Net.{Edge, IsLawful, Net}
use Rattle.trace_reader.specs.declared.trace.Trace.{Trace}
use Rattle.trace_reader.specs.Trace.{IsLawfulTrace}
use Rattle.potential_certificate.specs.HasText.{IsProof}
use Rattle.potential_certificate.specs.declared.proof.TraceProof.{TraceProof}
use Rattle.cert_checker.specs.Laws.{AreProofsOf, MatchesHaveText}
use Rattle.cert_checker.proofs.ProofTexts.{proof_has_text}
use Rattle.cert_checker.proofs.RowTexts.{rows_are_few, rows_have_lines}

proofs_have_text : (n : Net) (p : Params) (traces : List Trace) (proofs : List TraceProof) → IsLawful n → IsAccepted p → All IsLawfulTrace traces
    → All (λ (e : Edge). e.name < 2 ^ 32) n.edges → All (λ (trace : Trace). trace.id < 2 ^ 32) traces → AreProofsOf n p traces proofs → AllByRecursion IsProof proofs
proofs_have_text n p [] [] lawful accepted fixes names ids are = tt
proofs_have_text n p [] (proof ∷ proofs) lawful accepted fixes names ids are = absurd are
proofs_have_text n p (trace ∷ traces) [] lawful accepted fixes names ids are = absurd are
proofs_have_text n p (trace ∷ traces) (proof ∷ proofs) lawful accepted fixes names ids are =
    let id : trace.id < 2 ^ 32 = All-head (λ (x : Trace). x.id < 2 ^ 32) trace traces ids in (
      proof_has_text n p trace proof lawful accepted (All-head IsLawfulTrace trace traces fixes) names (subst (λ v. v < 2 ^ 32) (sym are.0) id) are.1,
      proofs_have_text n p traces proofs lawful accepted (All-tail IsLawfulTrace trace traces fixes) names (All-tail (λ (x : Trace). x.id < 2 ^ 32) trace traces ids) are.2,
    )

pub matches_have_text : MatchesHaveText
matches_have_text n p traces proofs test lawful accepted fixes short are = record {
  proofs = proofs_have_text n p traces proofs lawful accepted fixes short.of_edges short.of_traces are;
  rows = rows_have_lines n p.bound test lawful accepted.bound;
  few = rows_are_few n p.bound test lawful;
}
