-- The proofs of traces, made one after the other, and the rows that they ask for.
use Rattle.std.proofs.Common.{◌≡◌, ℕ, ◌+◌, ◌<◌, List, [], ◌∷◌, ◌++◌, map, take, get_or, length, sym, ◌∙◌, ap}
use Rattle.std.proofs.lemmas.List.{map-append}
use Rattle.cost_model.specs.declared.params.Params.{Params}
use Rattle.trace_match.proofs.Traces.{next_trace}
use Rattle.match_pool.specs.Answers.{IsAnswerTo}
use Rattle.match_pool.specs.declared.answer.Answer.{Answer}
use Rattle.match_text.specs.declared.matched.MatchedTrace.{MatchedTrace}
use Rattle.matching.specs.Layers.{trellis}
use Rattle.matching.specs.Value.{Solution, solution}
use Rattle.matching.proofs.Values.{solution-is}
use Rattle.potential_certificate.specs.declared.proof.TraceProof.{TraceProof}
use Rattle.road_network.specs.Net.{Net}
use Rattle.trace_match.specs.Match.{solution_of}
use Rattle.trace_match.specs.inside.Solved.{as_solution}
use Rattle.trace_reader.specs.declared.trace.Trace.{Trace}
use Rattle.prove_work.specs.Certificates.{proof_of}

-- the proof by the parts of an answer is that of the trace
pub proof_made : (n : Net) (p : Params) (trace : Trace) (answer : Answer) → IsAnswerTo n p trace answer
    → record { id = trace.id; ranks = answer.solved.ranks; tables = answer.solved.tables; pieces = answer.matched.pieces } ≡ proof_of n p trace
proof_made n p trace answer is =
    let s = answer.solved in
    let found : solution_of n p trace ≡ as_solution s = ap (solution (trellis n p)) (sym is.layers_are) ∙ solution-is (trellis n p) answer.layers s.ranks s.pieces s.tables is.solved_is.matched in
    ap (λ (x : Solution). let proof : TraceProof = record { id = trace.id; ranks = x.ranks; tables = x.tables; pieces = answer.matched.pieces } in proof) (sym found)
    ∙ ap (λ (m : MatchedTrace). let proof : TraceProof = record { id = trace.id; ranks = (solution_of n p trace).ranks; tables = (solution_of n p trace).tables; pieces = m.pieces } in proof) is.matched_is

-- the next of some traces was proved
pub proved_next : (n : Net) (p : Params) (traces : List Trace) (i : ℕ) (trace : Trace) (proof : TraceProof) (proofs : List TraceProof) → i < length traces → trace ≡ get_or traces i trace
    → proofs ≡ map (proof_of n p) (take i traces) → proof ≡ proof_of n p trace → proofs ++ proof ∷ [] ≡ map (proof_of n p) (take (i + 1) traces)
proved_next n p traces i trace proof proofs low is before made =
    ap (λ (xs : List TraceProof). xs ++ proof ∷ []) before
    ∙ ap (λ (x : TraceProof). map (proof_of n p) (take i traces) ++ x ∷ []) made
    ∙ sym (map-append (proof_of n p) (take i traces) (trace ∷ []))
    ∙ ap (map (proof_of n p)) (sym (next_trace traces i trace low is))
