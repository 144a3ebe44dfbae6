-- What a verdict says of the matches of traces.
use Rattle.std.specs.Prelude.{ℕ, ◌≡◌, ◌<◌, ◌^◌, ◌↔◌, Bool, true, List, [], ◌∷◌, map}
use Rattle.std.specs.List.{All}
use Rattle.std.specs.List.Sorted.{IsStrictlyIncreasing}
use Rattle.cost_model.specs.declared.params.Params.{Params}
use Rattle.cost_model.specs.Options.{IsAccepted}
use Rattle.road_network.specs.Net.{HasNode, IsLawful, Net}
use Rattle.trace_reader.specs.declared.trace.Trace.{Trace}
use Rattle.trace_reader.specs.Trace.{IsLawfulTrace}
use Rattle.bounded_table.specs.RowValue.{row_of, rows_where}
use Rattle.bounded_table.specs.Table.{TableRow}
use Rattle.trace_match.specs.Match.{asks, match_of, solution_of}
use Rattle.potential_certificate.specs.HasText.{HasText}
use Rattle.potential_certificate.specs.declared.proof.Certificate.{Certificate}
use Rattle.potential_certificate.specs.declared.proof.TraceProof.{TraceProof}
use Rattle.cert_checker.specs.declared.verdict.Verdict.TheVariants.{Proved}
use Rattle.cert_checker.specs.Case.{has_row}
use Rattle.cert_checker.specs.Verdicts.{case_of, trace_verdict}
use Rattle.cert_checker.specs.Whole.{verdict}

-- the proof has the ranks, the cells and the routed pieces of the match of the trace
pub record IsProofOf (n : Net) (p : Params) (trace : Trace) (proof : TraceProof) : Type 0 where
  pub ranks : proof.ranks ≡ (solution_of n p trace).ranks
  pub tables : proof.tables ≡ (solution_of n p trace).tables
  pub pieces : proof.pieces ≡ (match_of n p trace).pieces

-- each node that the match of the trace asks for has its row
abbrev pub HasAskedRows : Net → Params → List TableRow → Trace → Type 0
HasAskedRows n p rows trace = (v : ℕ) → asks n p trace v ≡ true → has_row rows v ≡ true

-- a trace is proved exactly by a proof of its match, beside the rows of all nodes that this asks for
abbrev pub ProvedIsTheMatch : Type 0
ProvedIsTheMatch =
    (number : ℕ) (n : Net) (p : Params) (rows : List TableRow) (trace : Trace) (proof : TraceProof)
    → IsLawful n → IsAccepted p → IsLawfulTrace trace
    → (trace_verdict number (case_of n p rows trace proof) ≡ Proved)
    ↔ (IsProofOf n p trace proof × HasAskedRows n p rows trace)

-- each row is that of its origin, a node of the network, and origins rise
pub record AreRightRows (n : Net) (bound : ℕ) (rows : List TableRow) : Type 0 where
  pub each : All (λ row. HasNode n row.origin × (row ≡ row_of n bound row.origin)) rows
  pub rise : IsStrictlyIncreasing (map (λ row. row.origin) rows)

-- the traces have, in their order, proofs of their matches with their ids
abbrev pub AreProofsOf : Net → Params → List Trace → List TraceProof → Type 0
AreProofsOf n p [] [] = Unit {0}
AreProofsOf n p [] (proof ∷ proofs) = ⊥
AreProofsOf n p (trace ∷ traces) [] = ⊥
AreProofsOf n p (trace ∷ traces) (proof ∷ proofs) =
    (proof.id ≡ trace.id) × IsProofOf n p trace proof × AreProofsOf n p traces proofs

-- a certificate of the matches of these traces
pub record IsCertificateOf (n : Net) (p : Params) (traces : List Trace)
    (c : Certificate) : Type 0 where
  pub rows : AreRightRows n p.bound c.rows
  pub proofs : AreProofsOf n p traces c.proofs
  pub asked : All (HasAskedRows n p c.rows) traces

-- a certificate is proved exactly where it is one of the matches of the traces
abbrev pub ProvedAreTheMatches : Type 0
ProvedAreTheMatches =
    (n : Net) (p : Params) (traces : List Trace) (c : Certificate)
    → IsLawful n → IsAccepted p → All IsLawfulTrace traces
    → (verdict n p traces c ≡ Proved) ↔ IsCertificateOf n p traces c

-- these proofs with these rows
abbrev pub with_rows_where : Net → ℕ → (ℕ → Bool) → List TraceProof → Certificate
with_rows_where n bound test proofs = record { proofs = proofs; rows = rows_where n bound test }

-- a node passes the test if the match of the trace asks for it
abbrev pub PassesIfAsked : Net → Params → (ℕ → Bool) → Trace → Type 0
PassesIfAsked n p test trace = (v : ℕ) → asks n p trace v ≡ true → test v ≡ true

-- so proofs of the matches are proved beside the rows of nodes, if all that are asked for are among
-- these
abbrev pub MatchesAreProved : Type 0
MatchesAreProved =
    (n : Net) (p : Params) (traces : List Trace) (proofs : List TraceProof) (test : ℕ → Bool)
    → IsLawful n → IsAccepted p → All IsLawfulTrace traces
    → AreProofsOf n p traces proofs → All (PassesIfAsked n p test) traces
    → verdict n p traces (with_rows_where n p.bound test proofs) ≡ Proved

-- the ids of the edges and of the traces fit 32 bits
pub record HaveShortIds (n : Net) (traces : List Trace) : Type 0 where
  pub of_edges : All (λ e. e.name < 2 ^ 32) n.edges
  pub of_traces : All (λ trace. trace.id < 2 ^ 32) traces

-- and such a certificate has a text
abbrev pub MatchesHaveText : Type 0
MatchesHaveText =
    (n : Net) (p : Params) (traces : List Trace) (proofs : List TraceProof) (test : ℕ → Bool)
    → IsLawful n → IsAccepted p → All IsLawfulTrace traces → HaveShortIds n traces
    → AreProofsOf n p traces proofs → HasText (with_rows_where n p.bound test proofs)
