-- The verdict on a certificate, batch by batch.
use Rattle.std.specs.Prelude.{ℕ, ◌≡◌, ◌+◌, List, [], ◌∷◌, length}
use Rattle.std.specs.List.{flat_map}
use Rattle.cost_model.specs.declared.params.Params.{Params}
use Rattle.road_network.specs.Net.{Net}
use Rattle.trace_reader.specs.declared.trace.Trace.{Trace}
use Rattle.bounded_table.specs.Table.{TableRow}
use Rattle.potential_certificate.specs.declared.proof.TraceProof.{TraceProof}
use Rattle.cert_checker.specs.declared.batch.Batch.{Batch}
use Rattle.cert_checker.specs.declared.verdict.Verdict.{Verdict}
use Rattle.cert_checker.specs.declared.verdict.Verdict.TheVariants.{Proved}
use Rattle.cert_checker.specs.Verdicts.{or_else}
use Rattle.cert_checker.specs.Whole.{verdict_from}

-- the first of these begins with trace `first`, each other where the one before it ends, and the last
-- ends before trace `end`
abbrev pub FollowFrom : ℕ → List Batch → ℕ → Type 0
FollowFrom first [] end = first ≡ end
FollowFrom first (b ∷ batches) end =
    (b.first ≡ first) × FollowFrom (first + length b.traces.now) batches end

-- these batches have all of these traces with their proofs
pub record AreBatchesOf (traces : List Trace) (proofs : List TraceProof)
    (batches : List Batch) : Type 0 where
  pub follow : FollowFrom 0 batches (length traces)
  pub traces_are : flat_map (λ b. b.traces.now) batches ≡ traces
  pub proofs_are : flat_map (λ b. b.proofs.now) batches ≡ proofs

-- the first verdict that refuses a trace of the batch
abbrev pub batch_verdict : Net → Params → List TableRow → Batch → Verdict
batch_verdict n p rows b = verdict_from n p rows b.first b.traces.now b.proofs.now

-- the first of these verdicts that refuses
abbrev pub first_refused : List Verdict → Verdict
first_refused [] = Proved
first_refused (v ∷ verdicts) = or_else v (first_refused verdicts)
