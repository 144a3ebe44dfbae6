-- Traces that the matcher takes one by one.
use Rattle.std.proofs.Common.{◌≡◌, List, [], ◌∷◌, ◌++◌, Result, Ok, Err, refl, sym, ◌∙◌, ap, subst, arith}
use Rattle.std.specs.Io.KnownBytes.{Appends}
use Rattle.edge_io.specs.State.{SinkState}
use Rattle.edge_io.proofs.KnownBytes.{appends_nothing}
use Rattle.program_frame.specs.Batches.{WritesBatch}
use Rattle.program_frame.specs.Jobs.{IsBounded, JobText}
use Rattle.program_frame.specs.declared.stop.Stop.{Stop}
use Rattle.program_frame.proofs.BatchEnds.{Has, all_taken}
use Rattle.trace_reader.specs.declared.trace.Trace.{Trace}
use Rattle.live_pipeline.specs.Order.{AreBounded}
use Rattle.live_pipeline.specs.Pieces.{IsLast, part_of, parts_of, traces_in}
use Rattle.live_pipeline.specs.declared.part.Part.{Part}
use Rattle.live_pipeline.proofs.Bounded.{bounded_none, traces_in-parts_of}
use Rattle.live_pipeline.specs.Matching.{HasMatchedParts}
use Rattle.live_pipeline.specs.inside.MatchingSteps.{MayTake}
use Rattle.live_pipeline.proofs.Wholes.{parts_of-append}

-- nothing was taken
pub none_written : (job : JobText) (has : Has) (base : SinkState) → has [] → WritesBatch job has base base [] [] (Ok tt)
none_written job has base begun = (
  record {
    taken = [];
    are = refl;
    had = begun;
    allowed = job.allowed;
    written = subst (Appends base.written base.written) (sym job.nothing) (appends_nothing base.written);
    faults_are = refl;
    bounded = bounded_none;
    few = omega arith;
  },
  refl,
)

-- one more trace was taken
pub took_more : (took now : List Part) (traces : List Trace) (trace : Trace) → took ≡ parts_of traces → now ≡ took ++ part_of trace ∷ [] → now ≡ parts_of (traces ++ trace ∷ [])
took_more took now traces trace is grown =
    grown ∙ ap (λ (l : List Part). l ++ part_of trace ∷ []) is ∙ sym (parts_of-append traces (trace ∷ []))

pub took_bounded : (now : List Part) (traces : List Trace) → now ≡ parts_of traces → AreBounded now → IsBounded traces
took_bounded now traces is bounded = subst IsBounded (ap traces_in is ∙ traces_in-parts_of traces) bounded

-- the job may take the next trace
pub may_take : (job : JobText) (has : Has) (base out : SinkState) (traces : List Trace) (trace : Trace) (ended : Result (Unit {0}) Stop) → IsBounded (traces ++ trace ∷ []) → WritesBatch job has base out traces [] ended → MayTake has ended (trace ∷ [])
may_take job has base out traces trace (Ok done) bounded writes =
    let holds = writes.0 in
    (holds.taken, holds.had, subst (λ (ts : List Trace). IsBounded (ts ++ trace ∷ [])) (all_taken holds refl) bounded, omega arith)
may_take job has base out traces trace (Err stop) bounded writes = tt

-- a last part was taken
pub took_last : (job : JobText) (has : Has) (base out : SinkState) (took now : List Part) (traces : List Trace) (last : Part) (ended : Result (Unit {0}) Stop) → took ≡ parts_of traces → now ≡ took ++ last ∷ [] → IsLast last → WritesBatch job has base out traces [] ended → HasMatchedParts job has base out now last ended
took_last job has base out took now traces last ended is grown is_last writes = record {
  traces = traces;
  is_last = is_last;
  took_are = grown ∙ ap (λ (l : List Part). l ++ last ∷ []) is;
  writes = writes;
}
