-- What a trace that is handed to the job leaves.
use Rattle.std.proofs.Common.{◌≡◌, ℕ, List, [], ◌∷◌, ◌++◌, Some, None, Result, Ok, Err, refl, sym, ◌∙◌, ap, subst, arith, append_assoc}
use Rattle.edge_io.specs.State.{SinkState}
use Rattle.program_frame.specs.Batches.{Holds, Later, WritesBatch, with_later}
use Rattle.program_frame.specs.Jobs.{IsBounded, JobText, TakesTraces, traces_give}
use Rattle.program_frame.specs.Performs.{PutLeaves}
use Rattle.program_frame.specs.Streams.{StopsAs}
use Rattle.program_frame.specs.declared.stop.Stop.{Stop}
use Rattle.program_frame.specs.declared.stop.Stop.TheVariants.{Refused, NoMemory, Unread, Unwritten}
use Rattle.program_frame.proofs.BatchEnds.{Handed, Has, held_front, stops_for, write_done, write_unput}
use Rattle.program_frame.proofs.ChunkEnds.{waits_more}
use Rattle.trace_reader.specs.declared.trace.Trace.{Trace}
use Rattle.live_pipeline.specs.Matching.{NeverRefuses}

-- a job that never refuses has no line
pub no_line : (job : JobText) (traces : List Trace) (line : List ℕ) → NeverRefuses job → job.refusal traces ≡ Some line → ⊥
no_line job traces line never is = none_is (sym (never traces) ∙ is)
  where
    none_is : {l : List ℕ} → None ≡ Some l → ⊥
    none_is e = cc

-- memory ran out in the job
pub job_stopped : {job : JobText} {has : Has} {base out : SinkState} {traces waiting : List Trace} (has' : Has) (given : List ℕ) (stop : Stop) → NeverRefuses job → Handed job has has' waiting given (Err stop) → Holds job has base out traces waiting → StopsAs Later (with_later job traces) base out stop
job_stopped {job} {has} {base} {out} {traces} {waiting} has' given stop never hand holds =
    by_stop stop (hand.takes holds.taken holds.had (subst IsBounded holds.are holds.bounded))
  where
    by_stop : (s : Stop) → TakesTraces job has' holds.taken waiting [] given (Err s) → StopsAs Later (with_later job traces) base out s
    by_stop (Refused refusal line) takes = absurd (no_line job (holds.taken ++ waiting) line never takes.1)
    by_stop NoMemory takes = (held_front holds, holds.faults_are)
    by_stop (Unread file) takes = absurd takes
    by_stop Unwritten takes = absurd takes

-- the text was put, or not
pub text_put : {job : JobText} {has : Has} {base out : SinkState} {traces waiting : List Trace} (has' : Has) (out' : SinkState) (given : List ℕ) (ended : Result (Unit {0}) Stop) → Handed job has has' waiting given (Ok tt) → Holds job has base out traces waiting → PutLeaves out out' given ended → WritesBatch job has' base out' traces [] ended
text_put has' out' given (Ok done) hand holds leaves = write_done has' out' given [] hand holds leaves.0 leaves.1 refl
text_put has' out' given (Err stop) hand holds leaves = write_unput has' out' given stop hand holds leaves

-- one more trace waits, where none did
pub next_waits : {job : JobText} {has : Has} {base out : SinkState} {traces : List Trace} (trace : Trace) → Holds job has base out traces [] → IsBounded (traces ++ trace ∷ []) → Holds job has base out (traces ++ trace ∷ []) (trace ∷ [])
next_waits trace holds bounded = waits_more (trace ∷ []) (trace ∷ []) holds refl bounded (omega arith)

-- a stop stands, whatever trace comes behind
pub next_stops : (job : JobText) (base out : SinkState) (traces : List Trace) (trace : Trace) (stop : Stop) → StopsAs Later (with_later job traces) base out stop → StopsAs Later (with_later job (traces ++ trace ∷ [])) base out stop
next_stops job base out traces trace stop stops =
    stops_for (with_later job traces) (with_later job (traces ++ trace ∷ [])) base out stop
    (λ later. (record { more = trace ∷ later.more; fault = later.fault }, ap (λ (ts : List Trace). traces_give job ts later.fault) (append_assoc traces (trace ∷ []) later.more))) stops

pub next_stopped : (job : JobText) (has : Has) (base out : SinkState) (traces : List Trace) (trace : Trace) (ended : Result (Unit {0}) Stop) (stop : Stop) → ended ≡ Err stop → WritesBatch job has base out traces [] ended → StopsAs Later (with_later job (traces ++ trace ∷ [])) base out stop
next_stopped job has base out traces trace ended stop is writes =
    next_stops job base out traces trace stop (subst (λ e. WritesBatch job has base out traces [] e) is writes)

pub next_held : (job : JobText) (has : Has) (base out : SinkState) (traces : List Trace) (trace : Trace) (ended : Result (Unit {0}) Stop) → ended ≡ Ok tt → IsBounded (traces ++ trace ∷ []) → WritesBatch job has base out traces [] ended → Holds job has base out (traces ++ trace ∷ []) (trace ∷ [])
next_held job has base out traces trace ended is bounded writes =
    next_waits trace (subst (λ e. WritesBatch job has base out traces [] e) is writes).0 bounded
