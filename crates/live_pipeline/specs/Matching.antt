-- What a matcher makes of the traces that it takes.
use Rattle.std.specs.Prelude.{◌≡◌, ◌≢◌, List, [], Result, Ok, Err, None, IfErr}
use Rattle.edge_io.specs.State.{SinkState}
use Rattle.program_frame.specs.Batches.{WritesBatch}
use Rattle.program_frame.specs.Jobs.{HasTaken, JobText}
use Rattle.program_frame.specs.declared.stop.Stop.{Stop}
use Rattle.trace_reader.specs.declared.trace.Trace.{Trace as ATrace}
use Rattle.trace_reader.specs.declared.fault.TraceFault.TheVariants as faults
use Rattle.live_pipeline.specs.Order.{Parts}
use Rattle.live_pipeline.specs.Pieces.{IsLast, whole_of}
use Rattle.live_pipeline.specs.declared.part.Part.{Part}
use Rattle.live_pipeline.specs.declared.part.Part.TheVariants as parts

-- a job that refuses no traces
abbrev pub NeverRefuses : JobText → Type 0
NeverRefuses job = (traces : List ATrace) → job.refusal traces ≡ None

-- a job that refuses no traces, and has taken none yet
pub record IsFresh (job : JobText) (has : List ATrace → Type 0) : Type 0 where
  pub calm : NeverRefuses job
  pub begun : has []

-- if the work had stopped, its result stays the same and nothing more is written
abbrev pub StaysStopped : (out out' : SinkState) → (ended result : Result (Unit {0}) Stop) → Type 0
StaysStopped out out' ended result = IfErr ended (λ stop. (result ≡ Err stop) × (out' ≡ out))

-- a matcher took these traces and then this last part, and wrote the text of the traces, or stopped
pub record HasMatchedParts (job : JobText) (has : List ATrace → Type 0) (out out' : SinkState)
    (took : List Part) (last : Part) (ended : Result (Unit {0}) Stop) : Type 0 where
  pub traces : List ATrace
  pub is_last : IsLast last
  pub took_are : took ≡ whole_of traces last
  pub writes : WritesBatch job has out out' traces [] ended

-- the same of a job that may have changed, and of a pass
pub record HasTakenAll (job job' : JobText) (has : List ATrace → Type 0) (out out' : SinkState)
    (before after : Parts) (last : Part) (ended : Result (Unit {0}) Stop) : Type 0 where
  pub same_job : job' ≡ job
  pub relay : after.relay ≡ before.relay
  pub matched : HasMatchedParts job has out out' after.parts last ended

-- a last part after which a run may end
abbrev pub MayEnd : (List ATrace → Type 0) → Part → Result (Unit {0}) Stop → Type 0
MayEnd has (parts.Trace trace) ended = ⊥
MayEnd has parts.End (Ok done) = HasTaken has
MayEnd has parts.End (Err stop) = Unit {0}
MayEnd has (parts.Fault fault) ended = fault ≢ faults.Memory
MayEnd has parts.ReadFailed ended = Unit {0}
MayEnd has parts.NoMemory ended = Unit {0}
