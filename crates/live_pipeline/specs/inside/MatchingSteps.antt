-- What the steps of a matcher leave.
use Rattle.std.specs.Prelude.{List, [], ◌∷◌, Some, None, ◌≡◌, ◌++◌, Result, Ok, Err, IfErr, IsErr}
use Rattle.program_frame.specs.Jobs.{IsBounded, JobText, CanTake}
use Rattle.program_frame.specs.declared.stop.Stop.{Stop}
use Rattle.trace_reader.specs.declared.trace.Trace.{Trace as ATrace}
use Rattle.edge_io.specs.State.{SinkState}
use Rattle.program_frame.specs.Batches.{WritesBatch}
use Rattle.std.specs.declared.option.Option.{Option}
use Rattle.live_pipeline.specs.Order.{Parts}
use Rattle.live_pipeline.specs.declared.part.Part.{Part}
use Rattle.live_pipeline.specs.Matching.{HasTakenAll}
use Rattle.program_frame.specs.inside.BatchSteps.{PutsEnding}
use Rattle.program_frame.specs.inside.Refusing.{RefusesTraces}
use Rattle.program_frame.specs.declared.stop.File.TheVariants.{Traces}
use Rattle.program_frame.specs.declared.stop.Stop.TheVariants.{NoMemory, Unread}
use Rattle.live_pipeline.specs.declared.part.Part.TheVariants as parts

-- these traces may be handed to the job, where nothing has stopped yet
abbrev pub MayTake : (List ATrace → Type 0) → Result (Unit {0}) Stop → List ATrace → Type 0
MayTake has (Ok done) traces = CanTake has traces
MayTake has (Err stop) traces = Unit {0}

-- a trace is written after any traces before it, unless the work had stopped or stops
abbrev pub WritesNext : JobText → (has has' : List ATrace → Type 0) → (out out' : SinkState) → ATrace
    → (ended result : Result (Unit {0}) Stop) → Type 0
WritesNext job has has' out out' trace ended result =
    (base : SinkState) (traces : List ATrace)
    → IsBounded (traces ++ trace ∷ [])
    → WritesBatch job has base out traces [] ended
    → WritesBatch job has' base out' (traces ++ trace ∷ []) [] result

-- beside a reader a matcher took all; where no reader could be started, nothing has changed
abbrev pub MatchesBeside : {J : Type 0} → (J → JobText) → (J → List ATrace → Type 0) → (job job' : J)
    → (out out' : SinkState) → (take take' : Parts) → Option (Part × Result (Unit {0}) Stop) → Type 0
MatchesBeside text has job job' out out' take take' None =
    (take' ≡ take) × (job' ≡ job) × (out' ≡ out)
MatchesBeside text has job job' out out' take take' (Some matched) =
    HasTakenAll (text job) (text job') (has job') out out' take take' matched.0 matched.1

-- how the work ends with a last part: with the text after all traces if the file has ended well
abbrev pub EndsWithPart : JobText → (List ATrace → Type 0) → SinkState → SinkState → Part
    → Result (Unit {0}) Stop → Type 0
EndsWithPart job has out out' (parts.Trace trace) ended = ⊥
EndsWithPart job has out out' parts.End ended =
    PutsEnding job has out out' ended
EndsWithPart job has out out' (parts.Fault fault) ended =
    IfErr ended (RefusesTraces fault) × IsErr ended × (out' ≡ out)
EndsWithPart job has out out' parts.ReadFailed ended = (ended ≡ Err (Unread Traces)) × (out' ≡ out)
EndsWithPart job has out out' parts.NoMemory ended = (ended ≡ Err NoMemory) × (out' ≡ out)
