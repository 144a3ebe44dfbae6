-- Traces that are handed to a job batch by batch.
use Rattle.std.specs.Prelude.{◌≡◌, List, [], ◌++◌, Result, Ok, Err, None}
use Rattle.std.specs.declared.option.Option.{Option}
use Rattle.std.specs.Io.KnownBytes.{Appends}
use Rattle.edge_io.specs.State.{SinkState}
use Rattle.trace_reader.specs.declared.trace.Trace.{Trace}
use Rattle.trace_reader.specs.declared.fault.TraceFault.{TraceFault}
use Rattle.program_frame.specs.Jobs.{IsBatch, IsBounded, JobText, traces_give}
use Rattle.program_frame.specs.Outcome.{Outcome}
use Rattle.program_frame.specs.Streams.{StopsAs}
use Rattle.program_frame.specs.declared.stop.Stop.{Stop}

-- of these traces some were taken by the job and are written, and the others wait, no more than a batch
pub record Holds (job : JobText) (has : List Trace → Type 0) (base out : SinkState)
    (traces waiting : List Trace) : Type 0 where
  pub taken : List Trace
  pub are : traces ≡ taken ++ waiting
  pub had : has taken
  pub allowed : job.refusal taken ≡ None
  pub written : Appends base.written out.written (job.texts taken)
  pub faults_are : out.faults ≡ base.faults
  pub bounded : IsBounded traces
  pub few : IsBatch waiting

-- what may still come after these traces
pub record Later : Type 0 where
  pub more : List Trace
  pub fault : Option TraceFault

abbrev pub with_later : JobText → List Trace → Later → Outcome
with_later job traces later = traces_give job (traces ++ later.more) later.fault

-- all that waited is written, or the work stops
abbrev pub WritesBatch : JobText → (List Trace → Type 0) → SinkState → SinkState
    → List Trace → List Trace → Result (Unit {0}) Stop → Type 0
WritesBatch job has base out traces waiting (Ok done) =
    Holds job has base out traces waiting × (waiting ≡ [])
WritesBatch job has base out traces waiting (Err stop) =
    StopsAs Later (with_later job traces) base out stop
