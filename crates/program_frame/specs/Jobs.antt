-- What a job makes of the traces of a file.
use Rattle.std.specs.Prelude.{◌≡◌, ℕ, ◌<◌, ◌≤◌, ◌^◌, List, [], ◌++◌, length, All, Result, Ok, Err, Some, None}
use Rattle.std.specs.declared.option.Option.{Option}
use Rattle.std.specs.List.{sum_by}
use Rattle.trace_reader.specs.Fault.{fault_line}
use Rattle.trace_reader.specs.Reading.{file_traces, file_fault}
use Rattle.trace_reader.specs.Trace.{IsLawfulTrace}
use Rattle.trace_reader.specs.declared.trace.Trace.{Trace}
use Rattle.trace_reader.specs.declared.fault.TraceFault.{TraceFault}
use Rattle.program_frame.specs.Outcome.{Outcome, done_with}
use Rattle.program_frame.specs.declared.stop.Refusal.TheVariants.{Traces}
use Rattle.program_frame.specs.declared.stop.Stop.{Stop}
use Rattle.program_frame.specs.declared.stop.Stop.TheVariants.{Refused, NoMemory, Unread, Unwritten}

-- the text of a job: that of traces, the line if the job refuses them, and what comes after the text of all traces
-- of a file
pub record JobText : Type 0 where
  pub texts : List Trace → List ℕ
  pub refusal : List Trace → Option (List ℕ)
  pub ending : List Trace → List ℕ
  -- of no traces there is no text, and they are not refused
  pub nothing : texts [] ≡ []
  pub allowed : refusal [] ≡ None
  -- the text of more traces begins with the text of fewer
  pub begins : (front back : List Trace)
      → (more : List ℕ) × (texts (front ++ back) ≡ texts front ++ more)
  -- a refusal stays, and has no text after it
  pub stays : (front back : List Trace) (line : List ℕ)
      → refusal front ≡ Some line
      → (refusal (front ++ back) ≡ Some line) × (texts (front ++ back) ≡ texts front)

abbrev pub refused_behind : List ℕ → List ℕ → Outcome
refused_behind text line = record { out = text; err = line; status = 6 }

-- the job's refusal comes before the fault of the file
abbrev pub outcome_given_by : Option (List ℕ) → Option TraceFault → List ℕ → List ℕ → Outcome
outcome_given_by (Some line) fault texts ending = refused_behind texts line
outcome_given_by None (Some fault) texts ending = refused_behind texts (fault_line fault)
outcome_given_by None None texts ending = done_with (texts ++ ending)

-- what these traces give, with this fault after them or none
abbrev pub traces_give : JobText → List Trace → Option TraceFault → Outcome
traces_give job traces fault =
    outcome_given_by (job.refusal traces) fault (job.texts traces) (job.ending traces)

-- what a trace file of these bytes gives
abbrev pub bytes_give : JobText → List ℕ → Outcome
bytes_give job bytes = traces_give job (file_traces bytes) (file_fault bytes)

abbrev pub position_count : List Trace → ℕ
position_count traces = sum_by (λ trace. length trace.fixes) traces

-- lawful traces, no more than a file has
pub record IsBounded (traces : List Trace) : Type 0 where
  pub few : length traces < 2 ^ 62
  pub few_points : position_count traces < 2 ^ 62
  pub lawful : All IsLawfulTrace traces

-- some traces were taken
abbrev pub HasTaken : (List Trace → Type 0) → Type 0
HasTaken has = (taken : List Trace) × has taken

-- no more traces than a job takes together: fewer than 256 that waited, and at most two that the end
-- of the file closes
abbrev pub IsBatch : List Trace → Type 0
IsBatch traces = length traces ≤ 257

-- and these may follow together
abbrev pub CanTake : (List Trace → Type 0) → List Trace → Type 0
CanTake has more =
    (before : List Trace) × has before × IsBounded (before ++ more) × IsBatch more

-- a list grew by the text of these traces after those before
pub record GrowsByTexts (job : JobText) (before more : List Trace) (old new : List ℕ) : Type 0 where
  pub text : List ℕ
  pub grown : new ≡ old ++ text
  pub is : job.texts (before ++ more) ≡ job.texts before ++ text

-- more traces were taken after those before, or the job refuses them, or memory ran out
abbrev pub TakesTraces : JobText → (List Trace → Type 0) → List Trace → List Trace
    → List ℕ → List ℕ → Result (Unit {0}) Stop → Type 0
TakesTraces job has before more old new (Ok done) =
    has (before ++ more)
    × (job.refusal (before ++ more) ≡ None)
    × GrowsByTexts job before more old new
TakesTraces job has before more old new (Err (Refused refusal line)) =
    (refusal ≡ Traces)
    × (job.refusal (before ++ more) ≡ Some line)
    × GrowsByTexts job before more old new
TakesTraces job has before more old new (Err NoMemory) = Unit {0}
TakesTraces job has before more old new (Err (Unread file)) = ⊥
TakesTraces job has before more old new (Err Unwritten) = ⊥

-- the same, whatever traces were taken before
abbrev pub TakesMore : JobText → (has has' : List Trace → Type 0) → List Trace
    → List ℕ → List ℕ → Result (Unit {0}) Stop → Type 0
TakesMore job has has' more old new result =
    (before : List Trace)
    → has before
    → IsBounded (before ++ more)
    → TakesTraces job has' before more old new result
