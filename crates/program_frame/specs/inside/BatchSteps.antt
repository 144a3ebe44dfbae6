-- Traces that are handed to a job batch by batch: what the steps of this leave.
use Rattle.std.specs.Prelude.{ℕ, List, Some, ◌≡◌, ◌++◌, length, take, ◌⊎◌, ◌<◌, Result, Ok, Err, ◌≢◌}
use Rattle.edge_io.specs.State.{ShelfState, SinkState}
use Rattle.trace_reader.specs.Reading.{closed}
use Rattle.trace_reader.specs.Reader.{StandsFor}
use Rattle.trace_reader.specs.declared.reader.TraceReader.{TraceReader}
use Rattle.trace_reader.specs.declared.trace.Trace.{Trace}
use Rattle.program_frame.specs.Jobs.{JobText, bytes_give, traces_give}
use Rattle.program_frame.specs.Batches.{Holds, WritesBatch}
use Rattle.program_frame.specs.declared.batches.Batches.{Batches}
use Rattle.std.specs.Io.KnownBytes.{Appends}
use Rattle.program_frame.specs.Performs.{FailsToPut, PutsText}
use Rattle.program_frame.specs.declared.stop.Stop.{Stop}
use Rattle.program_frame.specs.declared.stop.Stop.TheVariants.{Refused, NoMemory, Unread, Unwritten}
use Rattle.program_frame.specs.inside.StreamSteps.{EndsWithOutcome, StopsAt}
use Rattle.trace_reader.specs.declared.fault.TraceFault.{TraceFault}
use Rattle.trace_reader.specs.declared.fault.TraceFault.TheVariants.{Memory}
use Rattle.program_frame.specs.Streams.{StopsAs}
use Rattle.program_frame.specs.Read.{IsReadSoFar}

-- between two chunks: the reader represents the bytes so far, and fewer traces wait than make a batch
pub record IsBetweenChunks (job : JobText) (has : List Trace → Type 0) (base out : SinkState)
    (fed : List ℕ) (reader : TraceReader) (waiting : List Trace) : Type 0 where
  pub stands : StandsFor reader fed
  pub holds : Holds job has base out (closed fed) waiting
  pub room : length waiting < 256

-- some traces are held: the job took them, or they wait
abbrev pub HoldsTraces : {J : Type 0} → (J → JobText) → (J → List Trace → Type 0) → Batches J → SinkState → Type 0
HoldsTraces text has batches out =
    (base : SinkState) × (traces : List Trace)
    × Holds (text batches.job) (has batches.job) base out traces batches.waiting

-- the work is between two chunks
abbrev pub IsReadyForChunk : {J : Type 0} → (J → JobText) → (J → List Trace → Type 0) → Batches J → SinkState → Type 0
IsReadyForChunk text has batches out =
    (base : SinkState) × (fed : List ℕ)
    × IsBetweenChunks (text batches.job) (has batches.job) base out fed batches.reader batches.waiting

-- if the job refused, its text comes before the refusal
abbrev pub PutsBefore : SinkState → SinkState → List ℕ → Stop → Stop → Type 0
PutsBefore out out' text (Refused refusal line) stop =
    ((stop ≡ Refused refusal line)
    × Appends out.written out'.written text
    × (out'.faults ≡ out.faults))
    ⊎ FailsToPut out out' text stop
PutsBefore out out' text NoMemory stop = (stop ≡ NoMemory) × (out' ≡ out)
PutsBefore out out' text (Unread file) stop = (stop ≡ Unread file) × (out' ≡ out)
PutsBefore out out' text Unwritten stop = (stop ≡ Unwritten) × (out' ≡ out)

-- this many bytes of a chunk were taken, or the work stops
abbrev pub TakesSome : JobText → (List Trace → Type 0) → SinkState → SinkState
    → List ℕ → List ℕ → TraceReader → List Trace → Result ℕ Stop → Type 0
TakesSome job has base out fed chunk reader waiting (Ok taken) =
    IsBetweenChunks job has base out (fed ++ take taken chunk) reader waiting
TakesSome job has base out fed chunk reader waiting (Err stop) =
    StopsAt (bytes_give job) base out (fed ++ chunk) stop

-- these bytes were taken, or the work stops
abbrev pub TakesChunk : JobText → (List Trace → Type 0) → SinkState → SinkState
    → List ℕ → TraceReader → List Trace → Result (Unit {0}) Stop → Type 0
TakesChunk job has base out fed reader waiting (Ok done) =
    IsBetweenChunks job has base out fed reader waiting
TakesChunk job has base out fed reader waiting (Err stop) =
    StopsAt (bytes_give job) base out fed stop

-- the file has this fault after these traces, or memory ran out
pub record RefusesAt (job : JobText) (base out out' : SinkState) (traces : List Trace)
    (fault : TraceFault) (stop : Stop) : Type 0 where
  pub memory : fault ≡ Memory → (stop ≡ NoMemory) × (out' ≡ out)
  pub known : fault ≢ Memory
      → StopsAs (Unit {0}) (λ _. traces_give job traces (Some fault)) base out' stop

-- ---- whatever the sink had before the first trace, and whatever traces are held or bytes were fed

-- all that waited is written
abbrev pub WritesWaiting : JobText → (has has' : List Trace → Type 0) → (out out' : SinkState)
    → (waiting waiting' : List Trace) → Result (Unit {0}) Stop → Type 0
WritesWaiting job has has' out out' waiting waiting' result =
    (base : SinkState) (traces : List Trace)
    → Holds job has base out traces waiting
    → WritesBatch job has' base out' traces waiting' result

-- the same of batches
abbrev pub Writes : {J : Type 0} → (J → JobText) → (J → List Trace → Type 0) → (old new : Batches J)
    → (out out' : SinkState) → Result (Unit {0}) Stop → Type 0
Writes text has old new out out' result =
    WritesWaiting (text old.job) (has old.job) (has new.job) out out' old.waiting new.waiting result

-- what waited is written, and the file is refused for this fault
abbrev pub Refuses : {J : Type 0} → (J → JobText) → (J → List Trace → Type 0) → (old : Batches J)
    → (out out' : SinkState) → TraceFault → Stop → Type 0
Refuses text has old out out' fault stop =
    (base : SinkState) (traces : List Trace)
    → Holds (text old.job) (has old.job) base out traces old.waiting
    → RefusesAt (text old.job) base out out' traces fault stop

-- bytes at the front of a chunk are taken
abbrev pub TakesFront : {J : Type 0} → (J → JobText) → (J → List Trace → Type 0) → (old new : Batches J)
    → (out out' : SinkState) → List ℕ → Result ℕ Stop → Type 0
TakesFront text has old new out out' chunk result =
    (base : SinkState) (fed : List ℕ)
    → IsBetweenChunks (text old.job) (has old.job) base out fed old.reader old.waiting
    → TakesSome (text old.job) (has new.job) base out' fed chunk new.reader new.waiting result

-- a chunk is taken
abbrev pub TakesNextChunk : {J : Type 0} → (J → JobText) → (J → List Trace → Type 0) → (old new : Batches J)
    → (out out' : SinkState) → List ℕ → Result (Unit {0}) Stop → Type 0
TakesNextChunk text has old new out out' chunk result =
    (base : SinkState) (fed : List ℕ)
    → IsBetweenChunks (text old.job) (has old.job) base out fed old.reader old.waiting
    → TakesChunk (text old.job) (has new.job) base out' (fed ++ chunk) new.reader new.waiting result

-- the traces that wait between two chunks are written or not
abbrev pub WritesRead : {J : Type 0} → (J → JobText) → (J → List Trace → Type 0) → (old new : Batches J)
    → (out out' : SinkState) → Result (Unit {0}) Stop → Type 0
WritesRead text has old new out out' result =
    (base : SinkState) (fed : List ℕ)
    → IsBetweenChunks (text old.job) (has old.job) base out fed old.reader old.waiting
    → TakesChunk (text old.job) (has new.job) base out' fed new.reader new.waiting result

-- what comes after the text of all traces is put, for any traces that were taken
abbrev pub PutsEnding : JobText → (List Trace → Type 0) → (out out' : SinkState)
    → Result (Unit {0}) Stop → Type 0
PutsEnding job has out out' result =
    (taken : List Trace) → has taken → PutsText out out' (job.ending taken) result

-- the file is at its end, and all that comes after the traces so far is written
abbrev pub FinishesBatches : {J : Type 0} → (J → JobText) → (J → List Trace → Type 0) → (old : Batches J)
    → (out out' : SinkState) → Result (Unit {0}) Stop → Type 0
FinishesBatches text has old out out' result =
    (base : SinkState) (fed : List ℕ)
    → IsBetweenChunks (text old.job) (has old.job) base out fed old.reader old.waiting
    → EndsWithOutcome (bytes_give (text old.job) fed) base out' result

-- between two reads: the batches represent the bytes so far
pub record IsReading (job : JobText) (has : List Trace → Type 0) (name : List ℕ)
    (shelf : ShelfState) (base out : SinkState) (at : ℕ)
    (reader : TraceReader) (waiting : List Trace) : Type 0 where
  pub fed : List ℕ
  pub place : length fed ≡ at
  pub front : IsReadSoFar shelf.holds name fed
  pub between : IsBetweenChunks job has base out fed reader waiting
