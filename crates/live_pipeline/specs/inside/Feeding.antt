-- Traces that are put as they close, chunk by chunk.
use Rattle.std.specs.Prelude.{◌≡◌, ◌≢◌, ℕ, List, [], ◌++◌, Result, Ok, Err, Some, None, Bool}
use Rattle.trace_reader.specs.Reading.{closed, fault_in, file_fault, file_traces}
use Rattle.trace_reader.specs.Reader.{StandsFor}
use Rattle.trace_reader.specs.declared.reader.TraceReader.{TraceReader}
use Rattle.trace_reader.specs.declared.trace.Trace.{Trace as ATrace}
use Rattle.trace_reader.specs.declared.fault.TraceFault.{TraceFault}
use Rattle.trace_reader.specs.declared.fault.TraceFault.TheVariants as faults
use Rattle.live_pipeline.specs.Pieces.{parts_of}
use Rattle.live_pipeline.specs.declared.part.Part.{Part}
use Rattle.live_pipeline.specs.declared.part.Part.TheVariants as parts
use Rattle.program_frame.specs.declared.stop.Stop.{Stop}
use Rattle.program_frame.specs.declared.stop.Stop.TheVariants.{Refused, NoMemory as OutOfMemory, Unread as NotRead, Unwritten}
use Rattle.edge_io.specs.State.{ShelfState}
use Rattle.live_pipeline.specs.Reading.{Brings, HasRead}
use Rattle.program_frame.specs.Read.{ReadsWhole, Notes}
use Rattle.program_frame.specs.Refusals.{trace_limit}
use Rattle.program_frame.specs.Chunks.{NextChunk}
use Rattle.live_pipeline.specs.Order.{Parts}
use Rattle.live_pipeline.specs.declared.read_done.ReadDone.{ReadDone}
use Rattle.live_pipeline.specs.declared.read_done.ReadDone.TheVariants.{Read, Unread}

-- the reader was fed these bytes, and what they close was put
pub record HasFed (fed : List ℕ) (reader : TraceReader) (put : List Part) : Type 0 where
  pub stands : StandsFor reader fed
  pub put_are : put ≡ parts_of (closed fed)

-- some bytes were fed, and what they close was put
abbrev pub IsFedSome : TraceReader → List Part → Type 0
IsFedSome reader put = (fed : List ℕ) × HasFed fed reader put

-- these traces were put of those that are due; all of them, but where memory ran out
pub record PutsSome (due : List ATrace) (put : List Part) (fault : TraceFault) : Type 0 where
  pub traces : List ATrace
  pub rest : List ATrace
  pub put_are : put ≡ parts_of traces
  pub due_are : due ≡ traces ++ rest
  pub all : fault ≢ faults.Memory → rest ≡ []

-- a chunk was fed and what it closes was put, up to its fault where it has one
abbrev pub PutsChunk : List ℕ → TraceReader → List Part → Result (Unit {0}) TraceFault → Type 0
PutsChunk fed reader put (Ok done) = HasFed fed reader put
PutsChunk fed reader put (Err fault) =
    PutsSome (closed fed) put fault × (fault ≢ faults.Memory → fault_in fed ≡ Some fault)

-- the file has ended, and what it closes was put
abbrev pub PutsFile : List ℕ → List Part → Result (Unit {0}) TraceFault → Type 0
PutsFile fed put (Ok done) = (put ≡ parts_of (file_traces fed)) × (file_fault fed ≡ None)
PutsFile fed put (Err fault) =
    PutsSome (file_traces fed) put fault × (fault ≢ faults.Memory → file_fault fed ≡ Some fault)

-- the last part for a fault
abbrev pub IsFaultPart : TraceFault → Part → Type 0
IsFaultPart fault (parts.Trace trace) = ⊥
IsFaultPart fault parts.End = ⊥
IsFaultPart fault (parts.Fault known) = (fault ≢ faults.Memory) × (known ≡ fault)
IsFaultPart fault parts.ReadFailed = ⊥
IsFaultPart fault parts.NoMemory = Unit {0}

-- a read failed
abbrev pub IsReadFailure : Stop → Type 0
IsReadFailure (Refused refusal line) = ⊥
IsReadFailure OutOfMemory = ⊥
IsReadFailure (NotRead file) = Unit {0}
IsReadFailure Unwritten = ⊥

-- traces of a file were put, and this last part is to follow
pub record HasPut (name : List ℕ) (shelf shelf' : ShelfState) (put : List Part) (last : Part)
    : Type 0 where
  pub traces : List ATrace
  pub put_are : put ≡ parts_of traces
  pub brings : Brings name shelf shelf' traces last

-- the file was read to its end or limit, and what its bytes close was put
pub record IsFedWhole (name : List ℕ) (shelf shelf' : ShelfState) (reader : TraceReader) (put : List Part)
    : Type 0 where
  pub bytes : List ℕ
  pub whole : ReadsWhole name trace_limit shelf shelf' bytes
  pub has : HasFed bytes reader put

-- the last part for why a chunk was not read
abbrev pub EndsAt : Stop → Part → Type 0
EndsAt stop (parts.Trace trace) = ⊥
EndsAt stop parts.End = ⊥
EndsAt stop (parts.Fault fault) = ⊥
EndsAt stop parts.ReadFailed = IsReadFailure stop
EndsAt stop parts.NoMemory = ¬ IsReadFailure stop

-- what is left where a chunk was not read, and this last part says so
abbrev pub EndsRead : List ℕ → ShelfState → ShelfState → Part → Type 0
EndsRead name shelf shelf' (parts.Trace trace) = ⊥
EndsRead name shelf shelf' parts.End = ⊥
EndsRead name shelf shelf' (parts.Fault fault) = ⊥
EndsRead name shelf shelf' parts.ReadFailed = Notes shelf shelf' name
EndsRead name shelf shelf' parts.NoMemory = shelf' ≡ shelf

-- the next chunk was read, or the file was at its end, or the reading ended early
abbrev pub ReadsNext : List ℕ → ShelfState → ShelfState → ℕ → ℕ → List ℕ → Result Bool Part → Type 0
ReadsNext name shelf shelf' at at' chunk (Ok more) = NextChunk name shelf shelf' at at' chunk (Ok more)
ReadsNext name shelf shelf' at at' chunk (Err last) = EndsRead name shelf shelf' last

-- the whole file was fed, or the reading ended early
abbrev pub PutsChunks : List ℕ → ShelfState → ShelfState → List Part → Result TraceReader Part
    → Type 0
PutsChunks name shelf shelf' put (Ok reader) = IsFedWhole name shelf shelf' reader put
PutsChunks name shelf shelf' put (Err last) = HasPut name shelf shelf' put last

-- what a reader promises of its result, where `state` is what the shelf tells of itself
abbrev pub KeepsPromise : {S : Type 0} → (S → ShelfState) → List ℕ → S → Parts → ReadDone S → Type 0
KeepsPromise state name before given (Read shelf pass) =
    HasRead name (state before) (state shelf) given pass
KeepsPromise state name before given (Unread shelf pass) = (state shelf ≡ state before) × (pass ≡ given)
