-- What a reader of a trace file brings.
use Rattle.std.specs.Prelude.{◌≡◌, ◌≢◌, ◌⊎◌, ℕ, ◌+◌, ◌≤◌, List, [], ◌++◌, length, Some, None}
use Rattle.edge_io.specs.State.{ShelfState}
use Rattle.program_frame.specs.Read.{IsReadSoFar, Notes, ReadsWhole}
use Rattle.program_frame.specs.Refusals.{trace_limit}
use Rattle.trace_reader.specs.Reading.{closed, fault_in, file_fault, file_traces}
use Rattle.trace_reader.specs.declared.trace.Trace.{Trace as ATrace}
use Rattle.trace_reader.specs.declared.fault.TraceFault.{TraceFault}
use Rattle.trace_reader.specs.declared.fault.TraceFault.TheVariants as faults
use Rattle.live_pipeline.specs.Order.{Parts}
use Rattle.live_pipeline.specs.Pieces.{IsLast, whole_of}
use Rattle.live_pipeline.specs.declared.part.Part.{Part}
use Rattle.live_pipeline.specs.declared.part.Part.TheVariants as parts

-- these bytes are the front of the file, no more than its limit and a byte
pub record IsFrontOf (name : List ℕ) (shelf : ShelfState) (fed : List ℕ) : Type 0 where
  pub front : IsReadSoFar shelf.holds name fed
  pub within : length fed ≤ trace_limit + 1

-- the file was read to its end or limit; these are its traces, and it has no fault
pub record IsReadToEnd (name : List ℕ) (shelf : ShelfState) (traces : List ATrace) : Type 0 where
  pub bytes : List ℕ
  pub whole : ReadsWhole name trace_limit shelf shelf bytes
  pub are : file_traces bytes ≡ traces
  pub faultless : file_fault bytes ≡ None

-- the front that was read has this fault, and closes these traces
pub record IsFaultWithin (name : List ℕ) (shelf : ShelfState) (traces : List ATrace) (fault : TraceFault)
    : Type 0 where
  pub fed : List ℕ
  pub some : fed ≢ []
  pub front_of : IsFrontOf name shelf fed
  pub are : closed fed ≡ traces
  pub known : fault_in fed ≡ Some fault

-- the file was read to its end or limit; it has this fault, and these traces
pub record IsFaultAtEnd (name : List ℕ) (shelf : ShelfState) (traces : List ATrace) (fault : TraceFault)
    : Type 0 where
  pub bytes : List ℕ
  pub whole : ReadsWhole name trace_limit shelf shelf bytes
  pub are : file_traces bytes ≡ traces
  pub known : file_fault bytes ≡ Some fault

-- these are the first of the traces that the front closes
pub record IsCutWithin (name : List ℕ) (shelf : ShelfState) (traces : List ATrace) : Type 0 where
  pub fed : List ℕ
  pub front_of : IsFrontOf name shelf fed
  pub rest : List ATrace
  pub are : closed fed ≡ traces ++ rest

-- the file was read to its end or limit, and these are the first of its traces
pub record IsCutAtEnd (name : List ℕ) (shelf : ShelfState) (traces : List ATrace) : Type 0 where
  pub bytes : List ℕ
  pub whole : ReadsWhole name trace_limit shelf shelf bytes
  pub rest : List ATrace
  pub are : file_traces bytes ≡ traces ++ rest

-- these are the traces that the front closes
pub record IsReadFront (name : List ℕ) (shelf : ShelfState) (traces : List ATrace) : Type 0 where
  pub fed : List ℕ
  pub front_of : IsFrontOf name shelf fed
  pub are : closed fed ≡ traces

-- what a last part says of a file, of which these traces were put before it
abbrev pub Brings : List ℕ → ShelfState → ShelfState → List ATrace → Part → Type 0
Brings name shelf shelf' traces (parts.Trace trace) = ⊥
Brings name shelf shelf' traces parts.End = IsReadToEnd name shelf traces × (shelf' ≡ shelf)
Brings name shelf shelf' traces (parts.Fault fault) =
    (IsFaultWithin name shelf traces fault ⊎ IsFaultAtEnd name shelf traces fault)
    × (fault ≢ faults.Memory)
    × (shelf' ≡ shelf)
Brings name shelf shelf' traces parts.ReadFailed =
    IsReadFront name shelf traces × Notes shelf shelf' name
Brings name shelf shelf' traces parts.NoMemory =
    (IsCutWithin name shelf traces ⊎ IsCutAtEnd name shelf traces) × (shelf' ≡ shelf)

-- a reader has put the traces of a file, and then one last part
pub record HasRead (name : List ℕ) (shelf shelf' : ShelfState) (before after : Parts) : Type 0 where
  pub traces : List ATrace
  pub last : Part
  pub is_last : IsLast last
  pub brings : Brings name shelf shelf' traces last
  pub same : after.relay ≡ before.relay
  pub put_are : after.parts ≡ before.parts ++ whole_of traces last
