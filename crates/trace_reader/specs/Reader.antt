-- What a reader represents, and what its calls leave.
use Rattle.std.specs.Prelude.{◌≡◌, ◌≢◌, ℕ, ◌+◌, ◌<◌, ◌≤◌, List, [], ◌++◌, length, take, Result, Ok, Err, Some, None}
use Rattle.trace_reader.specs.Content.{Content}
use Rattle.trace_reader.specs.Reading.{Progress, reads, reading_of, closed, fault_in, file_traces, file_fault}
use Rattle.trace_reader.specs.declared.content.ContentReader.{ContentReader}
use Rattle.trace_reader.specs.declared.reader.TraceReader.{TraceReader}
use Rattle.trace_reader.specs.declared.trace.Trace.{Trace}
use Rattle.trace_reader.specs.declared.fault.TraceFault.{TraceFault}
use Rattle.trace_reader.specs.declared.fault.TraceFault.TheVariants.{Memory}

-- what a reader keeps, beside the traces that it has handed out
abbrev pub content_of : ContentReader → List Trace → Content
content_of reader given =
    record { header = reader.header; closed = given; open_trace = reader.«open» }

abbrev pub progress_of : TraceReader → List Trace → Progress
progress_of reader given =
    record { bytes = reader.bytes; lines = reader.lines; line = reader.line; content = content_of reader.content given }

-- the reader was fed these bytes, which have no fault
pub record StandsFor (reader : TraceReader) (fed : List ℕ) : Type 0 where
  pub given : List Trace
  pub reading : reading_of fed ≡ reads (progress_of reader given)
  pub sound : reader.fault ≡ None

-- the reader has answered this fault, and answers it for good
abbrev pub HasFailed : TraceReader → TraceFault → Type 0
HasFailed reader fault = reader.fault ≡ Some fault

-- a list grew by the traces that are closed in these bytes beyond those in the bytes before them
pub record Closes (fed taken : List ℕ) (old new : List Trace) : Type 0 where
  pub more : List Trace
  pub grown : new ≡ old ++ more
  pub due : closed (fed ++ taken) ≡ closed fed ++ more

-- a list grew by the traces closed before the fault that is known within this chunk; if memory ran
-- out, by the first of the traces that the chunk closes
pub record Fails (fed chunk : List ℕ) (old new : List Trace) (fault : TraceFault) : Type 0 where
  pub more : List Trace
  pub rest : List Trace
  pub grown : new ≡ old ++ more
  pub due : closed (fed ++ chunk) ≡ closed fed ++ (more ++ rest)
  pub known : fault ≢ Memory → (rest ≡ []) × (fault_in (fed ++ chunk) ≡ Some fault)

-- what `feed` leaves of a reader that represents these bytes
abbrev pub Feeds : List ℕ → List ℕ → TraceReader → List Trace → List Trace
    → Result (Unit {0}) TraceFault → Type 0
Feeds fed chunk reader old new (Ok done) =
    StandsFor reader (fed ++ chunk) × Closes fed chunk old new
Feeds fed chunk reader old new (Err fault) = Fails fed chunk old new fault

-- the first n bytes of the chunk were taken: the whole chunk, or up to the byte that closes the
-- `most`-th trace of the call
pub record Takes (fed chunk : List ℕ) (most : ℕ) (reader : TraceReader) (old new : List Trace)
    (n : ℕ) : Type 0 where
  pub within : n ≤ length chunk
  pub stands : StandsFor reader (fed ++ take n chunk)
  pub closes : Closes fed (take n chunk) old new
  pub no_more : length new ≤ length old + most
  pub whole : length new < length old + most → n ≡ length chunk
  pub before : (k : ℕ) → k < n → length (closed (fed ++ take k chunk)) < length (closed fed) + most

-- what `feed_some` leaves of a reader that represents these bytes
abbrev pub FeedsSome : List ℕ → List ℕ → ℕ → TraceReader → List Trace → List Trace
    → Result ℕ TraceFault → Type 0
FeedsSome fed chunk most reader old new (Ok n) = Takes fed chunk most reader old new n
FeedsSome fed chunk most reader old new (Err fault) =
    Fails fed chunk old new fault × (length new < length old + most)

-- what `finish` leaves of a reader that represents the bytes of a whole file: its other traces were appended, and
-- the reader represents no bytes
pub record Ends (fed : List ℕ) (reader : TraceReader) (old new : List Trace) : Type 0 where
  pub anew : StandsFor reader []
  pub more : List Trace
  pub grown : new ≡ old ++ more
  pub due : file_traces fed ≡ closed fed ++ more
  pub faultless : file_fault fed ≡ None

-- or the file has a fault
pub record EndsFaulty (fed : List ℕ) (old new : List Trace) (fault : TraceFault) : Type 0 where
  pub more : List Trace
  pub rest : List Trace
  pub grown : new ≡ old ++ more
  pub due : file_traces fed ≡ closed fed ++ (more ++ rest)
  pub known : fault ≢ Memory → (rest ≡ []) × (file_fault fed ≡ Some fault)

abbrev pub Finishes : List ℕ → TraceReader → List Trace → List Trace → Result (Unit {0}) TraceFault
    → Type 0
Finishes fed reader old new (Ok done) = Ends fed reader old new
Finishes fed reader old new (Err fault) = EndsFaulty fed old new fault
