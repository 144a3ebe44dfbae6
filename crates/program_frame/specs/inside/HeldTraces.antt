-- The traces of a file while it is read and they are held whole.
use Rattle.std.specs.Prelude.{ℕ, List, ◌≡◌, length, Result, Ok, Err}
use Rattle.edge_io.specs.State.{ShelfState}
use Rattle.trace_reader.specs.Reader.{StandsFor}
use Rattle.trace_reader.specs.Reading.{closed}
use Rattle.trace_reader.specs.declared.reader.TraceReader.{TraceReader}
use Rattle.trace_reader.specs.declared.trace.Trace.{Trace}
use Rattle.program_frame.specs.Read.{IsReadSoFar, ReadsWhole}
use Rattle.program_frame.specs.Refusals.{trace_limit}
use Rattle.program_frame.specs.Loads.{FailsToLoad}
use Rattle.program_frame.specs.declared.stop.File.TheVariants.{Traces}
use Rattle.program_frame.specs.declared.stop.Refusal.TheVariants.{Traces as OfTraces}
use Rattle.program_frame.specs.declared.stop.Stop.{Stop}
use Rattle.program_frame.specs.WholeTraces.{traces_said}

-- between two reads: the reader represents the bytes so far, and the traces that they close are held
pub record IsHolding (name : List ℕ) (shelf : ShelfState) (at : ℕ) (reader : TraceReader)
    (traces : List Trace) : Type 0 where
  pub fed : List ℕ
  pub place : length fed ≡ at
  pub front : IsReadSoFar shelf.holds name fed
  pub stands : StandsFor reader fed
  pub are : traces ≡ closed fed

-- the file was read whole, and the reader represents its bytes
pub record ReaderHasFile (name : List ℕ) (shelf shelf' : ShelfState) (reader : TraceReader)
    (traces : List Trace) : Type 0 where
  pub bytes : List ℕ
  pub whole : ReadsWhole name trace_limit shelf shelf' bytes
  pub stands : StandsFor reader bytes
  pub are : traces ≡ closed bytes

-- the file was fed whole to the reader, or it was refused or not read
abbrev pub FeedsFile : List ℕ → ShelfState → ShelfState → TraceReader → List Trace
    → Result (Unit {0}) Stop → Type 0
FeedsFile name shelf shelf' reader traces (Ok done) = ReaderHasFile name shelf shelf' reader traces
FeedsFile name shelf shelf' reader traces (Err stop) =
    FailsToLoad OfTraces Traces name trace_limit traces_said shelf shelf' stop
