-- How a run ends.
use Rattle.std.specs.Prelude.{ℕ, List, [], Result, Ok}
use Rattle.edge_io.specs.State.{ShelfState, SinkState}
use Rattle.program_frame.specs.Batches.{WritesBatch}
use Rattle.program_frame.specs.Jobs.{JobText}
use Rattle.program_frame.specs.Stream.{works_traces}
use Rattle.program_frame.specs.declared.stop.Stop.{Stop}
use Rattle.trace_reader.specs.declared.trace.Trace.{Trace as ATrace}
use Rattle.live_pipeline.specs.declared.part.Part.{Part}
use Rattle.live_pipeline.specs.Living.{LivePerforms}
use Rattle.live_pipeline.specs.Reading.{Brings}

-- for any file of which the last part came after these traces: if the matcher had written them, or had stopped, the
-- work of the file is performed
abbrev pub EndsTraces : JobText → (List ATrace → Type 0) → (out out' : SinkState) → Part
    → (ended result : Result (Unit {0}) Stop) → Type 0
EndsTraces job has out out' last ended result =
    (name : List ℕ) (shelf shelf' : ShelfState) (base : SinkState) (traces : List ATrace)
    → Brings name shelf shelf' traces last
    → WritesBatch job has base out traces [] ended
    → LivePerforms (Ok (works_traces name job)) shelf shelf' base out' result
