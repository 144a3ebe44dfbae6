-- A trace file that is read chunk by chunk.
use Rattle.std.proofs.Common.{◌≡◌, ◌≢◌, ℕ, ◌+◌, ◌≤◌, List, [], ◌∷◌, ◌++◌, length, Result, Ok, Err, refl, sym, ◌∙◌, ap, subst, arith, length-append}
use Rattle.std.specs.Io.KnownBytes.{Appends}
use Rattle.edge_io.specs.State.{ShelfState, SinkState}
use Rattle.trace_reader.specs.Reading.{closed}
use Rattle.trace_reader.specs.declared.reader.TraceReader.{TraceReader}
use Rattle.trace_reader.specs.declared.trace.Trace.{Trace}
use Rattle.trace_reader.proofs.Laws.{closed-none, fault_in-StandsFor}
use Rattle.program_frame.specs.Batches.{Holds}
use Rattle.program_frame.specs.inside.BatchSteps.{IsBetweenChunks, IsReading}
use Rattle.program_frame.specs.Chunks.{AreRead, IsChunk, MayReadOn}
use Rattle.program_frame.specs.Jobs.{JobText, bytes_give}
use Rattle.program_frame.specs.Performs.{Performs}
use Rattle.program_frame.specs.Refusals.{trace_limit}
use Rattle.program_frame.specs.Read.{FailsToRead, ReadsWhole}
use Rattle.program_frame.specs.Stream.{works_traces}
use Rattle.program_frame.specs.inside.StreamSteps.{EndsWithOutcome, IsStreaming, StopsAt}
use Rattle.program_frame.specs.declared.stop.File.TheVariants.{Traces}
use Rattle.program_frame.specs.declared.stop.Stop.{Stop}
use Rattle.program_frame.specs.declared.stop.Stop.TheVariants.{Refused, NoMemory, Unread, Unwritten}
use Rattle.program_frame.proofs.BatchEnds.{Has}
use Rattle.program_frame.proofs.ChunkEnds.{held_rest}
use Rattle.program_frame.proofs.Streaming.{front_begun, stream_ends, stream_starved, stream_stops, stream_unread}

-- before the first read
pub nothing_read : (job : JobText) (has : Has) (name : List ℕ) (shelf : ShelfState) (base : SinkState) (reader : TraceReader) (waiting : List Trace) → IsBetweenChunks job has base base [] reader waiting → IsReading job has name shelf base base 0 reader waiting
nothing_read job has name shelf base reader waiting between =
    record { fed = []; place = refl; front = front_begun shelf.holds name; between = between }

-- nothing was written where nothing was read
none_taken : (taken waiting : List Trace) → [] ≡ taken ++ waiting → taken ≡ []
none_taken [] waiting is = refl
none_taken (trace ∷ taken) waiting is = cc

nothing_out : {job : JobText} {has : Has} {base out : SinkState} {waiting : List Trace} (fed : List ℕ) → fed ≡ [] → Holds job has base out (closed fed) waiting → Appends base.written out.written []
nothing_out {job} {has} {base} {out} {waiting} fed none holds =
    let empty : [] ≡ holds.taken ++ waiting = sym closed-none ∙ ap closed (sym none) ∙ holds.are in
    subst (Appends base.written out.written) (ap job.texts (none_taken holds.taken waiting empty) ∙ job.nothing) holds.written

pub streaming : {job : JobText} {has : Has} {name : List ℕ} {shelf : ShelfState} {base out : SinkState} {at : ℕ} {reader : TraceReader} {waiting : List Trace} (shelf' : ShelfState) → (reading : IsReading job has name shelf base out at reader waiting) → shelf' ≡ shelf → at ≤ trace_limit + 1 → IsStreaming name trace_limit (bytes_give job) shelf shelf' base out reading.fed
streaming shelf' reading same within = record {
  shelf_is = same;
  front = reading.front;
  within = omega (arith, reading.place, within);
  written = held_rest reading.fed reading.between.holds;
  nothing = λ none. nothing_out reading.fed none reading.between.holds;
  faults_are = reading.between.holds.faults_are;
}

-- the bytes that were read so far
pub are_read : {job : JobText} {has : Has} {name : List ℕ} {shelf : ShelfState} {base out : SinkState} {at : ℕ} {reader : TraceReader} {waiting : List Trace} → (reading : IsReading job has name shelf base out at reader waiting) → at ≤ trace_limit + 1 → AreRead name shelf at reading.fed
are_read reading within = record { place = reading.place; front = reading.front; within = within }

-- these bytes have no fault, so the file may be read on
pub may_read_on : {job : JobText} {has : Has} {name : List ℕ} {shelf : ShelfState} {base out : SinkState} {at : ℕ} {reader : TraceReader} {waiting : List Trace} (shelf' : ShelfState) → IsReading job has name shelf base out at reader waiting → shelf' ≡ shelf → at ≤ trace_limit + 1 → MayReadOn name shelf' at
may_read_on {name = name} {at = at} {reader = reader} shelf' reading same within = subst (λ s. MayReadOn name s at) (sym same) (record {
  fed = reading.fed;
  read = are_read reading within;
  faultless = fault_in-StandsFor reader reading.fed reading.between.stands;
})

-- one more chunk was taken
pub reading_more : {job : JobText} {has : Has} {name : List ℕ} {shelf : ShelfState} {base out : SinkState} {at : ℕ} {reader : TraceReader} {waiting : List Trace} (has' : Has) (out' : SinkState) (at' : ℕ) (chunk : List ℕ) (reader' : TraceReader) (waiting' : List Trace) → (reading : IsReading job has name shelf base out at reader waiting) → AreRead name shelf at' (reading.fed ++ chunk) → IsBetweenChunks job has' base out' (reading.fed ++ chunk) reader' waiting' → IsReading job has' name shelf base out' at' reader' waiting'
reading_more has' out' at' chunk reader' waiting' reading read between =
    record { fed = reading.fed ++ chunk; place = read.place; front = read.front; between = between }

-- bytes behind bytes are some
some_bytes : (fed chunk : List ℕ) → 1 ≤ length chunk → fed ++ chunk ≢ []
some_bytes fed chunk some none =
    let long : length (fed ++ chunk) ≡ 0 = ap length none in
    omega (arith, length-append fed chunk, long, some)

-- the work stopped in a chunk
pub reading_stop : {job : JobText} {has : Has} {name : List ℕ} {shelf : ShelfState} {base out : SinkState} {at : ℕ} {reader : TraceReader} {waiting : List Trace} (shelf' : ShelfState) (out' : SinkState) (at' : ℕ) (chunk : List ℕ) (stop : Stop) → (reading : IsReading job has name shelf base out at reader waiting) → shelf' ≡ shelf → IsChunk at at' chunk → AreRead name shelf at' (reading.fed ++ chunk) → StopsAt (bytes_give job) base out' (reading.fed ++ chunk) stop → Performs (Ok (works_traces name job)) shelf shelf' base out' (Err stop)
reading_stop {job} {has} {name} {shelf} shelf' out' at' chunk stop reading same is read stops =
    stream_stops Traces name trace_limit (bytes_give job) (reading.fed ++ chunk) same read.front (some_bytes reading.fed chunk is.some) (omega (arith, read.place, read.within)) stops

-- the next chunk was not read
pub reading_fails : {job : JobText} {has : Has} {name : List ℕ} {shelf : ShelfState} {base out : SinkState} {at : ℕ} {reader : TraceReader} {waiting : List Trace} (shelf' shelf'' : ShelfState) (stop : Stop) → (reading : IsReading job has name shelf base out at reader waiting) → shelf' ≡ shelf → at ≤ trace_limit + 1 → FailsToRead Traces name shelf' shelf'' stop → Performs (Ok (works_traces name job)) shelf shelf'' base out (Err stop)
reading_fails shelf' shelf'' (Refused refusal line) reading same within fails = absurd fails
reading_fails shelf' shelf'' NoMemory reading same within fails = stream_starved Traces (streaming shelf'' reading (fails ∙ same) within)
reading_fails {job} {has} {name} {shelf} {base} {out} shelf' shelf'' (Unread file) reading same within fails =
    subst (λ f. Performs (Ok (works_traces name job)) shelf shelf'' base out (Err (Unread f))) (sym fails.0) (stream_unread (streaming shelf' reading same within) fails.1)
reading_fails shelf' shelf'' Unwritten reading same within fails = absurd fails

-- the file was read whole, and its end was taken
pub work_ends : {job : JobText} {has : Has} {name : List ℕ} {shelf : ShelfState} {base out : SinkState} {at : ℕ} {reader : TraceReader} {waiting : List Trace} (shelf' : ShelfState) (out' : SinkState) (ended : Result (Unit {0}) Stop) → (reading : IsReading job has name shelf base out at reader waiting) → ReadsWhole name trace_limit shelf shelf' reading.fed → EndsWithOutcome (bytes_give job reading.fed) base out' ended → Performs (Ok (works_traces name job)) shelf shelf' base out' ended
work_ends {job} {has} {name} shelf' out' ended reading whole is = stream_ends Traces name trace_limit (bytes_give job) reading.fed whole is
