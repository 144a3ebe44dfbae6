-- The traces of a file that is fed whole to a reader.
use Rattle.std.proofs.Common.{◌≡◌, ◌≢◌, ℕ, ◌+◌, ◌≤◌, List, [], ◌++◌, length, take, drop, Some, None, Result, Ok, Err, sym, ◌∙◌, ap, subst, arith, refl, length-append}
use Rattle.std.proofs.lemmas.List.{take-append-drop, take-take}
use Rattle.std.specs.declared.option.Option.{Option}
use Rattle.edge_io.specs.State.{ShelfState}
use Rattle.trace_reader.specs.Reader.{Closes, EndsFaulty, Ends, Fails, StandsFor}
use Rattle.trace_reader.specs.Reading.{file_fault, file_traces}
use Rattle.trace_reader.specs.declared.fault.TraceFault.{TraceFault}
use Rattle.trace_reader.specs.declared.fault.TraceFault.TheVariants.{Memory}
use Rattle.trace_reader.specs.declared.reader.TraceReader.{TraceReader}
use Rattle.trace_reader.specs.declared.trace.Trace.{Trace}
use Rattle.trace_reader.proofs.Laws.{closed-none, fault_in-StandsFor, file_fault_known}
use Rattle.program_frame.specs.Chunks.{AreRead, IsChunk, MayReadOn}
use Rattle.program_frame.specs.Loads.{FailsToLoad, Loads}
use Rattle.program_frame.specs.Outcome.{bytes_seen}
use Rattle.program_frame.specs.Read.{IsFront, IsReadSoFar, IsReadWhole, ReadsWhole}
use Rattle.program_frame.specs.Refusals.{trace_limit}
use Rattle.program_frame.specs.inside.Refusing.{RefusesTraces}
use Rattle.program_frame.specs.WholeTraces.{traces_or_line, traces_said}
use Rattle.program_frame.specs.inside.HeldTraces.{ReaderHasFile, IsHolding}
use Rattle.program_frame.specs.declared.stop.File.TheVariants.{Traces}
use Rattle.program_frame.specs.declared.stop.Refusal.TheVariants.{Traces as OfTraces}
use Rattle.program_frame.specs.declared.stop.Stop.{Stop}
use Rattle.program_frame.specs.declared.stop.Stop.TheVariants.{Refused, NoMemory, Unread, Unwritten}
use Rattle.program_frame.proofs.Streaming.{front_begun}

-- before the first read
pub holds_nothing : (name : List ℕ) (shelf : ShelfState) (reader : TraceReader) (traces : List Trace) → StandsFor reader [] → traces ≡ [] → IsHolding name shelf 0 reader traces
holds_nothing name shelf reader traces stands none =
    record { fed = []; place = refl; front = front_begun shelf.holds name; stands = stands; are = none ∙ sym closed-none }

-- the bytes that were read so far
pub has_read : {name : List ℕ} {shelf : ShelfState} {at : ℕ} {reader : TraceReader} {traces : List Trace} → (holds : IsHolding name shelf at reader traces) → at ≤ trace_limit + 1 → AreRead name shelf at holds.fed
has_read holds within = record { place = holds.place; front = holds.front; within = within }

-- these bytes have no fault, so the file may be read on
pub may_feed_on : {name : List ℕ} {shelf : ShelfState} {at : ℕ} {reader : TraceReader} {traces : List Trace} (shelf' : ShelfState) → IsHolding name shelf at reader traces → shelf' ≡ shelf → at ≤ trace_limit + 1 → MayReadOn name shelf' at
may_feed_on {name = name} {at = at} {reader = reader} shelf' holds same within = subst (λ s. MayReadOn name s at) (sym same) (record {
  fed = holds.fed;
  read = has_read holds within;
  faultless = fault_in-StandsFor reader holds.fed holds.stands;
})

-- one more chunk was fed
pub holds_more : (name : List ℕ) (shelf : ShelfState) (at at' : ℕ) (reader reader' : TraceReader) (traces traces' : List Trace) (chunk : List ℕ) → (holds : IsHolding name shelf at reader traces)
    → AreRead name shelf at' (holds.fed ++ chunk) → StandsFor reader' (holds.fed ++ chunk) → Closes holds.fed chunk traces traces' → IsHolding name shelf at' reader' traces'
holds_more name shelf at at' reader reader' traces traces' chunk holds read stands closes = record {
  fed = holds.fed ++ chunk;
  place = read.place;
  front = read.front;
  stands = stands;
  are = closes.grown ∙ ap (λ (t : List Trace). t ++ closes.more) holds.are ∙ sym closes.due;
}

-- the file was read whole
pub fed_whole : {name : List ℕ} {shelf : ShelfState} {at : ℕ} {reader : TraceReader} {traces : List Trace} (shelf' : ShelfState) → (holds : IsHolding name shelf at reader traces) → ReadsWhole name trace_limit shelf shelf' holds.fed → ReaderHasFile name shelf shelf' reader traces
fed_whole shelf' holds whole = record { bytes = holds.fed; whole = whole; stands = holds.stands; are = holds.are }

-- ---- refusals

front_rest : (limit : ℕ) (fed file : List ℕ) → fed ≡ take (length fed) file → length fed ≤ limit + 1 → fed ++ drop (length fed) (take (limit + 1) file) ≡ take (limit + 1) file
front_rest limit fed file front within =
    let a = length fed in
    let all = take (limit + 1) file in
    ap (λ xs. xs ++ drop a all) (front ∙ sym (take-take a (limit + 1) file within)) ∙ take-append-drop a all

-- the bytes that are read of a file begin with its front
whole_of_front : (limit : ℕ) (told : Option (List ℕ → Option (List ℕ))) (name fed : List ℕ) → IsReadSoFar told name fed → fed ≢ [] → length fed ≤ limit + 1 → (rest : List ℕ) × IsReadWhole told name limit (fed ++ rest)
whole_of_front limit None name fed front some within = ([], tt)
whole_of_front limit (Some files) name fed front some within = by_file (files name) front
  where
    by_file : (file : Option (List ℕ)) → IsFront fed file → (rest : List ℕ) × (bytes_seen limit file ≡ Some (fed ++ rest))
    by_file None front = absurd (some front)
    by_file (Some file) front = (drop (length fed) (take (limit + 1) file), ap (λ (t : List ℕ). let y : Option (List ℕ) = Some t in y) (sym (front_rest limit fed file front within)))

some_bytes : (fed chunk : List ℕ) → 1 ≤ length chunk → fed ++ chunk ≢ []
some_bytes fed chunk some none =
    let long : length (fed ++ chunk) ≡ 0 = ap length none in
    omega (arith, length-append fed chunk, long, some)

abbrev FailsTraces : List ℕ → ShelfState → ShelfState → Stop → Type 0
FailsTraces name shelf shelf' stop = FailsToLoad OfTraces Traces name trace_limit traces_said shelf shelf' stop

-- bytes that are read whole have this fault, unless it is want of memory
refused_at : (name : List ℕ) (shelf shelf' : ShelfState) (bytes : List ℕ) (fault : TraceFault) (stop : Stop) → IsReadWhole shelf.holds name trace_limit bytes → shelf' ≡ shelf → (fault ≢ Memory → file_fault bytes ≡ Some fault) → RefusesTraces fault stop → FailsTraces name shelf shelf' stop
refused_at name shelf shelf' bytes fault (Refused refusal line) whole same known refuses =
    record { fault = (bytes, (whole, same), (refuses.1, ap (traces_or_line (file_traces bytes)) (known refuses.0) ∙ ap (λ (t : List ℕ). let y : Result (List Trace) (List ℕ) = Err t in y) (sym refuses.2))) }
refused_at name shelf shelf' bytes fault NoMemory whole same known refuses = record { fault = same }
refused_at name shelf shelf' bytes fault (Unread file) whole same known refuses = absurd refuses
refused_at name shelf shelf' bytes fault Unwritten whole same known refuses = absurd refuses

pub chunk_refused : (name : List ℕ) (shelf shelf' : ShelfState) (at at' : ℕ) (reader : TraceReader) (traces traces' : List Trace) (chunk : List ℕ) (fault : TraceFault) (stop : Stop) → (holds : IsHolding name shelf at reader traces)
    → shelf' ≡ shelf → IsChunk at at' chunk → AreRead name shelf at' (holds.fed ++ chunk) → Fails holds.fed chunk traces traces' fault → RefusesTraces fault stop → FailsTraces name shelf shelf' stop
chunk_refused name shelf shelf' at at' reader traces traces' chunk fault stop holds same is read fails refuses =
    let fed = holds.fed ++ chunk in
    let whole = whole_of_front trace_limit shelf.holds name fed read.front (some_bytes holds.fed chunk is.some) (omega (arith, read.place, read.within)) in
    refused_at name shelf shelf' (fed ++ whole.0) fault stop whole.1 same (λ other. file_fault_known fed whole.0 fault (fails.known other).1) refuses

-- ---- the end of the file

pub end_refused : (name : List ℕ) (shelf shelf' : ShelfState) (reader : TraceReader) (traces traces' : List Trace) (fault : TraceFault) (stop : Stop) → (fed : ReaderHasFile name shelf shelf' reader traces) → EndsFaulty fed.bytes traces traces' fault → RefusesTraces fault stop → FailsTraces name shelf shelf' stop
end_refused name shelf shelf' reader traces traces' fault stop fed ends refuses =
    refused_at name shelf shelf' fed.bytes fault stop fed.whole.0 fed.whole.1 (λ other. (ends.known other).1) refuses

pub end_accepted : (name : List ℕ) (shelf shelf' : ShelfState) (reader reader' : TraceReader) (traces traces' : List Trace) → (fed : ReaderHasFile name shelf shelf' reader traces) → Ends fed.bytes reader' traces traces' → Loads OfTraces Traces name trace_limit traces_said shelf shelf' (Ok traces')
end_accepted name shelf shelf' reader reader' traces traces' fed ends =
    let are : traces' ≡ file_traces fed.bytes = ends.grown ∙ ap (λ (t : List Trace). t ++ ends.more) fed.are ∙ sym ends.due in
    record {
      bytes = fed.bytes;
      whole = fed.whole;
      is = ap (traces_or_line (file_traces fed.bytes)) ends.faultless ∙ ap (λ (t : List Trace). let y : Result (List Trace) (List ℕ) = Ok t in y) (sym are);
    }
