-- What the end of a trace file leaves.
use Rattle.std.proofs.Common.{◌≡◌, ℕ, ◌<◌, List, [], ◌++◌, length, Some, None, Result, Ok, Err, refl, sym, ◌∙◌, ap, subst, inl, inr, arith, append_assoc, append-nil, length-append}
use Rattle.edge_io.specs.Sink.{AppendsPrefix, Rose}
use Rattle.edge_io.specs.State.{SinkState}
use Rattle.edge_io.proofs.KnownBytes.{appends_more, prefix_after}
use Rattle.trace_reader.specs.Reading.{closed, file_fault, file_traces}
use Rattle.trace_reader.specs.Reader.{Ends, EndsFaulty}
use Rattle.trace_reader.specs.declared.reader.TraceReader.{TraceReader}
use Rattle.trace_reader.specs.declared.trace.Trace.{Trace}
use Rattle.trace_reader.specs.declared.fault.TraceFault.{TraceFault}
use Rattle.program_frame.specs.Batches.{Holds, Later, with_later}
use Rattle.program_frame.specs.inside.BatchSteps.{IsBetweenChunks, RefusesAt}
use Rattle.program_frame.specs.Jobs.{IsBatch, IsBounded, JobText, bytes_give, outcome_given_by, traces_give}
use Rattle.program_frame.specs.Outcome.{done_with}
use Rattle.program_frame.specs.Performs.{PutLeaves}
use Rattle.program_frame.specs.Streams.{StopsAs}
use Rattle.program_frame.specs.inside.StreamSteps.{EndsWithOutcome}
use Rattle.program_frame.specs.declared.stop.Stop.{Stop}
use Rattle.program_frame.specs.declared.stop.Stop.TheVariants.{Refused, NoMemory, Unread, Unwritten}
use Rattle.program_frame.proofs.BatchEnds.{Has, all_taken, held_front, stops_with}
use Rattle.program_frame.proofs.Bounds.{bounded_file, bounded_front}
use Rattle.program_frame.proofs.ChunkEnds.{is_memory, length-StandsFor, waits_more}
use Rattle.program_frame.proofs.TraceCounts.{closed_last}

-- the end of the file closes at most two traces
few_waiting : (fed : List ℕ) (waiting left more rest : List Trace) → length waiting < 256 → left ≡ waiting ++ more → file_traces fed ≡ closed fed ++ (more ++ rest) → IsBatch left
few_waiting fed waiting left more rest room grown due =
    let all : length (file_traces fed) ≡ length (closed fed ++ (more ++ rest)) = ap length due in
    let size : length left ≡ length (waiting ++ more) = ap length grown in
    omega (arith, room, all, size, closed_last fed, length-append (closed fed) (more ++ rest), length-append more rest, length-append waiting more)

-- the file has no fault, and its last trace waits
pub ends_held : {job : JobText} {has : Has} {base out : SinkState} {fed : List ℕ} {reader : TraceReader} {waiting : List Trace} (after : TraceReader) (left : List Trace) → IsBetweenChunks job has base out fed reader waiting → Ends fed after waiting left → Holds job has base out (file_traces fed) left
ends_held {job} {has} {base} {out} {fed} {reader} {waiting} after left between ends =
    let short = length-StandsFor reader fed between.stands in
    let bounded : IsBounded (closed fed ++ ends.more) = subst IsBounded ends.due (bounded_file fed (omega (arith, short))) in
    subst (λ t. Holds job has base out t left) (sym ends.due) (waits_more ends.more left between.holds ends.grown bounded (few_waiting fed waiting left ends.more [] between.room ends.grown (ends.due ∙ ap (λ m. closed fed ++ m) (sym (append-nil ends.more)))))

-- the file has a fault at its end
pub faulty_held : {job : JobText} {has : Has} {base out : SinkState} {fed : List ℕ} {reader : TraceReader} {waiting : List Trace} (fault : TraceFault) (left : List Trace) → IsBetweenChunks job has base out fed reader waiting → (ends : EndsFaulty fed waiting left fault) → Holds job has base out (closed fed ++ ends.more) left
faulty_held {job} {has} {base} {out} {fed} {reader} {waiting} fault left between ends =
    let short = length-StandsFor reader fed between.stands in
    let all : IsBounded (file_traces fed) = bounded_file fed (omega (arith, short)) in
    let front : IsBounded (closed fed ++ ends.more) = bounded_front (closed fed ++ ends.more) ends.rest (subst IsBounded (ends.due ∙ sym (append_assoc (closed fed) ends.more ends.rest)) all) in
    waits_more ends.more left between.holds ends.grown front (few_waiting fed waiting left ends.more ends.rest between.room ends.grown ends.due)

cut_file : {job : JobText} {has : Has} {base out : SinkState} {waiting : List Trace} (fed : List ℕ) (more : List Trace) → Holds job has base out (closed fed) waiting → file_traces fed ≡ closed fed ++ more → AppendsPrefix base.written out.written (bytes_give job fed).out
cut_file {job} {has} {base} {out} fed more holds due =
    let later : Later = record { more = more; fault = file_fault fed } in
    subst (λ o. AppendsPrefix base.written out.written o.out) (sym (ap (λ t. traces_give job t (file_fault fed)) due)) (held_front holds later)

pub faulty_stops : {job : JobText} {has : Has} {base out : SinkState} {fed : List ℕ} {reader : TraceReader} {waiting : List Trace} (out' : SinkState) (fault : TraceFault) (left : List Trace) (stop : Stop) → IsBetweenChunks job has base out fed reader waiting → (ends : EndsFaulty fed waiting left fault) → RefusesAt job base out out' (closed fed ++ ends.more) fault stop → EndsWithOutcome (bytes_give job fed) base out' (Err stop)
faulty_stops {job} {has} {base} {out} {fed} out' fault left stop between ends refuses =
    elim (is_memory fault) as (λ _. EndsWithOutcome (bytes_give job fed) base out' (Err stop)) [
      | inl memory ↦
          let is = refuses.memory memory in
          subst (λ s. EndsWithOutcome (bytes_give job fed) base out' (Err s)) (sym is.0) (subst (λ o. EndsWithOutcome (bytes_give job fed) base o (Err NoMemory)) (sym is.1) (λ _. cut_file fed (ends.more ++ ends.rest) between.holds ends.due, between.holds.faults_are))
      | inr known ↦
          let all = ends.known known in
          let due : file_traces fed ≡ closed fed ++ ends.more = ends.due ∙ ap (λ r. closed fed ++ (ends.more ++ r)) all.0 ∙ ap (λ m. closed fed ++ m) (append-nil ends.more) in
          stops_with (λ _. traces_give job (closed fed ++ ends.more) (Some fault)) base out' tt (bytes_give job fed) stop
          (sym (ap (traces_give job (file_traces fed)) all.1 ∙ ap (λ t. traces_give job t (Some fault)) due)) (refuses.known known)
    ]

pub write_ends : (job : JobText) (base out : SinkState) (fed : List ℕ) (stop : Stop) → file_fault fed ≡ None → StopsAs Later (with_later job (file_traces fed)) base out stop → EndsWithOutcome (bytes_give job fed) base out (Err stop)
write_ends job base out fed stop faultless stops =
    stops_with (with_later job (file_traces fed)) base out (record { more = []; fault = None }) (bytes_give job fed) stop
    (ap (λ t. traces_give job t None) (append-nil (file_traces fed)) ∙ sym (ap (traces_give job (file_traces fed)) faultless)) stops

-- the text of a job that has taken all traces of a file without a fault
given_whole : {job : JobText} {has : Has} {base out : SinkState} {waiting : List Trace} (fed : List ℕ) → (holds : Holds job has base out (file_traces fed) waiting) → waiting ≡ [] → file_fault fed ≡ None → bytes_give job fed ≡ done_with (job.texts holds.taken ++ job.ending holds.taken)
given_whole {job} {has} {base} {out} fed holds none faultless =
    ap (traces_give job (file_traces fed)) faultless
    ∙ ap (λ t. traces_give job t None) (all_taken holds none)
    ∙ ap (λ r. outcome_given_by r None (job.texts holds.taken) (job.ending holds.taken)) holds.allowed

pub ending_put : {job : JobText} {has : Has} {base out : SinkState} {waiting : List Trace} (fed : List ℕ) (out' : SinkState) (ended : Result (Unit {0}) Stop) → (holds : Holds job has base out (file_traces fed) waiting) → waiting ≡ [] → file_fault fed ≡ None → PutLeaves out out' (job.ending holds.taken) ended → EndsWithOutcome (bytes_give job fed) base out' ended
ending_put {job} {has} {base} {out} fed out' ended holds none faultless puts =
    subst (λ o. EndsWithOutcome o base out' ended) (sym (given_whole fed holds none faultless)) (put_of ended puts)
  where
    text : List ℕ
    text = job.texts holds.taken ++ job.ending holds.taken

    put_of : (e : Result (Unit {0}) Stop) → PutLeaves out out' (job.ending holds.taken) e → EndsWithOutcome (done_with text) base out' e
    put_of (Ok done) puts = (refl, appends_more base.written out.written out'.written (job.texts holds.taken) (job.ending holds.taken) holds.written puts.0, puts.1 ∙ holds.faults_are)
    put_of (Err (Refused refusal line)) puts = absurd puts
    put_of (Err NoMemory) puts = (λ _. prefix_after base.written out.written out'.written (job.texts holds.taken) (job.ending holds.taken) holds.written (0, puts.0), puts.1 ∙ holds.faults_are)
    put_of (Err (Unread file)) puts = absurd puts
    put_of (Err Unwritten) puts = (λ _. prefix_after base.written out.written out'.written (job.texts holds.taken) (job.ending holds.taken) holds.written puts.0, subst (λ n. Rose n out'.faults) holds.faults_are puts.1)
