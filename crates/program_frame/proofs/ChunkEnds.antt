-- What a chunk of a trace file leaves.
use Rattle.std.proofs.Common.{◌≡◌, ◌≢◌, ℕ, ◌+◌, ◌<◌, ◌≤◌, ◌^◌, ◌⊎◌, zero, suc, IsSome, OnOk, ◌==◌, Bool, true, false, List, [], ◌∷◌, ◌++◌, length, take, drop, Some, None, Ok, Err, Result, refl, sym, ◌∙◌, ap, subst, inl, inr, arith, append_assoc, append-nil, length-append}
use Rattle.std.specs.declared.option.Option.{Option}
use Rattle.std.specs.Io.KnownBytes.{Appends}
use Rattle.std.proofs.lemmas.Bool.Decides.{nat_tests}
use Rattle.std.proofs.lemmas.List.{take-append-drop}
use Rattle.edge_io.specs.Sink.{AppendsPrefix}
use Rattle.edge_io.specs.State.{SinkState}
use Rattle.trace_reader.specs.Reading.{closed, fault_in, file_traces}
use Rattle.trace_reader.specs.Reader.{StandsFor, Takes, Fails}
use Rattle.trace_reader.specs.declared.reader.TraceReader.{TraceReader}
use Rattle.trace_reader.specs.declared.trace.Trace.{Trace}
use Rattle.trace_reader.specs.declared.fault.TraceFault.{TraceFault}
use Rattle.trace_reader.specs.declared.fault.TraceFault.TheVariants as faults
use Rattle.trace_reader.proofs.Laws.{closed-none, file_fault_known, file_traces_known, fault_in_long, fault_in-StandsFor}
use Rattle.edge_io.proofs.KnownBytes.{appends_nothing}
use Rattle.program_frame.specs.Batches.{Holds, Later, WritesBatch, with_later}
use Rattle.program_frame.specs.inside.BatchSteps.{IsBetweenChunks, RefusesAt, TakesChunk}
use Rattle.program_frame.specs.Jobs.{IsBatch, IsBounded, JobText, bytes_give, traces_give}
use Rattle.program_frame.specs.Streams.{HasFront, StopsAs}
use Rattle.program_frame.specs.inside.StreamSteps.{StopsAt}
use Rattle.program_frame.specs.declared.stop.Stop.{Stop}
use Rattle.program_frame.specs.declared.stop.Stop.TheVariants.{NoMemory}
use Rattle.program_frame.proofs.Bounds.{bounded_closed, bounded_front}
use Rattle.program_frame.proofs.BatchEnds.{Has, held_front, stops_for}
use Rattle.program_frame.proofs.Giving.{rest_later}

not_more : (m n : ℕ) → (n < m → ⊥) → m ≤ n
not_more m n less = omega arith

no_fault_known : (fault : Option TraceFault) → fault ≡ None → IsSome fault → ⊥
no_fault_known None none some = cc
no_fault_known (Some fault) none some = cc

-- the bytes that a reader stands for are no more than a file has
pub length-StandsFor : (reader : TraceReader) (fed : List ℕ) → StandsFor reader fed → length fed ≤ 1_099_511_627_776
length-StandsFor reader fed stands =
    not_more (length fed) 1_099_511_627_776 (λ long. no_fault_known (fault_in fed) (fault_in-StandsFor reader fed stands) (fault_in_long fed long))

-- more traces wait
pub waits_more : {job : JobText} {has : Has} {base out : SinkState} {traces waiting : List Trace} (more left : List Trace) → Holds job has base out traces waiting → left ≡ waiting ++ more → IsBounded (traces ++ more) → IsBatch left → Holds job has base out (traces ++ more) left
waits_more {job} {has} {base} {out} {traces} {waiting} more left holds grown bounded few = record {
  taken = holds.taken;
  are = ap (λ t. t ++ more) holds.are ∙ append_assoc holds.taken waiting more ∙ ap (λ w. holds.taken ++ w) (sym grown);
  had = holds.had;
  allowed = holds.allowed;
  written = holds.written;
  faults_are = holds.faults_are;
  bounded = bounded;
  few = few;
}

-- bytes were taken
pub takes_more : {job : JobText} {has : Has} {base out : SinkState} {fed : List ℕ} {reader : TraceReader} {waiting : List Trace} (chunk : List ℕ) (most n : ℕ) (after : TraceReader) (left : List Trace) → IsBetweenChunks job has base out fed reader waiting → length waiting + most ≤ 256 → Takes fed chunk most after waiting left n → Holds job has base out (closed (fed ++ take n chunk)) left
takes_more {job} {has} {base} {out} {fed} chunk most n after left between room takes =
    let closes = takes.closes in
    let short = length-StandsFor after (fed ++ take n chunk) takes.stands in
    let bounded : IsBounded (closed fed ++ closes.more) = subst IsBounded closes.due (bounded_closed (fed ++ take n chunk) (omega (arith, short))) in
    subst (λ t. Holds job has base out t left) (sym closes.due) (waits_more closes.more left between.holds closes.grown bounded (let most_are = takes.no_more in omega (arith, most_are, room)))

-- at least one byte was taken
pub takes_one : (fed chunk : List ℕ) (most n : ℕ) (after : TraceReader) (waiting left : List Trace) → 1 ≤ most → 1 ≤ length chunk → Takes fed chunk most after waiting left n → 1 ≤ n
takes_one fed chunk most zero after waiting left some long takes =
    let closes = takes.closes in
    let whole = takes.whole in
    let size : length (closed fed) ≡ length (closed fed ++ closes.more) = ap length (ap closed (sym (append-nil fed)) ∙ closes.due) in
    absurd (omega (arith, size, whole, takes.no_more, length-append (closed fed) closes.more, ap length closes.grown, length-append waiting closes.more))
takes_one fed chunk most (suc n) after waiting left some long takes = omega arith

-- a fault was found, or memory ran out
pub fails_held : {job : JobText} {has : Has} {base out : SinkState} {fed : List ℕ} {reader : TraceReader} {waiting : List Trace} (chunk : List ℕ) (fault : TraceFault) (left : List Trace) → IsBetweenChunks job has base out fed reader waiting → length chunk < 2 ^ 32 → length left ≤ 256 → (fails : Fails fed chunk waiting left fault) → Holds job has base out (closed fed ++ fails.more) left
fails_held {job} {has} {base} {out} {fed} {reader} chunk fault left between few few_left fails =
    let short = length-StandsFor reader fed between.stands in
    let all : IsBounded (closed (fed ++ chunk)) = bounded_closed (fed ++ chunk) (omega (arith, short, length-append fed chunk)) in
    let front : IsBounded (closed fed ++ fails.more) = bounded_front (closed fed ++ fails.more) fails.rest (subst IsBounded (fails.due ∙ sym (append_assoc (closed fed) fails.more fails.rest)) all) in
    waits_more fails.more left between.holds fails.grown front (omega (arith, few_left))

-- a fault is want of memory, or not
pub is_memory : (fault : TraceFault) → (fault ≡ faults.Memory) ⊎ (fault ≢ faults.Memory)
is_memory faults.BadHeader = inr (λ e. cc)
is_memory (faults.FieldCount line) = inr (λ e. cc)
is_memory (faults.BadNumber line field) = inr (λ e. cc)
is_memory (faults.OutOfRange line field) = inr (λ e. cc)
is_memory (faults.TraceTooLong line) = inr (λ e. cc)
is_memory (faults.LineTooLong line) = inr (λ e. cc)
is_memory faults.FileTooLong = inr (λ e. cc)
is_memory faults.Memory = inl refl

-- what was written is a part of what any file gives that begins so
pub held_rest : {job : JobText} {has : Has} {base out : SinkState} {waiting : List Trace} (fed : List ℕ) → Holds job has base out (closed fed) waiting → HasFront (List ℕ) (λ rest. bytes_give job (fed ++ rest)) base out
held_rest {job} {has} {base} {out} fed holds rest =
    let later = rest_later job fed rest in
    subst (λ o. AppendsPrefix base.written out.written o.out) (sym later.1) (held_front holds later.0)

-- memory ran out where these traces are held
held_chunk : {job : JobText} {has : Has} {base out : SinkState} {waiting : List Trace} (fed chunk : List ℕ) → Holds job has base out (closed fed) waiting → HasFront (List ℕ) (λ rest. bytes_give job ((fed ++ chunk) ++ rest)) base out
held_chunk {job} {has} {base} {out} fed chunk holds rest =
    subst (λ b. AppendsPrefix base.written out.written (bytes_give job b).out) (sym (append_assoc fed chunk rest)) (held_rest fed holds (chunk ++ rest))

-- the file has this fault in a chunk
known_rest : (job : JobText) (fed chunk rest : List ℕ) (fault : TraceFault) (more : List Trace) → closed (fed ++ chunk) ≡ closed fed ++ (more ++ []) → fault_in (fed ++ chunk) ≡ Some fault → bytes_give job ((fed ++ chunk) ++ rest) ≡ traces_give job (closed fed ++ more) (Some fault)
known_rest job fed chunk rest fault more due known =
    ap (λ f. traces_give job (file_traces ((fed ++ chunk) ++ rest)) f) (file_fault_known (fed ++ chunk) rest fault known)
    ∙ ap (λ t. traces_give job t (Some fault)) (file_traces_known (fed ++ chunk) rest fault known ∙ due ∙ ap (λ m. closed fed ++ m) (append-nil more))

pub fails_stops : {job : JobText} {has : Has} {base out : SinkState} {fed : List ℕ} {reader : TraceReader} {waiting : List Trace} (out' : SinkState) (chunk : List ℕ) (fault : TraceFault) (left : List Trace) (stop : Stop) → IsBetweenChunks job has base out fed reader waiting → (fails : Fails fed chunk waiting left fault) → RefusesAt job base out out' (closed fed ++ fails.more) fault stop → StopsAt (bytes_give job) base out' (fed ++ chunk) stop
fails_stops {job} {has} {base} {out} {fed} out' chunk fault left stop between fails refuses =
    elim (is_memory fault) as (λ _. StopsAt (bytes_give job) base out' (fed ++ chunk) stop) [
      | inl memory ↦
          let is = refuses.memory memory in
          subst (StopsAt (bytes_give job) base out' (fed ++ chunk)) (sym is.0) (subst (λ o. StopsAt (bytes_give job) base o (fed ++ chunk) NoMemory) (sym is.1) (held_chunk fed chunk between.holds, between.holds.faults_are))
      | inr known ↦
          let all = fails.known known in
          stops_for (λ _. traces_give job (closed fed ++ fails.more) (Some fault)) (λ rest. bytes_give job ((fed ++ chunk) ++ rest)) base out' stop
          (λ later. (tt, known_rest job fed chunk later fault fails.more (fails.due ∙ ap (λ r. closed fed ++ (fails.more ++ r)) all.0) all.1)) (refuses.known known)
    ]

-- a stop behind some of the bytes of a chunk is one behind the chunk
pub stops_in : (job : JobText) (base out : SinkState) (fed chunk : List ℕ) (n : ℕ) (stop : Stop) → StopsAs Later (with_later job (closed (fed ++ take n chunk))) base out stop → StopsAt (bytes_give job) base out (fed ++ chunk) stop
stops_in job base out fed chunk n stop stops =
    stops_for (with_later job (closed (fed ++ take n chunk))) (λ rest. bytes_give job ((fed ++ chunk) ++ rest)) base out stop
    (λ rest.
    let later = rest_later job (fed ++ take n chunk) (drop n chunk ++ rest) in (
      later.0,
      ap (λ p. bytes_give job ((fed ++ p) ++ rest)) (sym (take-append-drop n chunk))
          ∙ ap (λ b. bytes_give job (b ++ rest)) (sym (append_assoc fed (take n chunk) (drop n chunk)))
          ∙ ap (bytes_give job) (append_assoc (fed ++ take n chunk) (drop n chunk) rest)
          ∙ later.1,
    )) stops

-- some bytes of a chunk were taken, and what waited was written
pub batch_taken : (job : JobText) (has : Has) (base out : SinkState) (fed chunk : List ℕ) (n : ℕ) (reader : TraceReader) (waiting : List Trace) → StandsFor reader (fed ++ take n chunk) → WritesBatch job has base out (closed (fed ++ take n chunk)) waiting (Ok tt) → IsBetweenChunks job has base out (fed ++ take n chunk) reader waiting
batch_taken job has base out fed chunk n reader waiting stands writes =
    let none : length waiting ≡ 0 = ap length writes.1 in
    record { stands = stands; holds = writes.0; room = omega (arith, none) }

-- the traces that waited between two chunks were written
pub between_written : (job : JobText) (has has' : Has) (base out out' : SinkState) (fed : List ℕ) (reader after : TraceReader) (waiting left : List Trace) (ended : Result (Unit {0}) Stop) → IsBetweenChunks job has base out fed reader waiting → after ≡ reader → WritesBatch job has' base out' (closed fed) left ended → TakesChunk job has' base out' fed after left ended
between_written job has has' base out out' fed reader after waiting left (Ok done) between same writes =
    let none : length left ≡ 0 = ap length writes.1 in
    record { stands = subst (λ r. StandsFor r fed) (sym same) between.stands; holds = writes.0; room = omega (arith, none) }
between_written job has has' base out out' fed reader after waiting left (Err stop) between same writes =
    stops_for (with_later job (closed fed)) (λ rest. bytes_give job (fed ++ rest)) base out' stop (rest_later job fed) writes

-- and then none of them waits
pub none_waits : (job : JobText) (has : Has) (base out : SinkState) (traces left : List Trace) (ended : Result (Unit {0}) Stop) → WritesBatch job has base out traces left ended → OnOk ended (left ≡ [])
none_waits job has base out traces left (Ok done) writes = writes.1
none_waits job has base out traces left (Err stop) writes = tt

-- some of a chunk was taken
pub record IsUnderway (job : JobText) (has has' : List Trace → Type 0) (chunk rest : List ℕ) (first out : SinkState) (reader reader' : TraceReader) (waiting waiting' : List Trace) : Type 0 where
  pub front : List ℕ
  pub whole : chunk ≡ front ++ rest
  pub goes : (base : SinkState) (fed : List ℕ) → IsBetweenChunks job has base first fed reader waiting → IsBetweenChunks job has' base out (fed ++ front) reader' waiting'

-- nothing of it was taken
pub not_begun : {job : JobText} {has : Has} {chunk : List ℕ} {out : SinkState} {reader : TraceReader} {waiting : List Trace} → IsUnderway job has has chunk chunk out out reader reader waiting waiting
not_begun {job} {has} {chunk} {out} {reader} {waiting} = record {
  front = [];
  whole = refl;
  goes = λ base fed between. subst (λ b. IsBetweenChunks job has base out b reader waiting) (sym (append-nil fed)) between;
}

pub all_in : {job : JobText} {has has' : Has} {chunk rest : List ℕ} {first out : SinkState} {reader reader' : TraceReader} {waiting waiting' : List Trace} → IsUnderway job has has' chunk rest first out reader reader' waiting waiting' → rest ≡ [] → (base : SinkState) (fed : List ℕ) → IsBetweenChunks job has base first fed reader waiting → IsBetweenChunks job has' base out (fed ++ chunk) reader' waiting'
all_in {job} {has} {has'} {chunk} {rest} {first} {out} {reader} {reader'} {waiting} {waiting'} underway none base fed between =
    subst (λ p. IsBetweenChunks job has' base out (fed ++ p) reader' waiting') (sym (underway.whole ∙ ap (λ r. underway.front ++ r) none ∙ append-nil underway.front)) (underway.goes base fed between)

pub some_more : {job : JobText} {has has' : Has} {chunk rest : List ℕ} {first out : SinkState} {reader reader' : TraceReader} {waiting waiting' : List Trace} (has'' : Has) (out' : SinkState) (reader'' : TraceReader) (waiting'' : List Trace) (left : List ℕ) (n : ℕ) → IsUnderway job has has' chunk rest first out reader reader' waiting waiting' → left ≡ drop n rest → ((base : SinkState) (fed : List ℕ) → IsBetweenChunks job has' base out fed reader' waiting' → IsBetweenChunks job has'' base out' (fed ++ take n rest) reader'' waiting'') → IsUnderway job has has'' chunk left first out' reader reader'' waiting waiting''
some_more {job} {has} {has'} {chunk} {rest} has'' out' reader'' waiting'' left n underway is takes = record {
  front = underway.front ++ take n rest;
  whole = underway.whole ∙ ap (λ r. underway.front ++ r) (sym (take-append-drop n rest)) ∙ sym (append_assoc underway.front (take n rest) (drop n rest)) ∙ ap (λ l. (underway.front ++ take n rest) ++ l) (sym is);
  goes = λ base fed between. subst (λ b. IsBetweenChunks job has'' base out' b reader'' waiting'') (append_assoc fed underway.front (take n rest)) (takes base (fed ++ underway.front) (underway.goes base fed between));
}

pub stops_chunk : {job : JobText} {has has' : Has} {chunk rest : List ℕ} {first out : SinkState} {reader reader' : TraceReader} {waiting waiting' : List Trace} (base out' : SinkState) (fed : List ℕ) (stop : Stop) → (underway : IsUnderway job has has' chunk rest first out reader reader' waiting waiting') → StopsAt (bytes_give job) base out' ((fed ++ underway.front) ++ rest) stop → StopsAt (bytes_give job) base out' (fed ++ chunk) stop
stops_chunk {job} {has} {has'} {chunk} {rest} base out' fed stop underway stops =
    subst (λ b. StopsAt (bytes_give job) base out' b stop) (append_assoc fed underway.front rest ∙ ap (λ p. fed ++ p) (sym underway.whole)) stops

tested_zero : (n : ℕ) (empty : Bool) → empty ≡ true → empty ≡ (n == 0) → n ≡ 0
tested_zero n empty is test = grind (arith, nat_tests)

pub none_left : (rest : List ℕ) (empty : Bool) → empty ≡ true → empty ≡ (length rest == 0) → rest ≡ []
none_left [] empty is test = refl
none_left (byte ∷ rest) empty is test =
    let none : length (byte ∷ rest) ≡ 0 = tested_zero (length (byte ∷ rest)) empty is test in
    absurd (omega arith)

pub some_left : (rest : List ℕ) → false ≡ (length rest == 0) → 1 ≤ length rest
some_left [] is = absurd (cc)
some_left (byte ∷ rest) is = omega arith

-- nothing was read of a job that has taken nothing
pub begun : (job : JobText) (has : Has) (base : SinkState) (reader : TraceReader) (waiting : List Trace) → has [] → StandsFor reader [] → waiting ≡ [] → IsBetweenChunks job has base base [] reader waiting
begun job has base reader waiting had stands none = record {
  stands = stands;
  holds = record {
    taken = [];
    are = closed-none ∙ sym none;
    had = had;
    allowed = job.allowed;
    written = subst (Appends base.written base.written) (sym job.nothing) (appends_nothing base.written);
    faults_are = refl;
    bounded = bounded_closed [] (omega arith);
    few = let e : length waiting ≡ 0 = ap length none in omega (arith, e);
  };
  room = let e : length waiting ≡ 0 = ap length none in omega (arith, e);
}
