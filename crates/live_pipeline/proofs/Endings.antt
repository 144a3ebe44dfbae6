-- What a run leaves, by its last part and by how its matcher ended.
use Rattle.std.proofs.Common.{◌≡◌, ◌⊎◌, ℕ, zero, suc, List, [], ◌∷◌, ◌++◌, take, Some, None, Result, Ok, Err, IfErr, IsErr, refl, sym, ◌∙◌, ap, subst, inl, inr, append_assoc, append-nil}
use Rattle.std.specs.declared.option.Option.{Option}
use Rattle.std.specs.Io.KnownBytes.{Appends}
use Rattle.edge_io.specs.Sink.{AppendsPrefix}
use Rattle.edge_io.specs.State.{ShelfState, SinkState}
use Rattle.program_frame.specs.Batches.{Holds, Later, with_later}
use Rattle.program_frame.specs.Jobs.{JobText, bytes_give, outcome_given_by, traces_give}
use Rattle.program_frame.specs.Outcome.{Outcome, done_with}
use Rattle.program_frame.specs.Performs.{Performs}
use Rattle.program_frame.specs.Read.{ReadsWhole}
use Rattle.program_frame.specs.Refusals.{trace_limit}
use Rattle.program_frame.specs.inside.Refusing.{RefusesTraces}
use Rattle.program_frame.specs.Stops.{refusal_status}
use Rattle.program_frame.specs.Stream.{works_traces}
use Rattle.program_frame.specs.Streams.{HasFront, StopsAs}
use Rattle.program_frame.specs.inside.StreamSteps.{IsStreaming, StopsAt}
use Rattle.program_frame.specs.declared.stop.File.TheVariants.{Traces}
use Rattle.program_frame.specs.declared.stop.Refusal.{Refusal}
use Rattle.program_frame.specs.declared.stop.Refusal.TheVariants as refusals
use Rattle.program_frame.specs.declared.stop.Stop.{Stop}
use Rattle.program_frame.specs.declared.stop.Stop.TheVariants.{Refused, NoMemory, Unread, Unwritten}
use Rattle.program_frame.proofs.BatchEnds.{Has, held_front, refused_all, stops_for, stops_with}
use Rattle.program_frame.proofs.FileEnds.{ending_put}
use Rattle.program_frame.proofs.Giving.{rest_later}
use Rattle.program_frame.proofs.Streaming.{stream_ends, stream_starved, stream_stops, stream_unread}
use Rattle.trace_reader.specs.Reading.{closed, fault_in, file_fault, file_traces}
use Rattle.trace_reader.specs.declared.trace.Trace.{Trace}
use Rattle.trace_reader.specs.declared.fault.TraceFault.{TraceFault}
use Rattle.trace_reader.specs.declared.fault.TraceFault.TheVariants as faults
use Rattle.trace_reader.proofs.Laws.{closed-none, file_fault_known, file_traces_known}
use Rattle.live_pipeline.specs.declared.part.Part.{Part}
use Rattle.live_pipeline.specs.declared.part.Part.TheVariants as parts
use Rattle.live_pipeline.specs.Living.{LivePerforms}
use Rattle.live_pipeline.specs.Matching.{NeverRefuses}
use Rattle.live_pipeline.specs.inside.MatchingSteps.{EndsWithPart}
use Rattle.live_pipeline.specs.Reading.{Brings, IsFrontOf}

-- ---- what is expected of a file, of whose traces the first were worked on

later_of : (job : JobText) (fed more : List ℕ) (traces rest : List Trace) → closed fed ≡ traces ++ rest → (later : Later) × (bytes_give job (fed ++ more) ≡ with_later job traces later)
later_of job fed more traces rest due =
    let later = rest_later job fed more in (
      record { more = rest ++ later.0.more; fault = later.0.fault },
      later.1 ∙ ap (λ (ts : List Trace). traces_give job ts later.0.fault) (ap (λ (ts : List Trace). ts ++ later.0.more) due ∙ append_assoc traces rest later.0.more),
    )

take_none : (n : ℕ) → take {A = ℕ} n [] ≡ []
take_none zero = refl
take_none (suc n) = refl

-- of no traces nothing is written
nothing_given : (job : JobText) (traces : List Trace) → traces ≡ [] → (with_later job traces (record { more = []; fault = Some faults.BadHeader })).out ≡ []
nothing_given job traces none =
    ap (λ (ts : List Trace). (traces_give job (ts ++ []) (Some faults.BadHeader)).out) none
    ∙ ap (λ (r : Option (List ℕ)). (outcome_given_by r (Some faults.BadHeader) (job.texts []) (job.ending [])).out) job.allowed
    ∙ job.nothing

nothing_written : (job : JobText) (base out : SinkState) (traces : List Trace) → traces ≡ [] → HasFront Later (with_later job traces) base out → Appends base.written out.written []
nothing_written job base out traces none front =
    let p = subst (AppendsPrefix base.written out.written) (nothing_given job traces none) (front (record { more = []; fault = Some faults.BadHeader })) in
    subst (Appends base.written out.written) (take_none p.0) p.1

front_none : (traces rest : List Trace) → [] ≡ traces ++ rest → traces ≡ []
front_none [] rest is = refl
front_none (trace ∷ traces) rest is = cc

no_traces : (fed : List ℕ) (traces rest : List Trace) → closed fed ≡ traces ++ rest → fed ≡ [] → traces ≡ []
no_traces fed traces rest due none = front_none traces rest (sym closed-none ∙ ap closed (sym none) ∙ due)

streaming : (job : JobText) (name : List ℕ) (shelf : ShelfState) (base out : SinkState) (fed : List ℕ) (traces rest : List Trace) → IsFrontOf name shelf fed → closed fed ≡ traces ++ rest → HasFront Later (with_later job traces) base out → out.faults ≡ base.faults → IsStreaming name trace_limit (bytes_give job) shelf shelf base out fed
streaming job name shelf base out fed traces rest front_of due front same = record {
  shelf_is = refl;
  front = front_of.front;
  within = front_of.within;
  written = λ more.
      let later = later_of job fed more traces rest due in
      subst (AppendsPrefix base.written out.written) (sym (ap (λ (o : Outcome). o.out) later.1)) (front later.0);
  nothing = λ none. nothing_written job base out traces (no_traces fed traces rest due none) front;
  faults_are = same;
}

-- ---- a matcher that has stopped

no_status : (refusal : Refusal) → 0 ≡ refusal_status refusal → ⊥
no_status refusals.Words e = cc
no_status refusals.Network e = cc
no_status refusals.Traces e = cc
no_status refusals.Certificate e = cc
no_status refusals.TooLong e = cc
no_status refusals.Table e = cc

never_refused : (job : JobText) (base out : SinkState) (traces : List Trace) (refusal : Refusal) (line : List ℕ) → NeverRefuses job → StopsAs Later (with_later job traces) base out (Refused refusal line) → ⊥
never_refused job base out traces refusal line never stops =
    let all = traces ++ [] in
    let done : traces_give job all None ≡ done_with (job.texts all ++ job.ending all) = ap (λ (r : Option (List ℕ)). outcome_given_by r None (job.texts all) (job.ending all)) (never all) in
    no_status refusal (ap (λ (o : Outcome). o.status) (sym done ∙ stops.is (record { more = []; fault = None })))

abbrev stopped : Stop → Result (Unit {0}) Stop
stopped stop = Err stop

-- the matcher stopped for want of memory or a failed put
stop_is : (job : JobText) (base out : SinkState) (traces : List Trace) (stop : Stop) → NeverRefuses job → StopsAs Later (with_later job traces) base out stop → (stopped stop ≡ Err NoMemory) ⊎ (stopped stop ≡ Err Unwritten)
stop_is job base out traces (Refused refusal line) never stops = absurd (never_refused job base out traces refusal line never stops)
stop_is job base out traces NoMemory never stops = inl refl
stop_is job base out traces (Unread file) never stops = absurd stops
stop_is job base out traces Unwritten never stops = inr refl

-- no end was seen
within_performs : (job : JobText) (name : List ℕ) (shelf : ShelfState) (base out : SinkState) (fed : List ℕ) (traces rest : List Trace) (stop : Stop) → NeverRefuses job → IsFrontOf name shelf fed → closed fed ≡ traces ++ rest → StopsAs Later (with_later job traces) base out stop → Performs (Ok (works_traces name job)) shelf shelf base out (Err stop)
within_performs job name shelf base out fed traces rest (Refused refusal line) never front_of due stops = absurd (never_refused job base out traces refusal line never stops)
within_performs job name shelf base out fed traces rest NoMemory never front_of due stops =
    stream_starved Traces (streaming job name shelf base out fed traces rest front_of due stops.0 stops.1)
within_performs job name shelf base out fed traces rest (Unread file) never front_of due stops = absurd stops
within_performs job name shelf base out fed traces rest Unwritten never front_of due stops =
    let calm : SinkState = record { written = out.written; faults = base.faults } in
    record {
      partial = (stream_starved Traces (streaming job name shelf base calm fed traces rest front_of due stops.0 refl)).partial;
      leaves = record { shelf_is = refl; rose = stops.1 };
    }

-- the file was read whole
at_end_performs : (job : JobText) (name : List ℕ) (shelf : ShelfState) (base out : SinkState) (bytes : List ℕ) (traces rest : List Trace) (stop : Stop) → ReadsWhole name trace_limit shelf shelf bytes → file_traces bytes ≡ traces ++ rest → StopsAs Later (with_later job traces) base out stop → Performs (Ok (works_traces name job)) shelf shelf base out (Err stop)
at_end_performs job name shelf base out bytes traces rest stop whole due stops =
    stream_ends Traces name trace_limit (bytes_give job) bytes whole
    (stops_with (with_later job traces) base out (record { more = rest; fault = file_fault bytes }) (bytes_give job bytes) stop
    (ap (λ (ts : List Trace). traces_give job ts (file_fault bytes)) (sym due)) stops)

-- on the shelf that comes back
with_shelf : (job : JobText) (name : List ℕ) (shelf shelf' : ShelfState) (base out : SinkState) (ended : Result (Unit {0}) Stop) → shelf' ≡ shelf → Performs (Ok (works_traces name job)) shelf shelf base out ended → LivePerforms (Ok (works_traces name job)) shelf shelf' base out ended
with_shelf job name shelf shelf' base out ended same performs =
    inl (subst (λ s. Performs (Ok (works_traces name job)) shelf s base out ended) (sym same) performs)

all_of : (xs ys : List Trace) → xs ≡ ys → xs ≡ ys ++ []
all_of xs ys is = is ∙ sym (append-nil ys)

pub live_stopped : (job : JobText) (name : List ℕ) (shelf shelf' : ShelfState) (base out : SinkState) (traces : List Trace) (last : Part) (stop : Stop) → NeverRefuses job → Brings name shelf shelf' traces last → StopsAs Later (with_later job traces) base out stop → LivePerforms (Ok (works_traces name job)) shelf shelf' base out (Err stop)
live_stopped job name shelf shelf' base out traces (parts.Trace trace) stop never brings stops = absurd brings
live_stopped job name shelf shelf' base out traces parts.End stop never brings stops =
    with_shelf job name shelf shelf' base out (Err stop) brings.1 (at_end_performs job name shelf base out brings.0.bytes traces [] stop brings.0.whole (all_of (file_traces brings.0.bytes) traces brings.0.are) stops)
live_stopped job name shelf shelf' base out traces (parts.Fault fault) stop never (inl is, other, same) stops =
    with_shelf job name shelf shelf' base out (Err stop) same (within_performs job name shelf base out is.fed traces [] stop never is.front_of (all_of (closed is.fed) traces is.are) stops)
live_stopped job name shelf shelf' base out traces (parts.Fault fault) stop never (inr is, other, same) stops =
    with_shelf job name shelf shelf' base out (Err stop) same (at_end_performs job name shelf base out is.bytes traces [] stop is.whole (all_of (file_traces is.bytes) traces is.are) stops)
live_stopped job name shelf shelf' base out traces parts.ReadFailed stop never brings stops =
    let is = brings.0 in
    inr (record {
      stops = stop_is job base out traces stop never stops;
      noted = record { name = name; named = inl (refl, refl); noted = brings.1 };
      performs = within_performs job name shelf base out is.fed traces [] stop never is.front_of (all_of (closed is.fed) traces is.are) stops;
    })
live_stopped job name shelf shelf' base out traces parts.NoMemory stop never (inl is, same) stops =
    with_shelf job name shelf shelf' base out (Err stop) same (within_performs job name shelf base out is.fed traces is.rest stop never is.front_of is.are stops)
live_stopped job name shelf shelf' base out traces parts.NoMemory stop never (inr is, same) stops =
    with_shelf job name shelf shelf' base out (Err stop) same (at_end_performs job name shelf base out is.bytes traces is.rest stop is.whole is.are stops)

-- ---- the last part decides

fault_within : (job : JobText) (base out : SinkState) (fed : List ℕ) (traces : List Trace) (fault : TraceFault) (stop : Stop) → closed fed ≡ traces → fault_in fed ≡ Some fault → StopsAs (Unit {0}) (λ _. traces_give job traces (Some fault)) base out stop → StopsAt (bytes_give job) base out fed stop
fault_within job base out fed traces fault stop due known stops =
    stops_for (λ _. traces_give job traces (Some fault)) (λ rest. bytes_give job (fed ++ rest)) base out stop
    (λ rest. (tt, ap (λ (f : Option TraceFault). traces_give job (file_traces (fed ++ rest)) f) (file_fault_known fed rest fault known) ∙ ap (λ (ts : List Trace). traces_give job ts (Some fault)) (file_traces_known fed rest fault known ∙ due))) stops

live_fault : {job : JobText} {has : Has} {name : List ℕ} {shelf shelf' : ShelfState} {base out : SinkState} {traces : List Trace} (fault : TraceFault) (ended : Result (Unit {0}) Stop) → Brings name shelf shelf' traces (parts.Fault fault) → Holds job has base out traces [] → IsErr ended → IfErr ended (RefusesTraces fault) → LivePerforms (Ok (works_traces name job)) shelf shelf' base out ended
live_fault fault (Ok done) brings holds err refuses = absurd (cc err)
live_fault {job} {has} {name} {shelf} {shelf'} {base} {out} {traces} fault (Err stop) (inl is, other, same) holds err refuses =
    inl (stream_stops Traces name trace_limit (bytes_give job) is.fed same is.front_of.front is.some is.front_of.within
    (fault_within job base out is.fed traces fault stop is.are is.known (refused_all fault stop holds refl refuses)))
live_fault {job} {has} {name} {shelf} {shelf'} {base} {out} {traces} fault (Err stop) (inr is, other, same) holds err refuses =
    with_shelf job name shelf shelf' base out (Err stop) same (stream_ends Traces name trace_limit (bytes_give job) is.bytes is.whole
    (stops_with (λ _. traces_give job traces (Some fault)) base out tt (bytes_give job is.bytes) stop
    (sym (ap (traces_give job (file_traces is.bytes)) is.known ∙ ap (λ (ts : List Trace). traces_give job ts (Some fault)) is.are)) (refused_all fault stop holds refl refuses)))

pub live_done : {job : JobText} {has : Has} {name : List ℕ} {shelf shelf' : ShelfState} {base out : SinkState} {traces : List Trace} (out' : SinkState) (last : Part) (ended : Result (Unit {0}) Stop) → NeverRefuses job → Brings name shelf shelf' traces last → Holds job has base out traces [] → EndsWithPart job has out out' last ended → LivePerforms (Ok (works_traces name job)) shelf shelf' base out' ended
live_done out' (parts.Trace trace) ended never brings holds ends = absurd brings
live_done {job} {has} {name} {shelf} {shelf'} {base} {out} out' parts.End ended never brings holds ends =
    let is = brings.0 in
    let whole : Holds job has base out (file_traces is.bytes) [] = subst (λ (ts : List Trace). Holds job has base out ts []) (sym is.are) holds in
    with_shelf job name shelf shelf' base out' ended brings.1 (stream_ends Traces name trace_limit (bytes_give job) is.bytes is.whole
    (ending_put is.bytes out' ended whole refl is.faultless (ends whole.taken whole.had).leaves))
live_done {job} {has} {name} {shelf} {shelf'} {base} {out} out' (parts.Fault fault) ended never brings holds ends =
    subst (λ o. LivePerforms (Ok (works_traces name job)) shelf shelf' base o ended) (sym ends.2) (live_fault fault ended brings holds ends.1 ends.0)
live_done {job} {has} {name} {shelf} {shelf'} {base} {out} {traces} out' parts.ReadFailed ended never brings holds ends =
    let is = brings.0 in
    subst (λ o. LivePerforms (Ok (works_traces name job)) shelf shelf' base o ended) (sym ends.1)
    (subst (λ e. LivePerforms (Ok (works_traces name job)) shelf shelf' base out e) (sym ends.0)
    (inl (stream_unread (streaming job name shelf base out is.fed traces [] is.front_of (all_of (closed is.fed) traces is.are) (held_front holds) holds.faults_are) brings.1)))
live_done {job} {has} {name} {shelf} {shelf'} {base} {out} {traces} out' parts.NoMemory ended never brings holds ends =
    subst (λ o. LivePerforms (Ok (works_traces name job)) shelf shelf' base o ended) (sym ends.1)
    (subst (λ e. LivePerforms (Ok (works_traces name job)) shelf shelf' base out e) (sym ends.0)
    (live_stopped job name shelf shelf' base out traces parts.NoMemory NoMemory never brings (held_front holds, holds.faults_are)))
