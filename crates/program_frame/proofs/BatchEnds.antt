-- What the write of a batch leaves.
use Rattle.std.proofs.Common.{◌≡◌, ℕ, List, [], ◌++◌, length, Some, None, Result, Ok, Err, refl, sym, ◌∙◌, ap, subst, inl, inr, arith, append-nil, append_assoc}
use Rattle.std.specs.Io.KnownBytes.{Appends}
use Rattle.edge_io.specs.Sink.{AppendsPrefix, Rose}
use Rattle.edge_io.specs.State.{SinkState}
use Rattle.edge_io.proofs.KnownBytes.{appends_more, prefix_whole, prefix_longer, prefix_after}
use Rattle.trace_reader.specs.declared.trace.Trace.{Trace}
use Rattle.trace_reader.specs.declared.fault.TraceFault.{TraceFault}
use Rattle.program_frame.specs.Batches.{Holds, Later, with_later}
use Rattle.program_frame.specs.inside.BatchSteps.{PutsBefore}
use Rattle.program_frame.specs.Jobs.{CanTake, GrowsByTexts, IsBounded, JobText, TakesTraces, outcome_given_by, refused_behind, traces_give}
use Rattle.program_frame.specs.Outcome.{Outcome}
use Rattle.program_frame.specs.Performs.{FailsToPut}
use Rattle.program_frame.specs.inside.Refusing.{RefusesTraces}
use Rattle.program_frame.specs.Streams.{HasFront, StopsAs}
use Rattle.program_frame.specs.declared.stop.Refusal.{Refusal}
use Rattle.program_frame.specs.declared.stop.Refusal.TheVariants as refusals
use Rattle.program_frame.specs.declared.stop.Stop.{Stop}
use Rattle.program_frame.specs.declared.stop.Stop.TheVariants.{Refused, NoMemory, Unread, Unwritten}
use Rattle.program_frame.proofs.Giving.{out_begins, refused_later}

abbrev pub Has : Type 1
Has = List Trace → Type 0

-- a prefix of the text of the first traces is one of all that is expected
pub front_later : (job : JobText) (base out : SinkState) (traces ready left : List Trace) → traces ≡ ready ++ left → AppendsPrefix base.written out.written (job.texts ready) → HasFront Later (with_later job traces) base out
front_later job base out traces ready left are cut later =
    let begins = out_begins job ready (left ++ later.more) later.fault in
    let same : traces ++ later.more ≡ ready ++ (left ++ later.more) = ap (λ t. t ++ later.more) are ∙ append_assoc ready left later.more in
    let is : (with_later job traces later).out ≡ job.texts ready ++ begins.0 = ap (λ t. (traces_give job t later.fault).out) same ∙ begins.1 in
    subst (AppendsPrefix base.written out.written) (sym is) (prefix_longer base.written out.written (job.texts ready) begins.0 cut)

-- what was written is a part of all that is expected
pub held_front : {job : JobText} {has : Has} {base out : SinkState} {traces waiting : List Trace} → Holds job has base out traces waiting → HasFront Later (with_later job traces) base out
held_front {job} {has} {base} {out} {traces} {waiting} holds =
    front_later job base out traces holds.taken waiting holds.are (prefix_whole base.written out.written (job.texts holds.taken) holds.written)

-- all traces are taken or wait
all_front : {job : JobText} {has : Has} {base out : SinkState} {traces waiting : List Trace} → (holds : Holds job has base out traces waiting) → traces ≡ (holds.taken ++ waiting) ++ []
all_front holds = holds.are ∙ sym (append-nil _)

-- the text of the traces that waited is this
pub record Taken (job : JobText) (taken waiting : List Trace) (given : List ℕ) : Type 0 where
  pub is : job.texts (taken ++ waiting) ≡ job.texts taken ++ given

cut_front : {job : JobText} {has : Has} {base out : SinkState} {traces waiting : List Trace} (out' : SinkState) (given : List ℕ) → (holds : Holds job has base out traces waiting) → Taken job holds.taken waiting given → AppendsPrefix out.written out'.written given → HasFront Later (with_later job traces) base out'
cut_front {job} {has} {base} {out} {traces} {waiting} out' given holds took cut =
    front_later job base out' traces (holds.taken ++ waiting) [] (all_front holds) (subst (AppendsPrefix base.written out'.written) (sym took.is) (prefix_after base.written out.written out'.written (job.texts holds.taken) given holds.written cut))

-- the text was not put
pub unput : {job : JobText} {has : Has} {base out : SinkState} {traces waiting : List Trace} (out' : SinkState) (given : List ℕ) (stop : Stop) → (holds : Holds job has base out traces waiting) → Taken job holds.taken waiting given → FailsToPut out out' given stop → StopsAs Later (with_later job traces) base out' stop
unput out' given (Refused refusal line) holds took fails = absurd fails
unput out' given NoMemory holds took fails = (cut_front out' given holds took (0, fails.0), fails.1 ∙ holds.faults_are)
unput out' given (Unread file) holds took fails = absurd fails
unput {job} {has} {base} {out} out' given Unwritten holds took fails =
    (cut_front out' given holds took fails.0, subst (λ n. Rose n out'.faults) holds.faults_are fails.1)

whole_text : {job : JobText} {has : Has} {base out : SinkState} {traces waiting : List Trace} (out' : SinkState) (given : List ℕ) → (holds : Holds job has base out traces waiting) → Taken job holds.taken waiting given → Appends out.written out'.written given → Appends base.written out'.written (job.texts (holds.taken ++ waiting))
whole_text {job} {has} {base} {out} out' given holds took grown =
    subst (Appends base.written out'.written) (sym took.is) (appends_more base.written out.written out'.written (job.texts holds.taken) given holds.written grown)

-- all that waited was put
pub all_put : {job : JobText} {has : Has} {base out : SinkState} {traces waiting : List Trace} (has' : Has) (out' : SinkState) (given : List ℕ) (left : List Trace) → (holds : Holds job has base out traces waiting) → has' (holds.taken ++ waiting) → job.refusal (holds.taken ++ waiting) ≡ None → Taken job holds.taken waiting given → Appends out.written out'.written given → out'.faults ≡ out.faults → left ≡ [] → Holds job has' base out' traces left
all_put {job} {has} {base} {out} {traces} {waiting} has' out' given left holds had allowed took grown same none = record {
  taken = holds.taken ++ waiting;
  are = all_front holds ∙ ap (λ w. (holds.taken ++ waiting) ++ w) (sym none);
  had = had;
  allowed = allowed;
  written = whole_text out' given holds took grown;
  faults_are = same ∙ holds.faults_are;
  bounded = holds.bounded;
  few = let e : length left ≡ 0 = ap length none in omega (arith, e);
}

-- the job refuses these traces, and the text up to there was put
refused_put : {job : JobText} {has : Has} {base out : SinkState} {traces waiting : List Trace} (out' : SinkState) (given line : List ℕ) → (holds : Holds job has base out traces waiting) → job.refusal (holds.taken ++ waiting) ≡ Some line → Taken job holds.taken waiting given → Appends out.written out'.written given → out'.faults ≡ out.faults → StopsAs Later (with_later job traces) base out' (Refused refusals.Traces line)
refused_put {job} {has} {base} {out} {traces} {waiting} out' given line holds refused took grown same = record {
  text = job.texts traces;
  is = refused_later job traces line (ap job.refusal holds.are ∙ refused);
  written = subst (λ t. Appends base.written out'.written (job.texts t)) (sym holds.are) (whole_text out' given holds took grown);
  faults_are = same ∙ holds.faults_are;
  is_traces = refl;
}

same_kind : (X : Type 0) (expected : X → Outcome) (out out' : SinkState) (refusal : Refusal) (line : List ℕ) → refusal ≡ refusals.Traces → StopsAs X expected out out' (Refused refusals.Traces line) → StopsAs X expected out out' (Refused refusal line)
same_kind X expected out out' refusal line is stops = subst (λ r. StopsAs X expected out out' (Refused r line)) (sym is) stops

-- the job stopped in these traces
pub job_stops : {job : JobText} {has : Has} {base out : SinkState} {traces waiting : List Trace} (has' : Has) (out' : SinkState) (given : List ℕ) (stop ended : Stop) → (holds : Holds job has base out traces waiting) → TakesTraces job has' holds.taken waiting [] given (Err stop) → PutsBefore out out' given stop ended → StopsAs Later (with_later job traces) base out' ended
job_stops {job} {has} {base} {out} {traces} {waiting} has' out' given (Refused refusal line) ended holds takes (inl put) =
    subst (StopsAs Later (with_later job traces) base out') (sym put.0) (same_kind Later (with_later job traces) base out' refusal line takes.0 (refused_put out' given line holds takes.1 (record { is = takes.2.is ∙ ap (λ t. job.texts holds.taken ++ t) (sym takes.2.grown) }) put.1 put.2))
job_stops {job} {has} {base} {out} {traces} {waiting} has' out' given (Refused refusal line) ended holds takes (inr fails) =
    unput out' given ended holds (record { is = takes.2.is ∙ ap (λ t. job.texts holds.taken ++ t) (sym takes.2.grown) }) fails
job_stops {job} {has} {base} {out} {traces} {waiting} has' out' given NoMemory ended holds takes put =
    subst (StopsAs Later (with_later job traces) base out') (sym put.0) (subst (λ o. HasFront Later (with_later job traces) base o × (o.faults ≡ base.faults)) (sym put.1) (held_front holds, holds.faults_are))
job_stops has' out' given (Unread file) ended holds takes put = absurd takes
job_stops has' out' given Unwritten ended holds takes put = absurd takes

-- where none waits all are taken
pub all_taken : {job : JobText} {has : Has} {base out : SinkState} {traces waiting : List Trace} → (holds : Holds job has base out traces waiting) → waiting ≡ [] → traces ≡ holds.taken
all_taken holds none = holds.are ∙ ap (λ w. holds.taken ++ w) none ∙ append-nil _

-- a stop whatever comes later is one with this that comes
pub stops_with : {X : Type 0} (expected : X → Outcome) (base out : SinkState) (x : X) (outcome : Outcome) (stop : Stop) → expected x ≡ outcome → StopsAs X expected base out stop → StopsAs (Unit {0}) (λ _. outcome) base out stop
stops_with expected base out x outcome (Refused refusal line) is stops = record { text = stops.text; is = λ _. sym is ∙ stops.is x; written = stops.written; faults_are = stops.faults_are; is_traces = stops.is_traces }
stops_with expected base out x outcome NoMemory is stops = (λ _. subst (λ o. AppendsPrefix base.written out.written o.out) is (stops.0 x), stops.1)
stops_with expected base out x outcome (Unread file) is stops = absurd stops
stops_with expected base out x outcome Unwritten is stops = (λ _. subst (λ o. AppendsPrefix base.written out.written o.out) is (stops.0 x), stops.1)

-- and a stop whatever comes is one for each part of it
pub stops_for : {X Y : Type 0} (expected : X → Outcome) (wider : Y → Outcome) (base out : SinkState) (stop : Stop) → ((y : Y) → (x : X) × (wider y ≡ expected x)) → StopsAs X expected base out stop → StopsAs Y wider base out stop
stops_for expected wider base out (Refused refusal line) to stops = record { text = stops.text; is = λ y. (to y).1 ∙ stops.is (to y).0; written = stops.written; faults_are = stops.faults_are; is_traces = stops.is_traces }
stops_for expected wider base out NoMemory to stops = (λ y. subst (λ o. AppendsPrefix base.written out.written o.out) (sym (to y).1) (stops.0 (to y).0), stops.1)
stops_for expected wider base out (Unread file) to stops = absurd stops
stops_for expected wider base out Unwritten to stops = (λ y. subst (λ o. AppendsPrefix base.written out.written o.out) (sym (to y).1) (stops.0 (to y).0), stops.1)

-- after the write of all that waited: the file has this fault
pub refused_all : {job : JobText} {has : Has} {base out : SinkState} {traces waiting : List Trace} (fault : TraceFault) (stop : Stop) → Holds job has base out traces waiting → waiting ≡ [] → RefusesTraces fault stop → StopsAs (Unit {0}) (λ _. traces_give job traces (Some fault)) base out stop
refused_all {job} {has} {base} {out} {traces} fault (Refused refusal line) holds none refuses =
    let all = all_taken holds none in
    let allowed : job.refusal traces ≡ None = ap job.refusal all ∙ holds.allowed in
    same_kind (Unit {0}) (λ _. traces_give job traces (Some fault)) base out refusal line refuses.1 (record {
      text = job.texts traces;
      is = λ _. ap (λ r. outcome_given_by r (Some fault) (job.texts traces) (job.ending traces)) allowed ∙ ap (refused_behind (job.texts traces)) (sym refuses.2);
      written = subst (λ t. Appends base.written out.written (job.texts t)) (sym all) holds.written;
      faults_are = holds.faults_are;
      is_traces = refl;
    })
refused_all {job} {has} {base} {out} {traces} fault NoMemory holds none refuses =
    (λ _. subst (λ t. AppendsPrefix base.written out.written (traces_give job t (Some fault)).out) (append-nil traces) (held_front holds (record { more = []; fault = Some fault })), holds.faults_are)
refused_all fault (Unread file) holds none refuses = absurd refuses
refused_all fault Unwritten holds none refuses = absurd refuses

-- the job was handed the traces that waited, and this is its text
pub record Handed (job : JobText) (has has' : List Trace → Type 0) (waiting : List Trace) (given : List ℕ) (ended : Result (Unit {0}) Stop) : Type 0 where
  pub takes : (before : List Trace) → has before → IsBounded (before ++ waiting) → TakesTraces job has' before waiting [] given ended

pub handed : (job : JobText) (has has' : Has) (waiting slice : List Trace) (old text given : List ℕ) (ended : Result (Unit {0}) Stop) → slice ≡ waiting → old ≡ [] → given ≡ text → ((before : List Trace) → has before → IsBounded (before ++ slice) → TakesTraces job has' before slice old text ended) → Handed job has has' waiting given ended
handed job has has' waiting slice old text given ended same empty is takes = record {
  takes = λ before had bounded. subst (λ w. TakesTraces job has' before w [] given ended) same (subst (λ o. TakesTraces job has' before slice o given ended) empty (subst (λ t. TakesTraces job has' before slice old t ended) (sym is) (takes before had (subst (λ w. IsBounded (before ++ w)) (sym same) bounded))));
}

takes_held : {job : JobText} {has has' : Has} {base out : SinkState} {traces waiting : List Trace} {given : List ℕ} {ended : Result (Unit {0}) Stop} → Handed job has has' waiting given ended → (holds : Holds job has base out traces waiting) → TakesTraces job has' holds.taken waiting [] given ended
takes_held hand holds = hand.takes holds.taken holds.had (subst IsBounded holds.are holds.bounded)

taken_ok : {job : JobText} {taken waiting : List Trace} {given : List ℕ} → GrowsByTexts job taken waiting [] given → Taken job taken waiting given
taken_ok {job} {taken} grows = record { is = grows.is ∙ ap (λ t. job.texts taken ++ t) (sym grows.grown) }

-- the job can take all that waits
pub can_take : {job : JobText} {has : Has} {out : SinkState} {waiting slice : List Trace} → (base : SinkState) × (traces : List Trace) × Holds job has base out traces waiting → slice ≡ waiting → CanTake has slice
can_take {has = has} held same =
    let holds = held.2 in
    subst (CanTake has) (sym same) (holds.taken, holds.had, subst IsBounded holds.are holds.bounded, holds.few)

-- the text of all that waited was not put
pub write_unput : {job : JobText} {has : Has} {base out : SinkState} {traces waiting : List Trace} (has' : Has) (out' : SinkState) (given : List ℕ) (stop : Stop) → Handed job has has' waiting given (Ok tt) → Holds job has base out traces waiting → FailsToPut out out' given stop → StopsAs Later (with_later job traces) base out' stop
write_unput has' out' given stop hand holds fails = unput out' given stop holds (taken_ok (takes_held hand holds).2) fails

-- all that waited was written
pub write_done : {job : JobText} {has : Has} {base out : SinkState} {traces waiting : List Trace} (has' : Has) (out' : SinkState) (given : List ℕ) (left : List Trace) → Handed job has has' waiting given (Ok tt) → Holds job has base out traces waiting → Appends out.written out'.written given → out'.faults ≡ out.faults → left ≡ [] → Holds job has' base out' traces left × (left ≡ [])
write_done has' out' given left hand holds grown same none =
    let takes = takes_held hand holds in
    (all_put has' out' given left holds takes.0 takes.1 (taken_ok takes.2) grown same none, none)

-- the job stopped
pub write_stops : {job : JobText} {has : Has} {base out : SinkState} {traces waiting : List Trace} (has' : Has) (out' : SinkState) (given : List ℕ) (stop ended : Stop) → Handed job has has' waiting given (Err stop) → Holds job has base out traces waiting → PutsBefore out out' given stop ended → StopsAs Later (with_later job traces) base out' ended
write_stops has' out' given stop ended hand holds put = job_stops has' out' given stop ended holds (takes_held hand holds) put
