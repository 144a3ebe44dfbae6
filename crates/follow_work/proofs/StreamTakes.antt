-- A job of `streams`, before its first trace and after more.
use Rattle.std.proofs.Common.{◌≡◌, ⊎_elim, ℕ, ◌+◌, List, [], ◌++◌, Some, None, Ok, Err, refl, sym, ap, ◌∙◌, subst, arith, length, length-append, map}
use Rattle.std.specs.Prelude.{Contains, option_map}
use Rattle.std.specs.List.{concat}
use Rattle.std.proofs.lemmas.List.Folds.{concat-append}
use Rattle.bounded_table.specs.Rows.{AreRowsOf, RowsState, no_rows}
use Rattle.bounded_table.proofs.Asking.{still_of}
use Rattle.cost_model.specs.Options.{IsAccepted}
use Rattle.cost_model.specs.declared.params.Params.{Params}
use Rattle.online_commit.specs.Session.{AsksPoints}
use Rattle.program_frame.specs.Jobs.{GrowsByTexts, IsBounded, TakesTraces, position_count}
use Rattle.program_frame.specs.Total.{AddsCounts, CountsFit}
use Rattle.program_frame.specs.declared.stop.Stop.{Stop}
use Rattle.program_frame.specs.declared.stop.Stop.TheVariants.{Refused, NoMemory, Unread, Unwritten}
use Rattle.program_frame.specs.declared.total.Tally.{Tally}
use Rattle.program_frame.proofs.Bounds.{lawful_back}
use Rattle.program_frame.proofs.PointCounts.{points-append as counts-append}
use Rattle.road_network.specs.Net.{Net}
use Rattle.trace_match.specs.Match.{layer_of}
use Rattle.trace_reader.specs.declared.trace.Trace.{Trace}
use Rattle.trace_sessions.specs.declared.sessions.SessionFault.{SessionFault}
use Rattle.trace_sessions.specs.declared.sessions.SessionFault.TheVariants.{Memory, NotOpen, TooLong}
use Rattle.trace_sessions.specs.Sessions.{RepresentsPairs, Pair, SessionsState, fixes_of}
use Rattle.trace_sessions.specs.StreamText.{full_id, points_in, stream_lines, with_points}
use Rattle.trace_sessions.specs.Streaming.{AreLawful, AsksSome, AsksStream, CanStream, Streams, TakesPoints, fixes_in, pieces_told}
use Rattle.trace_sessions.proofs.FollowedRows.{none_asked}
use Rattle.trace_sessions.proofs.StreamLines.{told-few}
use Rattle.trace_sessions.proofs.StreamPoints.{fixes_in-behind, full-append, lines-append, with-append}
use Rattle.trace_sessions.proofs.StreamTakes.{among-some, asks-grow, lawful-behind}
use Rattle.trace_match.specs.Setting.{Setting}
use Rattle.follow_work.specs.Streams.{pairs_in_order, streams_job, too_long_line}
use Rattle.follow_work.specs.inside.StreamsDone.{HasStreamed, KnowsSome, StopsAtFault}
use Rattle.follow_work.proofs.StreamJobs.{places-in, points-length}
use Rattle.follow_work.specs.StreamTexts.{points-append}

-- what holds of the network and the options of the sessions holds of those of the setting
pub at-setting : (P : Net → Params → Type 0) (on : Setting) (s : SessionsState) → s.network ≡ on.network → s.params ≡ on.params → P s.network s.params → P on.network on.params
at-setting P on s network params h = subst (λ m. P m on.params) network (subst (λ q. P s.network q) params h)

-- sessions of the same network and options ask for the same
pub asks-same : (s0 s1 : SessionsState) (pairs : List Pair) (v : ℕ) → s0.network ≡ s1.network → s0.params ≡ s1.params → AsksSome s0 pairs v → AsksSome s1 pairs v
asks-same s0 s1 pairs v network params (id, asked) = (
  id,
  subst (λ m. AsksPoints m s1.params (map (layer_of m s1.params) (fixes_of pairs id)) v) network
      (subst (λ q. AsksPoints s0.network q (map (layer_of s0.network q) (fixes_of pairs id)) v) params asked),
)

-- ---- before the first trace

pub no-node : (v : ℕ) (known : List ℕ) (T : Type 0) → known ≡ [] → Contains known v → T
no-node v known T none has = let low = has.1 in absurd (let e : length known ≡ 0 = ap length none in omega (arith, low, e))

pub nothing-asked : (on : Setting) (v : ℕ) (T : Type 0) → AsksPoints on.network on.params [] v → T
nothing-asked on v T asked = no-node v [] T refl ((none_asked on.network on.params (no_rows on.network on.params.bound)).all v asked)

pub begun : (on : Setting) (s : SessionsState) (rows : RowsState) (tally : Tally) → IsAccepted on.params → s.network ≡ on.network → s.params ≡ on.params → RepresentsPairs s []
    → rows ≡ no_rows on.network on.params.bound → tally.traces ≡ 0 → tally.points ≡ 0 → tally.pieces ≡ 0 → HasStreamed on s rows tally []
begun on s rows tally accepted network params stands fresh traces points pieces = record {
  accepted = accepted;
  few = omega arith;
  network = network;
  params = params;
  stands = stands;
  lawful = λ i d lt. absurd (omega (arith, lt));
  room = refl;
  rows_are = record { network = ap (λ r. r.network) fresh; bound = ap (λ r. r.bound) fresh };
  asked = λ v. (
    λ has. no-node v rows.known _ (ap (λ r. r.known) fresh) has,
    λ asked. nothing-asked on v _ (at-setting (λ m q. AsksPoints m q [] v) on s network params asked.1),
  );
  traces_are = traces;
  points_are = points;
  pieces_are = pieces;
}

-- ---- what more traces need

pub pairs-append : (before more : List Trace) → pairs_in_order (before ++ more) ≡ with_points (pairs_in_order before) (points_in more)
pairs-append before more = ap (with_points []) (points-append before more) ∙ with-append [] (points_in before) (points_in more)

-- the ids have as many fixes as the traces have points
pub pairs-count : (traces : List Trace) → fixes_in (pairs_in_order traces) ≡ position_count traces
pairs-count traces =
    let sum : fixes_in (pairs_in_order traces) ≡ 0 + length (points_in traces) = fixes_in-behind [] (points_in traces) in
    let count = points-length traces in
    omega (arith, sum, count)

room-append : (before more : List Trace) → full_id [] (points_in before) ≡ None → full_id [] (points_in (before ++ more)) ≡ full_id (pairs_in_order before) (points_in more)
room-append before more room = ap (full_id []) (points-append before more) ∙ full-append [] (points_in before) (points_in more) room

pub rows-are : (on : Setting) (s : SessionsState) (rows : RowsState) (tally : Tally) (taken : List Trace) → HasStreamed on s rows tally taken → AreRowsOf rows s.network s.params.bound
rows-are on s rows tally taken has = record {
  network = has.rows_are.network ∙ sym has.network;
  bound = has.rows_are.bound ∙ sym (ap (λ (q : Params). q.bound) has.params);
}

pub accepted-in : (on : Setting) (s : SessionsState) (rows : RowsState) (tally : Tally) (taken : List Trace) → HasStreamed on s rows tally taken → IsAccepted s.params
accepted-in on s rows tally taken has = subst IsAccepted (sym has.params) has.accepted

pub can-stream : (on : Setting) (s : SessionsState) (rows : RowsState) (tally : Tally) (before more : List Trace) → HasStreamed on s rows tally before → IsBounded (before ++ more) → CanStream s (position_count more)
can-stream on s rows tally before more has bounded = record {
  pairs = pairs_in_order before;
  keeps = has.stands;
  lawful = has.lawful;
  few =
      let few = bounded.few_points in
      let both = counts-append before more in
      let count = pairs-count before in
      omega (arith, few, both, count);
}

-- the counts of more traces fit
pub fits : (on : Setting) (s s' : SessionsState) (rows : RowsState) (tally : Tally) (before more : List Trace) (old new : List ℕ) (pieces : ℕ) → HasStreamed on s rows tally before → IsBounded (before ++ more)
    → TakesPoints s (pairs_in_order before) (points_in more) s' old new pieces → CountsFit more pieces tally
fits on s s' rows tally before more old new pieces has bounded takes =
    let few = bounded.few in
    let few_points = bounded.few_points in
    let both = counts-append before more in
    let all = with_points (pairs_in_order before) (points_in more) in
    let lawful = lawful-behind (pairs_in_order before) (points_in more) has.lawful (places-in more (lawful_back before more bounded.lawful)) takes.room in
    let most = told-few on.network on.params all has.accepted lawful in
    let counted = at-setting (λ m q. pieces_told m q all ≡ pieces_told m q (pairs_in_order before) + pieces) on s has.network has.params takes.counted in
    let sum = fixes_in-behind (pairs_in_order before) (points_in more) in
    let front = pairs-count before in
    let back = points-length more in
    let told = has.pieces_are in
    record {
      few = omega (arith, has.traces_are, few, length-append before more);
      few_points = omega (arith, has.points_are, few_points, both);
      few_pieces = omega (arith, most, counted, sum, front, back, told, few_points, both);
    }

-- ---- more traces were taken

asked-more : (s s' : SessionsState) (before more : List Trace) (rows rows' : RowsState) (pieces : ℕ) → s'.network ≡ s.network → s'.params ≡ s.params → RepresentsPairs s (pairs_in_order before)
    → KnowsSome s (pairs_in_order before) rows.known → AsksStream {A = ℕ} {E = SessionFault} s (points_in more) rows (Ok pieces) rows' → KnowsSome s' (pairs_in_order (before ++ more)) rows'.known
asked-more s s' before more rows rows' pieces network params keeps knows asks =
    let pairs = pairs_in_order before in
    let points = points_in more in
    subst (λ ps. KnowsSome s' ps rows'.known) (sym (pairs-append before more))
    (λ v. (
      λ has.
          asks-same s s' (with_points pairs points) v (sym network) (sym params)
          (⊎_elim (λ old. asks-grow s pairs points v ((knows v).0 old)) (λ asked. among-some s pairs points v asked) ((asks.only pairs keeps).nothing_else v has)),
      λ asked.
          ⊎_elim (λ old. asks.keeps.known v ((knows v).1 old)) (λ known. known)
          (asks.all pairs v keeps (asks-same s' s (with_points pairs points) v network params asked)),
    ))

pub streamed-more : (on : Setting) (s s' : SessionsState) (before more : List Trace) (rows rows' : RowsState) (tally tally' : Tally) (old new : List ℕ) (pieces : ℕ) → HasStreamed on s rows tally before
    → IsBounded (before ++ more) → TakesPoints s (pairs_in_order before) (points_in more) s' old new pieces → AsksStream {A = ℕ} {E = SessionFault} s (points_in more) rows (Ok pieces) rows' → AddsCounts more pieces tally tally'
    → HasStreamed on s' rows' tally' (before ++ more)
streamed-more on s s' before more rows rows' tally tally' old new pieces has bounded takes asks adds =
    let all = pairs-append before more in
    let both = counts-append before more in
    let counted = at-setting (λ m q. pieces_told m q (with_points (pairs_in_order before) (points_in more)) ≡ pieces_told m q (pairs_in_order before) + pieces) on s has.network has.params takes.counted in
    record {
      accepted = has.accepted;
      few = bounded.few_points;
      network = takes.network ∙ has.network;
      params = takes.params ∙ has.params;
      stands = subst (RepresentsPairs s') (sym all) takes.stands;
      lawful = subst AreLawful (sym all) (lawful-behind (pairs_in_order before) (points_in more) has.lawful (places-in more (lawful_back before more bounded.lawful)) takes.room);
      room = room-append before more has.room ∙ takes.room;
      rows_are = still_of asks.keeps has.rows_are;
      asked = asked-more s s' before more rows rows' pieces takes.network takes.params has.stands has.asked asks;
      traces_are = omega (arith, has.traces_are, adds.more, length-append before more);
      points_are = omega (arith, has.points_are, adds.more_points, both);
      pieces_are = adds.more_pieces ∙ ap (λ k. k + pieces) has.pieces_are ∙ sym counted ∙ ap (pieces_told on.network on.params) (sym all);
    }

-- and their lines were written
pub streamed-grows : (on : Setting) (s : SessionsState) (rows : RowsState) (tally : Tally) (before more : List Trace) (old new : List ℕ) → HasStreamed on s rows tally before
    → new ≡ old ++ concat (stream_lines s.network s.params (pairs_in_order before) (points_in more)) → GrowsByTexts (streams_job on) before more old new
streamed-grows on s rows tally before more old new has written =
    let n = on.network in
    let p = on.params in
    let more_lines = stream_lines n p (pairs_in_order before) (points_in more) in
    record {
      text = concat more_lines;
      grown = at-setting (λ m q. new ≡ old ++ concat (stream_lines m q (pairs_in_order before) (points_in more))) on s has.network has.params written;
      is =
          ap (λ ps. concat (stream_lines n p [] ps)) (points-append before more)
          ∙ ap concat (lines-append n p [] (points_in before) (points_in more) has.room)
          ∙ concat-append (stream_lines n p [] (points_in before)) more_lines;
    }

-- nothing is refused
pub not-refused : (on : Setting) (s s' : SessionsState) (rows : RowsState) (tally : Tally) (before more : List Trace) (old new : List ℕ) (pieces : ℕ) → HasStreamed on s rows tally before
    → TakesPoints s (pairs_in_order before) (points_in more) s' old new pieces → (streams_job on).refusal (before ++ more) ≡ None
not-refused on s s' rows tally before more old new pieces has takes = ap (option_map too_long_line) (room-append before more has.room ∙ takes.room)

-- or an id is too long
pub stopped : (on : Setting) (s s' : SessionsState) (rows : RowsState) (tally : Tally) (after : List Trace → Type 0) (before more : List Trace) (old new : List ℕ) (fault : SessionFault) (stop : Stop)
    → HasStreamed on s rows tally before → Streams s (pairs_in_order before) (points_in more) s' old new (Err fault) → StopsAtFault fault stop
    → TakesTraces (streams_job on) after before more old new (Err stop)
stopped on s s' rows tally after before more old new (TooLong id) (Refused refusal line) has streams stops = (
  stops.1,
  ap (option_map too_long_line) (room-append before more has.room ∙ streams.full) ∙ ap (λ l. Some l) (sym stops.2),
  streamed-grows on s rows tally before more old new has streams.written,
)
stopped on s s' rows tally after before more old new (NotOpen id) (Refused refusal line) has streams stops = absurd stops.0
stopped on s s' rows tally after before more old new Memory (Refused refusal line) has streams stops = absurd stops.0
stopped on s s' rows tally after before more old new fault NoMemory has streams stops = tt
stopped on s s' rows tally after before more old new fault (Unread file) has streams stops = absurd stops
stopped on s s' rows tally after before more old new fault Unwritten has streams stops = absurd stops
