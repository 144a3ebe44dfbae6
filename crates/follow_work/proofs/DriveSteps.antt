-- What is left of drives where one ends, and where one takes a position.
use Rattle.std.proofs.Common.{◌≡◌, ⊎_elim, ℕ, ◌+◌, ◌<◌, ◌^◌, Bool, true, false, cond, List, [], ◌∷◌, ◌++◌, Option, Some, None, Ok, Err, refl, sym, ap, ◌∙◌, subst, arith, length, map, nat_eq, unwrap_or}
use Rattle.std.specs.Prelude.{Contains, IsSome, is_some}
use Rattle.std.specs.List.{IsDistinct, concat, sum_by}
use Rattle.std.specs.Map.{keys_of, lookup, remove_entry}
use Rattle.std.proofs.lemmas.List.{append_assoc, append-nil, length-append}
use Rattle.std.proofs.lemmas.List.Elements.{All-cons, All-nil, All-push}
use Rattle.std.proofs.lemmas.List.Sums.{sum_by-append, sum_by-cons}
use Rattle.indexmap.specs.IndexMap.{insert_entry}
use Rattle.bounded_table.specs.Rows.{RowsState}
use Rattle.bounded_table.proofs.Asking.{still_of}
use Rattle.cost_model.specs.declared.params.Params.{Params}
use Rattle.online_commit.specs.Items.{handed}
use Rattle.online_commit.specs.Session.{AsksPoints}
use Rattle.polyline_geometry.specs.Plane.{InRange}
use Rattle.program_frame.specs.declared.total.Tally.{Tally}
use Rattle.road_network.specs.Net.{Net}
use Rattle.trace_match.specs.Match.{layer_of, match_of}
use Rattle.trace_match.specs.Setting.{Setting}
use Rattle.trace_reader.specs.Trace.{IsLawfulTrace, point_of_fix}
use Rattle.trace_reader.specs.declared.trace.Fix.{Fix}
use Rattle.trace_sessions.specs.declared.sessions.SessionFault.{SessionFault}
use Rattle.trace_sessions.specs.declared.sessions.SessionFault.TheVariants.{Memory, NotOpen, TooLong}
use Rattle.trace_sessions.specs.Following.{pieces_among}
use Rattle.trace_sessions.specs.Sessions.{AsksClosed, HasPair, RepresentsPairs, Pair, SessionsState, fixes_of, with_fix, without_pair}
use Rattle.trace_sessions.specs.StreamText.{Point, full_id, has_room, led_by, lines_at_end, lines_of_fix, stream_lines, trace_of}
use Rattle.trace_sessions.specs.Streaming.{AsksSome, AsksStream, CanStream, EndsId, EndsPair, EndsTrace, Streams, TakesPoints, pieces_told}
use Rattle.trace_sessions.proofs.StreamPoints.{fixes_in-with, one-full}
use Rattle.trace_sessions.proofs.StreamTakes.{among-some, asks-grow, lawful-behind}
use Rattle.follow_work.specs.inside.DrivesDone.{HasDrove}
use Rattle.follow_work.specs.inside.Times.{time_with}
use Rattle.follow_work.proofs.StreamTakes.{at-setting}
use Rattle.follow_work.proofs.StreamTotals.{asked-some, some-asks}
use Rattle.follow_work.proofs.DriveTimes.{times-with, times-without}
use Rattle.follow_work.proofs.DriveCounts.{Asks, asks-back, asks-cases, asks-front, asks-whole, asks-without, few-drives, few-told, lawful-found, lawful-without, sum-without}

-- ---- what open drives ask for

pub of-some : (on : Setting) (s : SessionsState) (drives : List Pair) (v : ℕ) → s.network ≡ on.network → s.params ≡ on.params → AsksSome s drives v → Asks on drives v
of-some on s drives v network params (id, asked) =
    some-asks on v drives id (at-setting (λ m q. AsksPoints m q (map (layer_of m q) (fixes_of drives id)) v) on s network params asked)

pub to-some : (on : Setting) (s : SessionsState) (drives : List Pair) (v : ℕ) → s.network ≡ on.network → s.params ≡ on.params → IsDistinct nat_eq (keys_of drives) → Asks on drives v → AsksSome s drives v
to-some on s drives v network params different is =
    let some = asked-some on v drives different is in (
      some.0,
      subst (λ m. AsksPoints m s.params (map (layer_of m s.params) (fixes_of drives some.0)) v) (sym network)
          (subst (λ q. AsksPoints on.network q (map (layer_of on.network q) (fixes_of drives some.0)) v) (sym params) some.1),
    )

-- ---- the counts stay in their ranges

pub record AreFew (tally : Tally) : Type 0 where
  pub traces : tally.traces < 2 ^ 62
  pub points : tally.points < 2 ^ 62
  pub pieces : tally.pieces < 2 ^ 62

pub counts-few : (on : Setting) (s : SessionsState) (times : List (ℕ × ℕ)) (rows : RowsState) (tally : Tally) (ended drives : List Pair) → HasDrove on s times rows tally ended drives → AreFew tally
counts-few on s times rows tally ended drives has =
    let some = few-drives ended has.ended_lawful in
    let told = few-told on.network on.params ended drives has.accepted has.ended_lawful has.lawful in
    let few = has.few in
    record {
      traces = omega (arith, few, has.traces_are, has.points_are, some);
      points = few;
      pieces = omega (arith, few, has.pieces_are, has.points_are, told);
    }

-- ---- a drive ends

found-of : (o : Option (List Fix)) → IsSome o → o ≡ Some (unwrap_or o [])
found-of None some = absurd (cc some)
found-of (Some fixes) some = refl

moved : (on : Setting) (v id : ℕ) (fixes : List Fix) (ended drives : List Pair) → lookup (nat_eq id) drives ≡ Some fixes → Asks on (ended ++ drives) v → Asks on ((ended ++ (id, fixes) ∷ []) ++ without_pair drives id) v
moved on v id fixes ended drives found asked =
    let rest = without_pair drives id in
    subst (λ ds. Asks on ds v) (sym (append_assoc ended ((id, fixes) ∷ []) rest))
    (⊎_elim
    (λ front. asks-front on ended ((id, fixes) ∷ rest) v front)
    (λ back. asks-back on ended ((id, fixes) ∷ rest) v (asks-without on v id fixes drives found back))
    (asks-cases on ended drives v asked))

unmoved : (on : Setting) (v id : ℕ) (fixes : List Fix) (ended drives : List Pair) → lookup (nat_eq id) drives ≡ Some fixes → Asks on ((ended ++ (id, fixes) ∷ []) ++ without_pair drives id) v → Asks on (ended ++ drives) v
unmoved on v id fixes ended drives found asked =
    let rest = without_pair drives id in
    ⊎_elim
    (λ front. asks-front on ended drives v front)
    (λ back. asks-back on ended drives v (asks-whole on v id fixes drives found back))
    (asks-cases on ended ((id, fixes) ∷ rest) v (subst (λ ds. Asks on ds v) (append_assoc ended ((id, fixes) ∷ []) rest) asked))

sum-push : (f : Pair → ℕ) (ended : List Pair) (x : Pair) → sum_by f (ended ++ x ∷ []) ≡ sum_by f ended + f x
sum-push f ended x =
    let one = sum_by-cons f x [] in
    let both = sum_by-append f ended (x ∷ []) in
    omega (arith, one, both)

pub drive-ended : (on : Setting) (s s' : SessionsState) (times times' : List (ℕ × ℕ)) (rows rows' : RowsState) (tally tally' : Tally) (ended drives : List Pair) (id pieces : ℕ) (text text' : List ℕ)
    → HasDrove on s times rows tally ended drives → EndsTrace {E = SessionFault} s drives id s' text text' (Ok pieces) → AsksClosed s id rows rows' → times' ≡ remove_entry (nat_eq id) times
    → tally'.traces ≡ tally.traces + 1 → tally'.points ≡ tally.points → tally'.pieces ≡ tally.pieces + pieces
    → HasDrove on s' times' rows' tally' (ended ++ (id, fixes_of drives id) ∷ []) (without_pair drives id)
drive-ended on s s' times times' rows rows' tally tally' ended drives id pieces text text' has ends asks left one same more =
    let n = on.network in
    let p = on.params in
    let fixes = fixes_of drives id in
    let x : Pair = (id, fixes) in
    let found = found-of (lookup (nat_eq id) drives) ends.was_open in
    let is : EndsPair n p x text text' pieces = at-setting (λ m q. EndsPair m q x text text' pieces) on s has.network has.params ends.ended in
    let own = is.counted in
    let count = sum-without (λ fs. length fs) id fixes drives found in
    let told = sum-without (λ fs. pieces_among (handed n p (map (layer_of n p) fs))) id fixes drives found in
    let counts = sum-push (λ (q : Pair). length q.1) ended x in
    let all = sum-push (λ (q : Pair). length (match_of n p (trace_of q)).pieces) ended x in
    let few = has.few in
    record {
      accepted = has.accepted;
      network = ends.network ∙ has.network;
      params = ends.params ∙ has.params;
      stands = ends.stands;
      times_are = left ∙ ap (remove_entry (nat_eq id)) has.times_are ∙ times-without id drives;
      ended_lawful = All-push (λ (q : Pair). IsLawfulTrace (trace_of q)) ended x has.ended_lawful (lawful-found id fixes drives has.lawful found);
      lawful = lawful-without id drives has.lawful;
      rows_are = still_of asks.keeps has.rows_are;
      asked = λ v. (
        λ now.
            ⊎_elim
            (λ old. moved on v id fixes ended drives found ((has.asked v).0 old))
            (λ asked. moved on v id fixes ended drives found (asks-back on ended drives v (of-some on s drives v has.network has.params (id, asked))))
            ((asks.only drives has.stands).nothing_else v now),
        λ asked. asks.keeps.known v ((has.asked v).1 (unmoved on v id fixes ended drives found asked)),
      );
      few = omega (arith, few, same);
      traces_are = omega (arith, one, has.traces_are, length-append ended (x ∷ []));
      points_are = omega (arith, same, has.points_are, count, counts);
      pieces_are = omega (arith, more, has.pieces_are, own, told, all);
    }

-- its pieces fit
pub end-few : (on : Setting) (s s' : SessionsState) (times : List (ℕ × ℕ)) (rows rows' : RowsState) (tally : Tally) (ended drives : List Pair) (id pieces : ℕ) (text text' : List ℕ)
    → HasDrove on s times rows tally ended drives → EndsTrace {E = SessionFault} s drives id s' text text' (Ok pieces) → AsksClosed s id rows rows' → tally.pieces + pieces < 2 ^ 62
end-few on s s' times rows rows' tally ended drives id pieces text text' has ends asks =
    let after : Tally = record { traces = tally.traces + 1; points = tally.points; pieces = tally.pieces + pieces } in
    (counts-few on s' (remove_entry (nat_eq id) times) rows' after (ended ++ (id, fixes_of drives id) ∷ []) (without_pair drives id)
    (drive-ended on s s' times (remove_entry (nat_eq id) times) rows rows' tally after ended drives id pieces text text' has ends asks refl refl refl refl)).pieces

-- and its last lines were written
pub end-written : (on : Setting) (s s' : SessionsState) (times : List (ℕ × ℕ)) (rows : RowsState) (tally : Tally) (ended drives : List Pair) (id pieces : ℕ) (text text' : List ℕ)
    → HasDrove on s times rows tally ended drives → EndsTrace {E = SessionFault} s drives id s' text text' (Ok pieces) → text' ≡ text ++ concat (lines_at_end on.network on.params (id, fixes_of drives id))
end-written on s s' times rows tally ended drives id pieces text text' has ends =
    let is : EndsPair on.network on.params (id, fixes_of drives id) text text' pieces = at-setting (λ m q. EndsPair m q (id, fixes_of drives id) text text' pieces) on s has.network has.params ends.ended in
    is.written

-- where it is open, only memory can be wanting
pub end-memory : (s s' : SessionsState) (drives : List Pair) (id : ℕ) (text text' : List ℕ) (fault : SessionFault) → HasPair drives id → EndsId s drives id s' text text' (Err fault) → fault ≡ Memory
end-memory s s' drives id text text' Memory some ends = refl
end-memory s s' drives id text text' (TooLong other) some ends = absurd ends
end-memory s s' drives id text text' (NotOpen other) some ends =
    let never : false ≡ true = sym (ap is_some ends.1.none) ∙ some in
    absurd (cc never)

-- the sessions may end one
pub can-end : (on : Setting) (s : SessionsState) (times : List (ℕ × ℕ)) (rows : RowsState) (tally : Tally) (ended drives : List Pair) → HasDrove on s times rows tally ended drives → CanStream s 0
can-end on s times rows tally ended drives has = record {
  pairs = drives;
  keeps = has.stands;
  lawful = has.lawful;
  few = (let few = has.few in let count = has.points_are in omega (arith, few, count));
}

-- ---- a drive takes a position

pub can-take : (on : Setting) (s : SessionsState) (times : List (ℕ × ℕ)) (rows : RowsState) (tally : Tally) (ended drives : List Pair) → HasDrove on s times rows tally ended drives → tally.points + 1 < 2 ^ 62 → CanStream s 1
can-take on s times rows tally ended drives has few = record {
  pairs = drives;
  keeps = has.stands;
  lawful = has.lawful;
  few = (let count = has.points_are in omega (arith, few, count));
}

lines-one : (n : Net) (p : Params) (drives : List Pair) (id : ℕ) (fix : Fix) → full_id drives ((id, fix) ∷ []) ≡ None
    → stream_lines n p drives ((id, fix) ∷ []) ≡ led_by id (lines_of_fix n p id (fixes_of drives id) fix)
lines-one n p drives id fix room = step (has_room drives id) room
  where
    own : List (List ℕ)
    own = led_by id (lines_of_fix n p id (fixes_of drives id) fix)

    step : (b : Bool) → cond b None (Some id) ≡ None → cond b (own ++ []) [] ≡ own
    step true is = append-nil own
    step false is = absurd (cc is)

some-more : (on : Setting) (s s' : SessionsState) (rows rows' : RowsState) (ended drives : List Pair) (id : ℕ) (fix : Fix) (pieces v : ℕ) → s.network ≡ on.network → s.params ≡ on.params → RepresentsPairs s drives
    → RepresentsPairs s' (with_fix drives id fix) → ((v : ℕ) → Contains rows.known v → Asks on (ended ++ drives) v) → AsksStream {A = ℕ} {E = SessionFault} s ((id, fix) ∷ []) rows (Ok pieces) rows'
    → Contains rows'.known v → Asks on (ended ++ with_fix drives id fix) v
some-more on s s' rows rows' ended drives id fix pieces v network params keeps keeps' knows asks now =
    let x : Point = (id, fix) in
    let after = with_fix drives id fix in
    ⊎_elim
    (λ old.
    ⊎_elim
    (λ front. asks-front on ended after v front)
    (λ back. asks-back on ended after v (of-some on s after v network params (asks-grow s drives (x ∷ []) v (to-some on s drives v network params keeps.different back))))
    (asks-cases on ended drives v (knows v old)))
    (λ asked. asks-back on ended after v (of-some on s after v network params (among-some s drives (x ∷ []) v asked)))
    ((asks.only drives keeps).nothing_else v now)

all-more : (on : Setting) (s s' : SessionsState) (rows rows' : RowsState) (ended drives : List Pair) (id : ℕ) (fix : Fix) (pieces v : ℕ) → s.network ≡ on.network → s.params ≡ on.params → RepresentsPairs s drives
    → RepresentsPairs s' (with_fix drives id fix) → ((v : ℕ) → Asks on (ended ++ drives) v → Contains rows.known v) → AsksStream {A = ℕ} {E = SessionFault} s ((id, fix) ∷ []) rows (Ok pieces) rows'
    → Asks on (ended ++ with_fix drives id fix) v → Contains rows'.known v
all-more on s s' rows rows' ended drives id fix pieces v network params keeps keeps' knows asks asked =
    let after = with_fix drives id fix in
    ⊎_elim
    (λ front. asks.keeps.known v (knows v (asks-front on ended drives v front)))
    (λ back.
    ⊎_elim
    (λ old. asks.keeps.known v (knows v (asks-back on ended drives v (of-some on s drives v network params old))))
    (λ known. known)
    (asks.all drives v keeps (to-some on s after v network params keeps'.different back)))
    (asks-cases on ended after v asked)

-- where there is room, only memory can be wanting
pub fix-memory : (s s' : SessionsState) (drives : List Pair) (id : ℕ) (fix : Fix) (text text' : List ℕ) (fault : SessionFault) → has_room drives id ≡ true → Streams s drives ((id, fix) ∷ []) s' text text' (Err fault) → fault ≡ Memory
fix-memory s s' drives id fix text text' Memory room streams = refl
fix-memory s s' drives id fix text text' (NotOpen other) room streams = absurd streams
fix-memory s s' drives id fix text text' (TooLong other) room streams =
    let full : None ≡ Some other = sym (one-full drives (id, fix) room) ∙ streams.full in
    absurd (cc full)

-- the pieces told so far fit
pub fix-few : (on : Setting) (s s' : SessionsState) (times : List (ℕ × ℕ)) (rows : RowsState) (tally : Tally) (ended drives : List Pair) (id : ℕ) (fix : Fix) (pieces : ℕ) (text text' : List ℕ)
    → HasDrove on s times rows tally ended drives → InRange (point_of_fix fix) → TakesPoints s drives ((id, fix) ∷ []) s' text text' pieces → tally.points + 1 < 2 ^ 62 → tally.pieces + pieces < 2 ^ 62
fix-few on s s' times rows tally ended drives id fix pieces text text' has place takes few =
    let after = with_fix drives id fix in
    let lawful = lawful-behind drives ((id, fix) ∷ []) has.lawful (All-cons (λ (y : Point). InRange (point_of_fix y.1)) (id, fix) [] place (All-nil (λ (y : Point). InRange (point_of_fix y.1)))) takes.room in
    let told = few-told on.network on.params ended after has.accepted has.ended_lawful lawful in
    let counted = at-setting (λ m q. pieces_told m q after ≡ pieces_told m q drives + pieces) on s has.network has.params takes.counted in
    let count = fixes_in-with drives id fix in
    omega (arith, few, told, counted, count, has.points_are, has.pieces_are)

-- and its lines were written
pub fix-written : (on : Setting) (s s' : SessionsState) (times : List (ℕ × ℕ)) (rows : RowsState) (tally : Tally) (ended drives : List Pair) (id : ℕ) (fix : Fix) (pieces : ℕ) (text text' : List ℕ)
    → HasDrove on s times rows tally ended drives → TakesPoints s drives ((id, fix) ∷ []) s' text text' pieces
    → text' ≡ text ++ concat (led_by id (lines_of_fix on.network on.params id (fixes_of drives id) fix))
fix-written on s s' times rows tally ended drives id fix pieces text text' has takes =
    at-setting (λ m q. text' ≡ text ++ concat (stream_lines m q drives ((id, fix) ∷ []))) on s has.network has.params takes.written
    ∙ ap (λ ls. text ++ concat ls) (lines-one on.network on.params drives id fix takes.room)

pub fix-taken : (on : Setting) (s s' : SessionsState) (times times' : List (ℕ × ℕ)) (rows rows' : RowsState) (tally tally' : Tally) (ended drives : List Pair) (id : ℕ) (fix : Fix) (pieces : ℕ) (text text' : List ℕ)
    → HasDrove on s times rows tally ended drives → InRange (point_of_fix fix) → TakesPoints s drives ((id, fix) ∷ []) s' text text' pieces
    → AsksStream {A = ℕ} {E = SessionFault} s ((id, fix) ∷ []) rows (Ok pieces) rows' → times' ≡ insert_entry nat_eq times id (time_with times id fix.time) → tally.points + 1 < 2 ^ 62
    → tally'.traces ≡ tally.traces → tally'.points ≡ tally.points + 1 → tally'.pieces ≡ tally.pieces + pieces
    → HasDrove on s' times' rows' tally' ended (with_fix drives id fix)
fix-taken on s s' times times' rows rows' tally tally' ended drives id fix pieces text text' has place takes asks noted few same one more =
    let after = with_fix drives id fix in
    let counted = at-setting (λ m q. pieces_told m q after ≡ pieces_told m q drives + pieces) on s has.network has.params takes.counted in
    let count = fixes_in-with drives id fix in
    record {
      accepted = has.accepted;
      network = takes.network ∙ has.network;
      params = takes.params ∙ has.params;
      stands = takes.stands;
      times_are = noted ∙ times-with times id fix drives has.times_are;
      ended_lawful = has.ended_lawful;
      lawful = lawful-behind drives ((id, fix) ∷ []) has.lawful (All-cons (λ (y : Point). InRange (point_of_fix y.1)) (id, fix) [] place (All-nil (λ (y : Point). InRange (point_of_fix y.1)))) takes.room;
      rows_are = still_of asks.keeps has.rows_are;
      asked = λ v. (
        λ now. some-more on s s' rows rows' ended drives id fix pieces v has.network has.params has.stands takes.stands (λ w k. (has.asked w).0 k) asks now,
        λ asked. all-more on s s' rows rows' ended drives id fix pieces v has.network has.params has.stands takes.stands (λ w k. (has.asked w).1 k) asks asked,
      );
      few = omega (arith, few, one);
      traces_are = same ∙ has.traces_are;
      points_are = omega (arith, one, has.points_are, count);
      pieces_are = omega (arith, more, has.pieces_are, counted);
    }
