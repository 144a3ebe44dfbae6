-- The loop over fragments.
use Rattle.std.proofs.Common.{◌≡◌, ℕ, ◌+◌, ◌<◌, ◌≤◌, ◌^◌, List, [], ◌∷◌, ◌++◌, Result, Ok, Err, IsErr, refl, sym, ap, ◌∙◌, subst, arith, length, take, drop, get_or}
use Rattle.std.specs.List.{All}
use Rattle.std.proofs.lemmas.List.{append_assoc, append-nil, length-append, length-map, take-append-drop, take_more}
use Rattle.std.proofs.lemmas.List.Concat.{flat_map-append}
use Rattle.std.proofs.lemmas.List.Elements.{All-append, All-head, All-map, All-tail, All-take}
use Rattle.std.proofs.lemmas.List.Sums.{sum_by-cons}
use Rattle.cost_model.specs.Options.{IsAccepted}
use Rattle.polyline_geometry.specs.Plane.{InRange}
use Rattle.bounded_table.specs.Rows.{AreRowsOf, RowsState}
use Rattle.bounded_table.proofs.Asking.{still_of}
use Rattle.program_frame.specs.Jobs.{IsBounded, position_count}
use Rattle.program_frame.proofs.PointCounts.{points-append}
use Rattle.trace_reader.specs.Trace.{IsLawfulTrace, point_of_fix}
use Rattle.trace_reader.specs.declared.trace.Fix.{Fix}
use Rattle.trace_reader.specs.declared.trace.Trace.{Trace}
use Rattle.trace_sessions.specs.declared.sessions.SessionFault.{SessionFault}
use Rattle.trace_sessions.specs.Sessions.{RepresentsPairs, Pair, SessionsState}
use Rattle.trace_sessions.specs.StreamText.{Point, fragment_points, points_in, with_points}
use Rattle.trace_sessions.specs.Streaming.{AsksStream, CanStream, Streams, TakesPoints}
use Rattle.trace_sessions.proofs.StreamLines.{told-few}
use Rattle.trace_sessions.proofs.StreamPoints.{fixes_in-behind}
use Rattle.trace_sessions.proofs.StreamTakes.{asks-no-points, asks-then, asks-wider, lawful-behind, none-taken, refused-then, takes-then}
use Rattle.trace_match.proofs.Traces.{next_trace}

-- ---- points of fragments

pub points-length : (traces : List Trace) → length (points_in traces) ≡ position_count traces
points-length [] = refl
points-length (trace ∷ traces) =
    let one = length-map {B = Point} trace.fixes (λ fix. (trace.id, fix)) in
    let both : length (points_in (trace ∷ traces)) ≡ length (fragment_points trace) + length (points_in traces) = length-append (fragment_points trace) (points_in traces) in
    let sum = sum_by-cons (λ (t : Trace). length t.fixes) trace traces in
    let rest = points-length traces in
    omega (arith, one, both, sum, rest)

-- they lie in range
pub places-in : (traces : List Trace) → All IsLawfulTrace traces → All (λ (x : Point). InRange (point_of_fix x.1)) (points_in traces)
places-in [] lawful = λ i d lt. absurd (omega (arith, lt))
places-in (trace ∷ traces) lawful =
    let own : All (λ (x : Point). InRange (point_of_fix x.1)) (fragment_points trace) =
    All-map (λ (x : Point). InRange (point_of_fix x.1)) (λ (fix : Fix). (trace.id, fix)) trace.fixes (All-head IsLawfulTrace trace traces lawful).in_range in
    All-append (λ (x : Point). InRange (point_of_fix x.1)) (fragment_points trace) (points_in traces) own (places-in traces (All-tail IsLawfulTrace trace traces lawful))

-- the first of them have no more points
pub first-points : (traces : List Trace) (i : ℕ) → position_count (take i traces) ≤ position_count traces
first-points traces i =
    let all = ap position_count (take-append-drop i traces) in
    let parts = points-append (take i traces) (drop i traces) in
    omega (arith, all, parts)

-- one fragment more
pub next-fragment : (traces : List Trace) (i : ℕ) (trace : Trace) → i < length traces → trace ≡ get_or traces i trace → points_in (take (i + 1) traces) ≡ points_in (take i traces) ++ fragment_points trace
next-fragment traces i trace low is =
    ap points_in (take_more traces i trace low ∙ ap (λ t. take i traces ++ t ∷ []) (sym is))
    ∙ flat_map-append fragment_points (take i traces) (trace ∷ [])
    ∙ ap (λ ps. points_in (take i traces) ++ ps) (append-nil (fragment_points trace))

fragments-parts : (traces : List Trace) (i : ℕ) (trace : Trace) → i < length traces → trace ≡ get_or traces i trace
    → points_in (take i traces) ++ (fragment_points trace ++ points_in (drop (i + 1) traces)) ≡ points_in traces
fragments-parts traces i trace low is =
    sym (append_assoc (points_in (take i traces)) (fragment_points trace) (points_in (drop (i + 1) traces)))
    ∙ ap (λ ps. ps ++ points_in (drop (i + 1) traces)) (sym (next-fragment traces i trace low is))
    ∙ sym (flat_map-append fragment_points (take (i + 1) traces) (drop (i + 1) traces))
    ∙ ap points_in (take-append-drop (i + 1) traces)

-- ---- the loop

-- these fragments were taken
pub record HasTaken (s0 s : SessionsState) (traces : List Trace) (t0 t : List ℕ) (r0 r : RowsState) (pieces : ℕ) : Type 0 where
  pub takes : (pairs : List Pair) → RepresentsPairs s0 pairs → TakesPoints s0 pairs (points_in traces) s t0 t pieces
  pub asks : AsksStream {A = ℕ} {E = SessionFault} s0 (points_in traces) r0 (Ok pieces) r

pub no-fragments : (s : SessionsState) (t : List ℕ) (r : RowsState) → HasTaken s s [] t t r r 0
no-fragments s t r = record {
  takes = λ pairs h. none-taken s pairs t h;
  asks = asks-no-points {A = ℕ} {E = SessionFault} s r (Ok 0);
}

pub taken-rows : (s0 s : SessionsState) (traces : List Trace) (more : ℕ) (t0 t : List ℕ) (r0 r : RowsState) (pieces : ℕ) → CanStream s0 more → AreRowsOf r0 s0.network s0.params.bound
    → HasTaken s0 s traces t0 t r0 r pieces → AreRowsOf r s.network s.params.bound
taken-rows s0 s traces more t0 t r0 r pieces can are has =
    let takes = has.takes can.pairs can.keeps in
    let still = still_of has.asks.keeps are in
    record { network = still.network ∙ sym takes.network; bound = still.bound ∙ sym (ap (λ q. q.bound) takes.params) }

pub taken-next : (s0 s1 s2 : SessionsState) (traces : List Trace) (i : ℕ) (trace : Trace) (more : ℕ) (t0 t1 t2 : List ℕ) (r0 r1 r2 : RowsState) (pieces count : ℕ) (result : Result ℕ SessionFault)
    → i < length traces → trace ≡ get_or traces i trace → CanStream s0 more → HasTaken s0 s1 (take i traces) t0 t1 r0 r1 pieces
    → ((pairs : List Pair) → RepresentsPairs s1 pairs → Streams s1 pairs (fragment_points trace) s2 t1 t2 result) → AsksStream s1 (fragment_points trace) r1 result r2 → result ≡ Ok count
    → HasTaken s0 s2 (take (i + 1) traces) t0 t2 r0 r2 (pieces + count)
taken-next s0 s1 s2 traces i trace more t0 t1 t2 r0 r1 r2 pieces count result low at can has streams asks is =
    let front = points_in (take i traces) in
    let points = fragment_points trace in
    let next = next-fragment traces i trace low at in
    let begun = has.takes can.pairs can.keeps in
    let all = asks-then {B = ℕ} {F = SessionFault} {x = pieces} s0 s1 front points r0 r1 r2 (Ok count) begun.network begun.params (λ pairs h. (has.takes pairs h).stands) has.asks
    (subst (λ r. AsksStream s1 points r1 r r2) is asks) in
    record {
      takes = λ pairs h.
          let one = has.takes pairs h in
          let two = subst (Streams s1 (with_points pairs front) points s2 t1 t2) is (streams (with_points pairs front) one.stands) in
          subst (λ ps. TakesPoints s0 pairs ps s2 t0 t2 (pieces + count)) (sym next) (takes-then s0 s1 s2 pairs front points t0 t1 t2 pieces count one two);
      asks = subst (λ ps. AsksStream {A = ℕ} {E = SessionFault} s0 ps r0 (Ok (pieces + count)) r2) (sym next) (record { keeps = all.keeps; only = all.only; all = all.all });
    }

pub taken-refused : (s0 s1 s2 : SessionsState) (traces : List Trace) (i : ℕ) (trace : Trace) (t0 t1 t2 : List ℕ) (r0 r1 : RowsState) (pieces : ℕ) (fault : SessionFault) → i < length traces
    → trace ≡ get_or traces i trace → HasTaken s0 s1 (take i traces) t0 t1 r0 r1 pieces
    → ((pairs : List Pair) → RepresentsPairs s1 pairs → Streams s1 pairs (fragment_points trace) s2 t1 t2 (Err fault))
    → (pairs : List Pair) → RepresentsPairs s0 pairs → Streams s0 pairs (points_in traces) s2 t0 t2 (Err fault)
taken-refused s0 s1 s2 traces i trace t0 t1 t2 r0 r1 pieces fault low at has streams pairs h =
    let one = has.takes pairs h in
    let front = points_in (take i traces) in
    subst (λ ps. Streams s0 pairs ps s2 t0 t2 (Err fault)) (fragments-parts traces i trace low at)
    (refused-then s0 s1 s2 pairs front (fragment_points trace) (points_in (drop (i + 1) traces)) t0 t1 t2 pieces fault one (streams (with_points pairs front) one.stands))

pub taken-refused-asks : (s0 s1 : SessionsState) (traces : List Trace) (i : ℕ) (trace : Trace) (more : ℕ) (t0 t1 : List ℕ) (r0 r1 r2 : RowsState) (pieces : ℕ) (result told : Result ℕ SessionFault) → i < length traces
    → trace ≡ get_or traces i trace → CanStream s0 more → HasTaken s0 s1 (take i traces) t0 t1 r0 r1 pieces → AsksStream s1 (fragment_points trace) r1 result r2 → IsErr told
    → AsksStream s0 (points_in traces) r0 told r2
taken-refused-asks s0 s1 traces i trace more t0 t1 r0 r1 r2 pieces result told low at can has asks failed =
    let begun = has.takes can.pairs can.keeps in
    let front = points_in (take i traces) in
    let points = fragment_points trace in
    let rest = points_in (drop (i + 1) traces) in
    subst (λ ps. AsksStream s0 ps r0 told r2) (append_assoc front points rest ∙ fragments-parts traces i trace low at)
    (asks-wider s0 (front ++ points) rest r0 r2 result told
    (asks-then {B = ℕ} {F = SessionFault} {x = pieces} s0 s1 front points r0 r1 r2 result begun.network begun.params (λ pairs h. (has.takes pairs h).stands) has.asks asks) failed)

-- the next may follow
pub taken-can : (s0 s : SessionsState) (traces : List Trace) (i : ℕ) (trace : Trace) (t0 t : List ℕ) (r0 r : RowsState) (pieces : ℕ) → i < length traces → trace ≡ get_or traces i trace → IsBounded traces
    → CanStream s0 (position_count traces) → HasTaken s0 s (take i traces) t0 t r0 r pieces → CanStream s (length trace.fixes)
taken-can s0 s traces i trace t0 t r0 r pieces low at bounded can has =
    let takes = has.takes can.pairs can.keeps in
    let front = take i traces in
    let sum = fixes_in-behind can.pairs (points_in front) in
    let count = points-length front in
    let next : position_count (take (i + 1) traces) ≡ position_count front + position_count (trace ∷ []) = ap position_count (next_trace traces i trace low at) ∙ points-append front (trace ∷ []) in
    let one = sum_by-cons (λ (t : Trace). length t.fixes) trace [] in
    let most = first-points traces (i + 1) in
    let few = can.few in
    record {
      pairs = with_points can.pairs (points_in front);
      keeps = takes.stands;
      lawful = lawful-behind can.pairs (points_in front) can.lawful (places-in front (All-take IsLawfulTrace i traces bounded.lawful)) takes.room;
      few = omega (arith, few, sum, count, next, one, most);
    }

-- the number of pieces stays in its range
pub taken-few : (s0 s : SessionsState) (traces : List Trace) (i : ℕ) (t0 t : List ℕ) (r0 r : RowsState) (pieces : ℕ) → IsAccepted s0.params → IsBounded traces → CanStream s0 (position_count traces)
    → HasTaken s0 s (take i traces) t0 t r0 r pieces → pieces < 2 ^ 62
taken-few s0 s traces i t0 t r0 r pieces accepted bounded can has =
    let takes = has.takes can.pairs can.keeps in
    let front = take i traces in
    let points = points_in front in
    let lawful = lawful-behind can.pairs points can.lawful (places-in front (All-take IsLawfulTrace i traces bounded.lawful)) takes.room in
    let told = told-few s0.network s0.params (with_points can.pairs points) accepted lawful in
    let counted = takes.counted in
    let sum = fixes_in-behind can.pairs points in
    let count = points-length front in
    let most = first-points traces i in
    let few = can.few in
    omega (arith, told, counted, sum, count, most, few)
