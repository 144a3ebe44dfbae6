-- The loop over the points of a fragment.
use Rattle.std.proofs.Common.{◌≡◌, ℕ, ◌+◌, ◌<◌, ◌≤◌, ◌^◌, List, [], ◌∷◌, ◌++◌, Result, Ok, Err, IsErr, get_or, sym, ap, ◌∙◌, subst, arith, length, map, take, drop}
use Rattle.std.specs.List.{All}
use Rattle.std.proofs.lemmas.List.{append_assoc, get_or_default, length-map, length-take-le, map-append, take-append-drop, take_all, take_more}
use Rattle.std.proofs.lemmas.List.Elements.{All-map, All-take}
use Rattle.polyline_geometry.specs.Plane.{InRange}
use Rattle.cost_model.specs.declared.params.Params.{Params}
use Rattle.cost_model.specs.Options.{IsAccepted}
use Rattle.bounded_table.specs.Rows.{RowsState, AreRowsOf}
use Rattle.bounded_table.proofs.Asking.{still_of}
use Rattle.trace_reader.specs.declared.trace.Fix.{Fix}
use Rattle.trace_reader.specs.Trace.{IsLawfulTrace, point_of_fix}
use Rattle.trace_reader.specs.declared.trace.Trace.{Trace}
use Rattle.trace_sessions.specs.declared.sessions.SessionFault.{SessionFault}
use Rattle.trace_sessions.specs.Sessions.{RepresentsPairs, Pair, SessionsState}
use Rattle.trace_sessions.specs.StreamText.{Point, fragment_points, with_points}
use Rattle.trace_sessions.specs.Streaming.{AsksStream, CanStream, Streams, TakesPoints}
use Rattle.trace_sessions.proofs.StreamLines.{told-few}
use Rattle.trace_sessions.proofs.StreamPoints.{fixes_in-behind}
use Rattle.trace_sessions.proofs.StreamTakes.{asks-no-points, asks-then, asks-wider, lawful-behind, none-taken, refused-then, takes-then}

-- ---- the loop over the points of a fragment

-- its first i points
abbrev pub first_points : Trace → ℕ → List Point
first_points trace i = map (λ fix. (trace.id, fix)) (take i trace.fixes)

-- they were taken
pub record HasStreamed (s0 s : SessionsState) (trace : Trace) (i : ℕ) (t0 t : List ℕ) (rows0 rows : RowsState) (pieces : ℕ) : Type 0 where
  pub takes : (pairs : List Pair) → RepresentsPairs s0 pairs → TakesPoints s0 pairs (first_points trace i) s t0 t pieces
  pub asks : AsksStream {A = ℕ} {E = SessionFault} s0 (first_points trace i) rows0 (Ok pieces) rows

pub none-streamed : (s : SessionsState) (trace : Trace) (t : List ℕ) (rows : RowsState) → HasStreamed s s trace 0 t t rows rows 0
none-streamed s trace t rows = record {
  takes = λ pairs h. none-taken s pairs t h;
  asks = asks-no-points {A = ℕ} {E = SessionFault} s rows (Ok 0);
}

pub next-points : (trace : Trace) (fixes : List Fix) (i : ℕ) (d : Fix) → fixes ≡ trace.fixes → i < length fixes
    → first_points trace (i + 1) ≡ first_points trace i ++ (trace.id, get_or fixes i d) ∷ []
next-points trace fixes i d all low =
    let fix = get_or fixes i d in
    let within : i < length trace.fixes = subst (λ (fs : List Fix). i < length fs) all low in
    let here : fix ≡ get_or trace.fixes i fix = get_or_default fixes i d fix low ∙ ap (λ (fs : List Fix). get_or fs i fix) all in
    let mark : Fix → Point = λ f. (trace.id, f) in
    ap (map mark) (take_more trace.fixes i fix within ∙ ap (λ f. take i trace.fixes ++ f ∷ []) (sym here)) ∙ map-append mark (take i trace.fixes) (fix ∷ [])

-- and those behind it
pub points-parts : (trace : Trace) (fixes : List Fix) (i : ℕ) (d : Fix) → fixes ≡ trace.fixes → i < length fixes
    → first_points trace i ++ ((trace.id, get_or fixes i d) ∷ [] ++ map (λ fix. (trace.id, fix)) (drop (i + 1) trace.fixes)) ≡ fragment_points trace
points-parts trace fixes i d all low =
    let mark : Fix → Point = λ f. (trace.id, f) in
    let rest = map mark (drop (i + 1) trace.fixes) in
    sym (append_assoc (first_points trace i) ((trace.id, get_or fixes i d) ∷ []) rest)
    ∙ ap (λ ps. ps ++ rest) (sym (next-points trace fixes i d all low))
    ∙ sym (map-append mark (take (i + 1) trace.fixes) (drop (i + 1) trace.fixes))
    ∙ ap (map mark) (take-append-drop (i + 1) trace.fixes)

pub all-points : (trace : Trace) (fixes : List Fix) (i : ℕ) → fixes ≡ trace.fixes → length fixes ≤ i → first_points trace i ≡ fragment_points trace
all-points trace fixes i all over = ap (map (λ fix. (trace.id, fix))) (take_all i trace.fixes (subst (λ (fs : List Fix). length fs ≤ i) all over))

pub places-of : (trace : Trace) (i : ℕ) → IsLawfulTrace trace → All (λ (x : Point). InRange (point_of_fix x.1)) (first_points trace i)
places-of trace i lawful =
    All-map (λ (x : Point). InRange (point_of_fix x.1)) (λ (fix : Fix). (trace.id, fix)) (take i trace.fixes) (All-take (λ (fix : Fix). InRange (point_of_fix fix)) i trace.fixes lawful.in_range)

pub streamed-can : (s0 s : SessionsState) (trace : Trace) (fixes : List Fix) (i : ℕ) (t0 t : List ℕ) (rows0 rows : RowsState) (pieces : ℕ) → fixes ≡ trace.fixes → i < length fixes → IsLawfulTrace trace
    → CanStream s0 (length trace.fixes) → HasStreamed s0 s trace i t0 t rows0 rows pieces → CanStream s 1
streamed-can s0 s trace fixes i t0 t rows0 rows pieces all low lawful can has =
    let takes = has.takes can.pairs can.keeps in
    let within : i < length trace.fixes = subst (λ (fs : List Fix). i < length fs) all low in
    let count = length-map {B = Point} (take i trace.fixes) (λ (fix : Fix). (trace.id, fix)) in
    let short = length-take-le i trace.fixes (omega (arith, within)) in
    let sum = fixes_in-behind can.pairs (first_points trace i) in
    let few = can.few in
    record {
      pairs = with_points can.pairs (first_points trace i);
      keeps = takes.stands;
      lawful = lawful-behind can.pairs (first_points trace i) can.lawful (places-of trace i lawful) takes.room;
      few = omega (arith, few, sum, count, short, within);
    }

pub streamed-rows : (s0 s : SessionsState) (trace : Trace) (i more : ℕ) (t0 t : List ℕ) (rows0 rows : RowsState) (pieces : ℕ) → CanStream s0 more → AreRowsOf rows0 s0.network s0.params.bound
    → HasStreamed s0 s trace i t0 t rows0 rows pieces → AreRowsOf rows s.network s.params.bound
streamed-rows s0 s trace i more t0 t rows0 rows pieces can are has =
    let takes = has.takes can.pairs can.keeps in
    let still = still_of has.asks.keeps are in
    record { network = still.network ∙ sym takes.network; bound = still.bound ∙ sym (ap (λ (q : Params). q.bound) takes.params) }

-- one point more
pub streamed-next : (s0 s1 s2 : SessionsState) (trace : Trace) (fixes : List Fix) (i : ℕ) (d : Fix) (more : ℕ) (t0 t1 t2 : List ℕ) (r0 r1 r2 : RowsState) (pieces count : ℕ) (result : Result ℕ SessionFault)
    → fixes ≡ trace.fixes → i < length fixes → CanStream s0 more → HasStreamed s0 s1 trace i t0 t1 r0 r1 pieces
    → ((pairs : List Pair) → RepresentsPairs s1 pairs → Streams s1 pairs ((trace.id, get_or fixes i d) ∷ []) s2 t1 t2 result)
    → AsksStream s1 ((trace.id, get_or fixes i d) ∷ []) r1 result r2 → result ≡ Ok count
    → HasStreamed s0 s2 trace (i + 1) t0 t2 r0 r2 (pieces + count)
streamed-next s0 s1 s2 trace fixes i d more t0 t1 t2 r0 r1 r2 pieces count result all low can has streams asks is =
    let point = (trace.id, get_or fixes i d) ∷ [] in
    let next = next-points trace fixes i d all low in
    let begun = has.takes can.pairs can.keeps in
    record {
      takes = λ pairs h.
          let one = has.takes pairs h in
          let two = subst (Streams s1 (with_points pairs (first_points trace i)) point s2 t1 t2) is (streams (with_points pairs (first_points trace i)) one.stands) in
          subst (λ ps. TakesPoints s0 pairs ps s2 t0 t2 (pieces + count)) (sym next) (takes-then s0 s1 s2 pairs (first_points trace i) point t0 t1 t2 pieces count one two);
      asks = subst (λ ps. AsksStream {A = ℕ} {E = SessionFault} s0 ps r0 (Ok (pieces + count)) r2) (sym next)
          (told-ok (asks-then {B = ℕ} {F = SessionFault} {x = pieces} s0 s1 (first_points trace i) point r0 r1 r2 (Ok count) begun.network begun.params (λ pairs h. (has.takes pairs h).stands) has.asks
          (subst (λ r. AsksStream s1 point r1 r r2) is asks)));
    }
  where
    told-ok : AsksStream {A = ℕ} {E = SessionFault} s0 (first_points trace i ++ (trace.id, get_or fixes i d) ∷ []) r0 (Ok count) r2
        → AsksStream {A = ℕ} {E = SessionFault} s0 (first_points trace i ++ (trace.id, get_or fixes i d) ∷ []) r0 (Ok (pieces + count)) r2
    told-ok asks = record { keeps = asks.keeps; only = asks.only; all = asks.all }

-- the number of pieces stays in its range
pub streamed-few : (s0 s2 : SessionsState) (trace : Trace) (fixes : List Fix) (i : ℕ) (t0 t2 : List ℕ) (r0 r2 : RowsState) (pieces : ℕ) → fixes ≡ trace.fixes → i < length fixes
    → IsAccepted s0.params → IsLawfulTrace trace → CanStream s0 (length trace.fixes) → HasStreamed s0 s2 trace (i + 1) t0 t2 r0 r2 pieces → pieces < 2 ^ 62
streamed-few s0 s2 trace fixes i t0 t2 r0 r2 pieces all low accepted lawful can has =
    let takes = has.takes can.pairs can.keeps in
    let points = first_points trace (i + 1) in
    let within : i < length trace.fixes = subst (λ (fs : List Fix). i < length fs) all low in
    let most = told-few s0.network s0.params (with_points can.pairs points) accepted (lawful-behind can.pairs points can.lawful (places-of trace (i + 1) lawful) takes.room) in
    let count = length-map {B = Point} (take (i + 1) trace.fixes) (λ (fix : Fix). (trace.id, fix)) in
    let short = length-take-le (i + 1) trace.fixes (omega (arith, within)) in
    let sum = fixes_in-behind can.pairs points in
    let few = can.few in
    let counted = takes.counted in
    omega (arith, few, sum, count, short, within, most, counted)

-- where a point was refused
pub streamed-refused : (s0 s1 s2 : SessionsState) (trace : Trace) (fixes : List Fix) (i : ℕ) (d : Fix) (t0 t1 t2 : List ℕ) (r0 r1 : RowsState) (pieces : ℕ) (fault : SessionFault) → fixes ≡ trace.fixes → i < length fixes
    → HasStreamed s0 s1 trace i t0 t1 r0 r1 pieces → ((pairs : List Pair) → RepresentsPairs s1 pairs → Streams s1 pairs ((trace.id, get_or fixes i d) ∷ []) s2 t1 t2 (Err fault))
    → (pairs : List Pair) → RepresentsPairs s0 pairs → Streams s0 pairs (fragment_points trace) s2 t0 t2 (Err fault)
streamed-refused s0 s1 s2 trace fixes i d t0 t1 t2 r0 r1 pieces fault all low has streams pairs h =
    let one = has.takes pairs h in
    subst (λ ps. Streams s0 pairs ps s2 t0 t2 (Err fault)) (points-parts trace fixes i d all low)
    (refused-then s0 s1 s2 pairs (first_points trace i) ((trace.id, get_or fixes i d) ∷ []) (map (λ fix. (trace.id, fix)) (drop (i + 1) trace.fixes)) t0 t1 t2 pieces fault one
    (streams (with_points pairs (first_points trace i)) one.stands))

pub refused-asks : (s0 s1 : SessionsState) (trace : Trace) (fixes : List Fix) (i : ℕ) (d : Fix) (more : ℕ) (t0 t1 : List ℕ) (r0 r1 r2 : RowsState) (pieces : ℕ) (result told : Result ℕ SessionFault)
    → fixes ≡ trace.fixes → i < length fixes → CanStream s0 more → HasStreamed s0 s1 trace i t0 t1 r0 r1 pieces → AsksStream s1 ((trace.id, get_or fixes i d) ∷ []) r1 result r2 → IsErr told
    → AsksStream s0 (fragment_points trace) r0 told r2
refused-asks s0 s1 trace fixes i d more t0 t1 r0 r1 r2 pieces result told all low can has asks failed =
    let begun = has.takes can.pairs can.keeps in
    let point = (trace.id, get_or fixes i d) ∷ [] in
    let rest = map (λ fix. (trace.id, fix)) (drop (i + 1) trace.fixes) in
    subst (λ ps. AsksStream s0 ps r0 told r2) (append_assoc (first_points trace i) point rest ∙ points-parts trace fixes i d all low)
    (asks-wider s0 (first_points trace i ++ point) rest r0 r2 result told
    (asks-then {B = ℕ} {F = SessionFault} {x = pieces} s0 s1 (first_points trace i) point r0 r1 r2 result begun.network begun.params (λ pairs h. (has.takes pairs h).stands) has.asks asks) failed)
