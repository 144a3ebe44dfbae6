-- What taking points of a stream leaves: one point, and more behind others.
use Rattle.std.proofs.Common.{◌≡◌, ◌⊎◌, inl, inr, ⊎_elim, ℕ, ◌+◌, ◌<◌, Bool, true, false, cond, List, [], ◌∷◌, ◌++◌, Some, None, Result, Ok, Err, OnOk, IsErr, refl, sym, ap, ◌∙◌, subst, arith, length, map, nat_eq}
use Rattle.std.specs.Prelude.{Contains}
use Rattle.std.specs.List.{All, concat, filter}
use Rattle.std.proofs.lemmas.Bool.Decides.{nat_tests}
use Rattle.std.proofs.lemmas.List.{append_assoc, append-nil, length-append, map-append}
use Rattle.std.proofs.lemmas.List.Elements.{All-head, All-tail, filter-append}
use Rattle.std.proofs.lemmas.List.Folds.{concat-append}
use Rattle.polyline_geometry.specs.Plane.{InRange}
use Rattle.bounded_table.specs.Rows.{RowsState}
use Rattle.bounded_table.proofs.Asking.{asks_nothing, keeps_itself, keeps_then, only_by, only_then}
use Rattle.trace_match.specs.Match.{layer_of}
use Rattle.trace_reader.specs.declared.trace.Fix.{Fix}
use Rattle.trace_reader.specs.Trace.{point_of_fix}
use Rattle.matching.specs.Layers.{trellis}
use Rattle.matching.proofs.CommittedValues.{whole}
use Rattle.online_commit.specs.Session.{AsksPoints, no_points_of, fed_position_count}
use Rattle.online_commit.proofs.Asking.{asks-more}
use Rattle.trace_sessions.specs.declared.sessions.SessionFault.{SessionFault}
use Rattle.trace_sessions.specs.declared.sessions.SessionFault.TheVariants.{Memory, NotOpen, TooLong}
use Rattle.trace_sessions.specs.ItemText.{AddsPrefix}
use Rattle.trace_sessions.specs.Sessions.{AsksFedTo, AsksFixes, RepresentsPairs, Pair, SessionsState, fixes_and, fixes_of, with_fix}
use Rattle.trace_sessions.specs.inside.SessionsInside.{session_at, session_in}
use Rattle.trace_sessions.specs.StreamText.{Point, fixes_among, full_id, has_room, stream_lines, with_points}
use Rattle.trace_sessions.specs.Streaming.{AreLawful, AsksAmong, AsksSome, AsksStream, Streams, TakesPoints, pieces_told}
use Rattle.trace_sessions.proofs.SessionFixes.{count_of, no-ok, opened-is, stands-in}
use Rattle.trace_sessions.proofs.StreamPoints.{fixes-behind, fixes-with, full-append, full-stays, lawful-insert, lines-append, taken-append, taken-stays, with-append}
use Rattle.trace_sessions.proofs.OnePointTaken.{add_assoc, lawful-with, layers, of_state}

-- ---- more points

-- and more behind them
pub takes-then : (s0 s1 s2 : SessionsState) (pairs : List Pair) (front back : List Point) (t0 t1 t2 : List ℕ) (k1 k2 : ℕ) → TakesPoints s0 pairs front s1 t0 t1 k1
    → TakesPoints s1 (with_points pairs front) back s2 t1 t2 k2 → TakesPoints s0 pairs (front ++ back) s2 t0 t2 (k1 + k2)
takes-then s0 s1 s2 pairs front back t0 t1 t2 k1 k2 one two =
    let n = s0.network in
    let p = s0.params in
    let next = with_points pairs front in
    let lines = stream_lines n p pairs front in
    let more = stream_lines n p next back in
    let told : pieces_told n p (with_points next back) ≡ pieces_told n p next + k2 =
    of_state (λ m q. pieces_told m q (with_points next back) ≡ pieces_told m q next + k2) one.network one.params two.counted in
    let all = with-append pairs front back in
    record {
      network = two.network ∙ one.network;
      params = two.params ∙ one.params;
      room = full-append pairs front back one.room ∙ two.room;
      stands = subst (RepresentsPairs s2) (sym all) two.stands;
      written =
          of_state (λ m q. t2 ≡ t1 ++ concat (stream_lines m q next back)) one.network one.params two.written
          ∙ ap (λ t. t ++ concat more) one.written
          ∙ append_assoc t0 (concat lines) (concat more)
          ∙ ap (λ t. t0 ++ t) (sym (concat-append lines more) ∙ ap concat (sym (lines-append n p pairs front back one.room)));
      counted = ap (pieces_told n p) all ∙ told ∙ ap (λ k. k + k2) one.counted ∙ add_assoc (pieces_told n p pairs) k1 k2;
    }

pub refused-then : (s0 s1 s2 : SessionsState) (pairs : List Pair) (front back rest : List Point) (t0 t1 t2 : List ℕ) (k : ℕ) (fault : SessionFault) → TakesPoints s0 pairs front s1 t0 t1 k
    → Streams s1 (with_points pairs front) back s2 t1 t2 (Err fault) → Streams s0 pairs (front ++ (back ++ rest)) s2 t0 t2 (Err fault)
refused-then s0 s1 s2 pairs front back rest t0 t1 t2 k Memory one two =
    let n = s0.network in
    let p = s0.params in
    let next = with_points pairs front in
    let whole = two.whole in
    let last = two.last in
    let lines = stream_lines n p pairs front in
    let more = stream_lines n p next whole in
    let cut : AddsPrefix (t1 ++ concat more) (concat (stream_lines n p (with_points next whole) last)) t2 =
    of_state (λ m q. AddsPrefix (t1 ++ concat (stream_lines m q next whole)) (concat (stream_lines m q (with_points next whole) last)) t2) one.network one.params two.written in
    let base : t1 ++ concat more ≡ t0 ++ concat (stream_lines n p pairs (front ++ whole)) =
    ap (λ t. t ++ concat more) one.written ∙ append_assoc t0 (concat lines) (concat more)
    ∙ ap (λ t. t0 ++ t) (sym (concat-append lines more) ∙ ap concat (sym (lines-append n p pairs front whole one.room))) in
    let behind : with_points next whole ≡ with_points pairs (front ++ whole) = sym (with-append pairs front whole) in
    let all : (front ++ whole) ++ last ≡ front ++ (whole ++ last) = append_assoc front whole last in
    record {
      whole = front ++ whole;
      last = last;
      left = two.left ++ rest;
      parts =
          ap (λ ps. front ++ (ps ++ rest)) two.parts
          ∙ ap (λ ps. front ++ ps) (append_assoc whole (last ++ two.left) rest ∙ ap (λ ps. whole ++ ps) (append_assoc last two.left rest))
          ∙ sym (append_assoc front whole (last ++ (two.left ++ rest)));
      one = two.one;
      network = two.network ∙ one.network;
      params = two.params ∙ one.params;
      room = ap (full_id pairs) all ∙ full-append pairs front (whole ++ last) one.room ∙ two.room;
      stands = subst (RepresentsPairs s2) (sym (ap (with_points pairs) all ∙ with-append pairs front (whole ++ last))) two.stands;
      written =
          subst (λ t. AddsPrefix t (concat (stream_lines n p (with_points pairs (front ++ whole)) last)) t2) base
          (subst (λ qs. AddsPrefix (t1 ++ concat more) (concat (stream_lines n p qs last)) t2) behind cut);
    }
refused-then s0 s1 s2 pairs front back rest t0 t1 t2 k (NotOpen id) one two = absurd two
refused-then s0 s1 s2 pairs front back rest t0 t1 t2 k (TooLong id) one two =
    let n = s0.network in
    let p = s0.params in
    let next = with_points pairs front in
    let lines = stream_lines n p pairs front in
    let more = stream_lines n p next back in
    let stays = full-stays n p next back rest id two.full in
    record {
      network = two.network ∙ one.network;
      params = two.params ∙ one.params;
      full = full-append pairs front (back ++ rest) one.room ∙ stays.0;
      stands = subst (RepresentsPairs s2) (sym (taken-append pairs front (back ++ rest) one.room ∙ taken-stays next back rest id two.full)) two.stands;
      written = of_state (λ m q. t2 ≡ t1 ++ concat (stream_lines m q next back)) one.network one.params two.written
          ∙ ap (λ t. t ++ concat more) one.written
          ∙ append_assoc t0 (concat lines) (concat more)
          ∙ ap (λ t. t0 ++ t)
          (sym (concat-append lines more)
          ∙ ap (λ ls. concat (lines ++ ls)) (sym stays.1)
          ∙ ap concat (sym (lines-append n p pairs front (back ++ rest) one.room)));
    }

-- no points yet
pub none-taken : (s : SessionsState) (pairs : List Pair) (text : List ℕ) → RepresentsPairs s pairs → TakesPoints s pairs [] s text text 0
none-taken s pairs text keeps = record {
  network = refl;
  params = refl;
  room = refl;
  stands = keeps;
  written = sym (append-nil text);
  counted = omega arith;
}

-- ---- what is asked for

fixes-own : (pairs : List Pair) (id : ℕ) (fix : Fix) → fixes_of (with_fix pairs id fix) id ≡ fixes_and pairs id fix
fixes-own pairs id fix =
    let own : nat_eq id id ≡ true = grind (arith, nat_tests) in
    fixes-with pairs id id fix ∙ ap (λ b. fixes_of pairs id ++ map (λ (y : Point). y.1) (cond b ((id, fix) ∷ []) [])) own

fixes-other : (pairs : List Pair) (id k : ℕ) (fix : Fix) → nat_eq id k ≡ false → fixes_of (with_fix pairs k fix) id ≡ fixes_of pairs id
fixes-other pairs id k fix other =
    fixes-with pairs id k fix ∙ ap (λ b. fixes_of pairs id ++ map (λ (y : Point). y.1) (cond b ((k, fix) ∷ []) [])) other ∙ append-nil (fixes_of pairs id)

-- more points ask for no less
fixes-grow : (s : SessionsState) (pairs : List Pair) (more : List Point) (id v : ℕ) → AsksFixes s (fixes_of pairs id) v → AsksFixes s (fixes_of (with_points pairs more) id) v
fixes-grow s pairs more id v asked =
    let n = s.network in
    let p = s.params in
    let later = fixes_among id more in
    let all : layers n p (fixes_of pairs id) ++ layers n p later ≡ layers n p (fixes_of (with_points pairs more) id) =
    sym (map-append (layer_of n p) (fixes_of pairs id) later) ∙ ap (layers n p) (sym (fixes-behind pairs more id)) in
    subst (λ ls. AsksPoints n p ls v) all (asks-more n p (layers n p (fixes_of pairs id)) (layers n p later) (whole (trellis n p) (layers n p (fixes_of pairs id))) v asked)

pub asks-grow : (s : SessionsState) (pairs : List Pair) (more : List Point) (v : ℕ) → AsksSome s pairs v → AsksSome s (with_points pairs more) v
asks-grow s pairs more v (id, asked) = (id, fixes-grow s pairs more id v asked)

pub among-some : (s : SessionsState) (pairs : List Pair) (points : List Point) (v : ℕ) → AsksAmong s pairs points v → AsksSome s (with_points pairs points) v
among-some s pairs points v (id, some, asked) = (id, asked)

among-count : (id : ℕ) (front back : List Point) → length (fixes_among id (front ++ back)) ≡ length (fixes_among id front) + length (fixes_among id back)
among-count id front back =
    let own = filter (λ (y : Point). nat_eq id y.0) front in
    let other = filter (λ (y : Point). nat_eq id y.0) back in
    let fix : Point → Fix = λ y. y.1 in
    ap (λ ps. length (map fix ps)) (filter-append (λ (y : Point). nat_eq id y.0) front back)
    ∙ ap length (map-append fix own other)
    ∙ length-append (map fix own) (map fix other)

among-front : (s : SessionsState) (pairs : List Pair) (front back : List Point) (v : ℕ) → AsksAmong s pairs front v → AsksAmong s pairs (front ++ back) v
among-front s pairs front back v (id, some, asked) =
    let count = among-count id front back in
    (id, omega (arith, some, count), subst (λ qs. AsksFixes s (fixes_of qs id) v) (sym (with-append pairs front back)) (fixes-grow s (with_points pairs front) back id v asked))

among-one : (id : ℕ) (fix : Fix) → length (fixes_among id ((id, fix) ∷ [])) ≡ 1
among-one id fix =
    let own : nat_eq id id ≡ true = grind (arith, nat_tests) in
    ap (λ b. length (map (λ (y : Point). y.1) (cond b ((id, fix) ∷ []) []))) own

point_all : (s : SessionsState) (pairs : List Pair) (id : ℕ) (fix : Fix) (v : ℕ) (K : Type 0) → (AsksFixes s (fixes_and pairs id fix) v → AsksFixes s (fixes_of pairs id) v ⊎ K)
    → AsksSome s (with_fix pairs id fix) v → AsksSome s pairs v ⊎ K
point_all s pairs id fix v K all (j, asked) = step (nat_eq j id) refl
  where
    step : (b : Bool) → nat_eq j id ≡ b → AsksSome s pairs v ⊎ K
    step true is =
        let same : j ≡ id = grind (arith, nat_tests) in
        ⊎_elim (λ old. inl (id, old)) (λ known. inr known)
        (all (subst (λ fixes. AsksFixes s fixes v) (ap (fixes_of (with_fix pairs id fix)) same ∙ fixes-own pairs id fix) asked))
    step false is = inl (j, subst (λ fixes. AsksFixes s fixes v) (fixes-other pairs j id fix is) asked)

pub point-asks : {A E B F : Type 0} (s : SessionsState) (id : ℕ) (fix : Fix) (rows new : RowsState) (result : Result A E) (told : Result B F) → AsksFedTo s id fix rows result new
    → ((P : Type 0) → OnOk result P → OnOk told P) → AsksStream s ((id, fix) ∷ []) rows told new
point-asks s id fix rows new result told asks on = record {
  keeps = asks.keeps;
  only = λ pairs h.
      let one = among-one id fix in
      only_by (asks.only pairs h) (λ v asked. (id, omega (arith, one), subst (λ fixes. AsksFixes s fixes v) (sym (fixes-own pairs id fix)) asked));
  all = on _ (on_ok result (λ all pairs v h asked. point_all s pairs id fix v (Contains new.known v) (all pairs v h) asked) asks.all);
}
  where
    on_ok : {A E : Type 0} {P Q : Type 0} (r : Result A E) → (P → Q) → OnOk r P → OnOk r Q
    on_ok (Ok x) f h = f h
    on_ok (Err e) f h = tt

-- of sessions of the same network and options
among-back : (s0 s1 : SessionsState) (pairs : List Pair) (front back : List Point) (v : ℕ) → s1.network ≡ s0.network → s1.params ≡ s0.params
    → AsksAmong s1 (with_points pairs front) back v → AsksAmong s0 pairs (front ++ back) v
among-back s0 s1 pairs front back v network params (id, some, asked) =
    let count = among-count id front back in
    let fixes = fixes_of (with_points (with_points pairs front) back) id in (
      id,
      omega (arith, some, count),
      subst (λ qs. AsksFixes s0 (fixes_of qs id) v) (sym (with-append pairs front back))
          (of_state (λ m q. AsksPoints m q (map (layer_of m q) fixes) v) network params asked),
    )

of_names : (s0 s1 : SessionsState) (pairs : List Pair) (v : ℕ) → s1.network ≡ s0.network → s1.params ≡ s0.params → AsksSome s1 pairs v → AsksSome s0 pairs v
of_names s0 s1 pairs v network params (id, asked) =
    (id, of_state (λ m q. AsksPoints m q (map (layer_of m q) (fixes_of pairs id)) v) network params asked)

to_names : (s0 s1 : SessionsState) (pairs : List Pair) (v : ℕ) → s1.network ≡ s0.network → s1.params ≡ s0.params → AsksSome s0 pairs v → AsksSome s1 pairs v
to_names s0 s1 pairs v network params (id, asked) =
    (id, of_state (λ m q. AsksPoints m q (map (layer_of m q) (fixes_of pairs id)) v) (sym network) (sym params) asked)

-- one part of the points after the other
pub asks-then : {A E B F : Type 0} {x : B} (s0 s1 : SessionsState) (front back : List Point) (r0 r1 r2 : RowsState) (result : Result A E) → s1.network ≡ s0.network → s1.params ≡ s0.params
    → ((pairs : List Pair) → RepresentsPairs s0 pairs → RepresentsPairs s1 (with_points pairs front)) → AsksStream {A = B} {E = F} s0 front r0 (Ok x) r1 → AsksStream s1 back r1 result r2
    → AsksStream s0 (front ++ back) r0 result r2
asks-then s0 s1 front back r0 r1 r2 result network params stands one two = record {
  keeps = keeps_then one.keeps two.keeps;
  only = λ pairs h.
      only_then (one.only pairs h) (two.only (with_points pairs front) (stands pairs h))
      (λ v either. ⊎_elim (λ asked. among-front s0 pairs front back v asked) (λ asked. among-back s0 s1 pairs front back v network params asked) either);
  all = on_ok result (λ all pairs v h asked.
      ⊎_elim
      (λ earlier. ⊎_elim (λ old. inl old) (λ known. inr (two.keeps.known v known)) (one.all pairs v h (of_names s0 s1 (with_points pairs front) v network params earlier)))
      (λ known. inr known)
      (all (with_points pairs front) v (stands pairs h) (to_names s0 s1 (with_points (with_points pairs front) back) v network params (subst (λ qs. AsksSome s0 qs v) (with-append pairs front back) asked))))
      two.all;
}
  where
    on_ok : {A E : Type 0} {P Q : Type 0} (r : Result A E) → (P → Q) → OnOk r P → OnOk r Q
    on_ok (Ok x) f h = f h
    on_ok (Err e) f h = tt

-- where it ended early, of more points
pub asks-wider : {A E B F : Type 0} (s : SessionsState) (front rest : List Point) (rows new : RowsState) (result : Result A E) (told : Result B F) → AsksStream s front rows result new → IsErr told
    → AsksStream s (front ++ rest) rows told new
asks-wider s front rest rows new result told asks failed = record {
  keeps = asks.keeps;
  only = λ pairs h. only_by (asks.only pairs h) (λ v asked. among-front s pairs front rest v asked);
  all = no-ok told _ failed;
}

pub asks-no-points : {A E : Type 0} (s : SessionsState) (rows : RowsState) (result : Result A E) → AsksStream s [] rows result rows
asks-no-points s rows result = record {
  keeps = keeps_itself rows;
  only = λ pairs h. asks_nothing rows _;
  all = on_any result (λ pairs v h asked. inl asked);
}
  where
    on_any : {A E : Type 0} {P : Type 0} (r : Result A E) → P → OnOk r P
    on_any (Ok x) h = h
    on_any (Err e) h = tt

-- pairs stay lawful
pub lawful-behind : (pairs : List Pair) (points : List Point) → AreLawful pairs → All (λ (x : Point). InRange (point_of_fix x.1)) points → full_id pairs points ≡ None → AreLawful (with_points pairs points)
lawful-behind pairs [] are places room = are
lawful-behind pairs (x ∷ more) are places room =
    step (has_room pairs x.0) refl room (λ low is. lawful-behind (with_fix pairs x.0 x.1) more
    (lawful-insert x.0 (fixes_and pairs x.0 x.1) pairs are (lawful-with pairs x.0 x.1 are (All-head (λ (y : Point). InRange (point_of_fix y.1)) x more places) low))
    (All-tail (λ (y : Point). InRange (point_of_fix y.1)) x more places) is)
  where
    step : (b : Bool) → has_room pairs x.0 ≡ b → cond b (full_id (with_fix pairs x.0 x.1) more) (Some x.0) ≡ None
        → (length (fixes_of pairs x.0) < 100_000 → full_id (with_fix pairs x.0 x.1) more ≡ None → AreLawful (with_points (with_fix pairs x.0 x.1) more)) → AreLawful (with_points (with_fix pairs x.0 x.1) more)
    step true is room more = more (let low : length (fixes_of pairs x.0) < 100_000 = grind (arith, nat_tests) in low) room
    step false is room more = absurd cc

-- how many points the session of an id has
pub points-in : (s : SessionsState) (pairs : List Pair) (id : ℕ) → RepresentsPairs s pairs → fed_position_count (session_in s id) ≡ length (fixes_of pairs id)
points-in s pairs id keeps =
    let d = no_points_of s.network s.params in
    count_of s.network s.params (session_at s.sessions id d) (fixes_of pairs id)
    (stands-in s.network s.params id s.sessions pairs d (opened-is s.network s.params d refl) (record { each = keeps.each; different = keeps.different }))
