-- The lines of the trace file, as they are written.
use Rattle.std.proofs.Common.{◌≡◌, ℕ, zero, suc, ◌+◌, ◌*◌, ◌<◌, ◌≤◌, List, [], ◌++◌, Result, Ok, Err, OnOk, refl, sym, ◌∙◌, ap, arith, append_assoc}
use Rattle.std.specs.List.{flat_map}
use Rattle.std.specs.declared.alloc.AllocError.{AllocError}
use Rattle.std.proofs.lemmas.List.{append-nil}
use Rattle.std.proofs.lemmas.List.Concat.{flat_map-append}
use Rattle.town.specs.Corners.{IsInTown, along, next_corner}
use Rattle.town.specs.Draws.{state_after}
use Rattle.town.specs.Traces.{fix_line, fix_near, start_corner, street_fixes, town_trace, town_trace_list, trace_lines, traces_from, walk_fixes, way_from}
use Rattle.town.specs.declared.corner.Corner.{Corner}
use Rattle.town.specs.declared.corner.Heading.{Heading}
use Rattle.town.specs.declared.corner.Spot.{Spot}
use Rattle.town.proofs.States.{states_then}

on_ok : (r : Result (Unit {0}) AllocError) {P : Type 0} → P → OnOk r P
on_ok (Ok done) p = p
on_ok (Err e) p = tt

pub street_joined : (id : ℕ) (c : Corner) (way : Heading) (x y : ℕ) (first second : Spot) (i j k : List ℕ) (r : Result (Unit {0}) AllocError)
    → first ≡ along c way 2_500 → second ≡ along c way 7_500
    → j ≡ i ++ fix_line id (fix_near first x) → y ≡ state_after 2 x → OnOk r (k ≡ j ++ fix_line id (fix_near second y))
    → OnOk r (k ≡ i ++ flat_map (fix_line id) (street_fixes c way x))
street_joined id c way x y first second i j k (Err e) one two before drawn after = tt
street_joined id c way x y first second i j k (Ok done) one two before drawn after =
    let a = fix_line id (fix_near (along c way 2_500) x) in
    let b = fix_line id (fix_near (along c way 7_500) (state_after 2 x)) in
    let front : j ≡ i ++ a = before ∙ ap (λ s. i ++ fix_line id (fix_near s x)) one in
    let back : k ≡ j ++ b = after ∙ ap (λ s. j ++ fix_line id (fix_near s y)) two ∙ ap (λ z. j ++ fix_line id (fix_near (along c way 7_500) z)) drawn in
    back ∙ ap (λ t. t ++ b) front ∙ append_assoc i a b ∙ ap (λ t. i ++ (a ++ t)) (sym (append-nil b))

pub street_drawn : (x y z : ℕ) (r : Result (Unit {0}) AllocError) → y ≡ state_after 2 x → z ≡ state_after 2 y → OnOk r (z ≡ state_after 4 x)
street_drawn x y z r one two = on_ok r (two ∙ ap (state_after 2) one ∙ states_then 2 2 x)

-- so many streets of a trace are written, and the walk has come to this corner and state: with the
-- lines of those that are left the text is the whole
pub record IsWalked (n id : ℕ) (whole : List ℕ) (last k : ℕ) (c : Corner) (x : ℕ) (text : List ℕ) : Type 0 where
  pub left : ℕ
  pub count : left + k ≡ 10
  pub rest : text ++ flat_map (fix_line id) (walk_fixes n left c x) ≡ whole
  pub after : state_after (5 * left) x ≡ last
  pub inside : IsInTown n c

pub walk_begun : (n id x y : ℕ) (c : Corner) (text : List ℕ) → c ≡ start_corner n x → y ≡ state_after 2 x → IsInTown n c
    → IsWalked n id (text ++ trace_lines (town_trace n id x)) (state_after 52 x) 0 c y text
walk_begun n id x y c text start drawn inside = record {
  left = 10;
  count = refl;
  rest = ap (λ d. text ++ flat_map (fix_line id) (walk_fixes n 10 d y)) start ∙ ap (λ z. text ++ flat_map (fix_line id) (walk_fixes n 10 (start_corner n x) z)) drawn;
  after = ap (state_after 50) drawn ∙ states_then 2 50 x;
  inside = inside;
}

walk_on : (left n id : ℕ) (whole : List ℕ) (last : ℕ) (c : Corner) (x : ℕ) (text : List ℕ) (way : Heading) (y z : ℕ) (d : Corner) (new : List ℕ)
    → text ++ flat_map (fix_line id) (walk_fixes n (suc left) c x) ≡ whole
    → way ≡ way_from n c x → y ≡ state_after 1 x → new ≡ text ++ flat_map (fix_line id) (street_fixes c way y) → z ≡ state_after 4 y → d ≡ next_corner c way
    → new ++ flat_map (fix_line id) (walk_fixes n left d z) ≡ whole
unfolding walk_fixes
walk_on left n id whole last c x text way y z d new before way_is y_is grown z_is d_is =
    let f = fix_line id in
    let w = way_from n c x in
    let here = street_fixes c w (state_after 1 x) in
    let later = walk_fixes n left (next_corner c w) (state_after 5 x) in
    let five : z ≡ state_after 5 x = z_is ∙ ap (state_after 4) y_is ∙ states_then 1 4 x in
    let grown_here : new ≡ text ++ flat_map f here = grown ∙ ap (λ v. text ++ flat_map f (street_fixes c v y)) way_is ∙ ap (λ u. text ++ flat_map f (street_fixes c w u)) y_is in
    let corner : d ≡ next_corner c w = d_is ∙ ap (next_corner c) way_is in
    ap (λ e. new ++ flat_map f (walk_fixes n left e z)) corner
    ∙ ap (λ u. new ++ flat_map f (walk_fixes n left (next_corner c w) u)) five
    ∙ ap (λ t. t ++ flat_map f later) grown_here
    ∙ append_assoc text (flat_map f here) (flat_map f later)
    ∙ ap (λ t. text ++ t) (sym (flat_map-append f here later))
    ∙ before

states_left : (left x y z last : ℕ) → y ≡ state_after 1 x → z ≡ state_after 4 y → state_after (5 * suc left) x ≡ last → state_after (5 * left) z ≡ last
states_left left x y z last y_is z_is before =
    let five : z ≡ state_after 5 x = z_is ∙ ap (state_after 4) y_is ∙ states_then 1 4 x in
    let count : 5 + 5 * left ≡ 5 * suc left = omega arith in
    ap (state_after (5 * left)) five ∙ states_then 5 (5 * left) x ∙ ap (λ i. state_after i x) count ∙ before

step_with : (left n id : ℕ) (whole : List ℕ) (last k : ℕ) (c : Corner) (x : ℕ) (text : List ℕ) (way : Heading) (y z : ℕ) (d : Corner) (new : List ℕ)
    → left + k ≡ 10 → text ++ flat_map (fix_line id) (walk_fixes n left c x) ≡ whole → state_after (5 * left) x ≡ last → k < 10
    → way ≡ way_from n c x → y ≡ state_after 1 x → new ≡ text ++ flat_map (fix_line id) (street_fixes c way y) → z ≡ state_after 4 y → d ≡ next_corner c way → IsInTown n d
    → IsWalked n id whole last (k + 1) d z new
step_with zero n id whole last k c x text way y z d new count rest after low way_is y_is grown z_is d_is inside = absurd (omega (arith, count, low))
step_with (suc left) n id whole last k c x text way y z d new count rest after low way_is y_is grown z_is d_is inside = record {
  left = left;
  count = omega (arith, count);
  rest = walk_on left n id whole last c x text way y z d new rest way_is y_is grown z_is d_is;
  after = states_left left x y z last y_is z_is after;
  inside = inside;
}

pub walk_more : (n id : ℕ) (whole : List ℕ) (last k : ℕ) (c : Corner) (x : ℕ) (text : List ℕ) (way : Heading) (y z : ℕ) (d : Corner) (new : List ℕ)
    → IsWalked n id whole last k c x text → k < 10
    → way ≡ way_from n c x → y ≡ state_after 1 x → new ≡ text ++ flat_map (fix_line id) (street_fixes c way y) → z ≡ state_after 4 y → d ≡ next_corner c way → IsInTown n d
    → IsWalked n id whole last (k + 1) d z new
walk_more n id whole last k c x text way y z d new before low way_is y_is grown z_is d_is inside =
    step_with before.left n id whole last k c x text way y z d new before.count before.rest before.after low way_is y_is grown z_is d_is inside

ended_with : (left n id : ℕ) (whole : List ℕ) (last k : ℕ) (c : Corner) (x : ℕ) (text : List ℕ) → left + k ≡ 10 → 10 ≤ k
    → text ++ flat_map (fix_line id) (walk_fixes n left c x) ≡ whole → state_after (5 * left) x ≡ last → (text ≡ whole) × (x ≡ last)
unfolding walk_fixes state_after
ended_with zero n id whole last k c x text count high rest after = (sym (append-nil text) ∙ rest, after)
ended_with (suc left) n id whole last k c x text count high rest after = absurd (omega (arith, count, high))

pub walk_ended : (n id : ℕ) (whole : List ℕ) (last k : ℕ) (c : Corner) (x : ℕ) (text : List ℕ) → IsWalked n id whole last k c x text → 10 ≤ k → (text ≡ whole) × (x ≡ last)
walk_ended n id whole last k c x text done high = ended_with done.left n id whole last k c x text done.count high done.rest done.after

-- so many traces are written: with the lines of those that are left the text is the whole
pub record AreTracesWritten (n t : ℕ) (whole : List ℕ) (id x : ℕ) (text : List ℕ) : Type 0 where
  pub left : ℕ
  pub count : left + id ≡ t
  pub rest : text ++ flat_map trace_lines (traces_from n left id x) ≡ whole

pub traces_begun : (n t seed : ℕ) (head base text : List ℕ) (x : ℕ) → base ≡ [] → text ≡ base ++ head → x ≡ seed
    → AreTracesWritten n t (head ++ flat_map trace_lines (town_trace_list n t seed)) 0 x text
traces_begun n t seed head base text x none is start = record {
  left = t;
  count = omega arith;
  rest = ap (λ b. b ++ flat_map trace_lines (traces_from n t 0 x)) (is ∙ ap (λ b. b ++ head) none) ∙ ap (λ y. head ++ flat_map trace_lines (traces_from n t 0 y)) start;
}

trace_on : (left n t : ℕ) (whole : List ℕ) (id x y : ℕ) (text new : List ℕ) → left + id ≡ t → id < t → text ++ flat_map trace_lines (traces_from n left id x) ≡ whole
    → new ≡ text ++ trace_lines (town_trace n id x) → y ≡ state_after 52 x → AreTracesWritten n t whole (id + 1) y new
unfolding traces_from
trace_on zero n t whole id x y text new count low rest grown drawn = absurd (omega (arith, count, low))
trace_on (suc left) n t whole id x y text new count low rest grown drawn =
    let one = trace_lines (town_trace n id x) in
    let later = flat_map trace_lines (traces_from n left (id + 1) (state_after 52 x)) in
    record {
      left = left;
      count = omega (arith, count);
      rest = ap (λ z. new ++ flat_map trace_lines (traces_from n left (id + 1) z)) drawn
          ∙ ap (λ b. b ++ later) grown
          ∙ append_assoc text one later
          ∙ rest;
    }

pub trace_more : (n t : ℕ) (whole : List ℕ) (id x y : ℕ) (text new : List ℕ) → AreTracesWritten n t whole id x text → id < t
    → new ≡ text ++ trace_lines (town_trace n id x) → y ≡ state_after 52 x → AreTracesWritten n t whole (id + 1) y new
trace_more n t whole id x y text new before low grown drawn = trace_on before.left n t whole id x y text new before.count low before.rest grown drawn

traces_over : (left n t : ℕ) (whole : List ℕ) (id x : ℕ) (text : List ℕ) → left + id ≡ t → t ≤ id → text ++ flat_map trace_lines (traces_from n left id x) ≡ whole → text ≡ whole
unfolding traces_from
traces_over zero n t whole id x text count high rest = sym (append-nil text) ∙ rest
traces_over (suc left) n t whole id x text count high rest = absurd (omega (arith, count, high))

pub traces_ended : (n t : ℕ) (whole : List ℕ) (id x : ℕ) (text : List ℕ) → AreTracesWritten n t whole id x text → t ≤ id → text ≡ whole
traces_ended n t whole id x text done high = traces_over done.left n t whole id x text done.count high done.rest
