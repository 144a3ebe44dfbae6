-- Points that follow those of pairs: the fixes of each id, the lines, and the first id without room.
use Rattle.std.proofs.Common.{◌≡◌, ℕ, ◌+◌, ◌≤◌, Bool, true, false, cond, List, [], ◌∷◌, ◌++◌, Option, Some, None, refl, sym, ap, ◌∙◌, arith, length, map, nat_eq, unwrap_or}
use Rattle.std.specs.List.{All, filter, sum_by}
use Rattle.std.specs.Map.{lookup}
use Rattle.std.proofs.lemmas.Bool.Decides.{nat_tests}
use Rattle.std.proofs.lemmas.List.{append_assoc, append-nil, length-append}
use Rattle.std.proofs.lemmas.List.Elements.{All-cons, All-head, All-tail}
use Rattle.std.proofs.lemmas.List.Sums.{sum_by-cons}
use Rattle.indexmap.specs.IndexMap.{insert_entry}
use Rattle.polyline_geometry.specs.Plane.{InRange}
use Rattle.cost_model.specs.declared.params.Params.{Params}
use Rattle.road_network.specs.Net.{Net}
use Rattle.trace_reader.specs.declared.trace.Fix.{Fix}
use Rattle.trace_reader.specs.Trace.{IsLawfulTrace, point_of_fix}
use Rattle.trace_sessions.specs.Sessions.{Pair, fixes_and, fixes_of, with_fix}
use Rattle.trace_sessions.specs.StreamText.{Point, fixes_among, full_id, has_room, led_by, lines_of_fix, stream_lines, trace_of, with_points, with_taken}
use Rattle.trace_sessions.specs.Streaming.{AreLawful, fixes_in}

-- ---- the fixes of an id

look_step : (id k : ℕ) (e : Pair) (fixes : List Fix) (rest : Option (List Fix)) (es ins : List Pair) (b : Bool) → nat_eq k e.0 ≡ b
    → lookup (nat_eq id) es ≡ rest → lookup (nat_eq id) ins ≡ cond (nat_eq id k) (Some fixes) rest
    → lookup (nat_eq id) (cond b ((e.0, fixes) ∷ es) (e ∷ ins)) ≡ cond (nat_eq id k) (Some fixes) (cond (nat_eq id e.0) (Some e.1) rest)
look_step id k e fixes rest es ins true same old new =
    let is : k ≡ e.0 = grind (arith, nat_tests) in
    ap (λ r. cond (nat_eq id e.0) (Some fixes) r) old ∙ both (nat_eq id e.0) ∙ ap (λ j. cond (nat_eq id j) (Some fixes) (cond (nat_eq id e.0) (Some e.1) rest)) (sym is)
  where
    both : (c : Bool) → cond c (Some fixes) rest ≡ cond c (Some fixes) (cond c (Some e.1) rest)
    both true = refl
    both false = refl
look_step id k e fixes rest es ins false other old new =
    ap (λ r. cond (nat_eq id e.0) (Some e.1) r) new ∙ apart (nat_eq id e.0) (nat_eq id k) refl refl
  where
    apart : (c d : Bool) → nat_eq id e.0 ≡ c → nat_eq id k ≡ d → cond c (Some e.1) (cond d (Some fixes) rest) ≡ cond d (Some fixes) (cond c (Some e.1) rest)
    apart true true one two = absurd (let f : false ≡ true = grind (arith, nat_tests) in cc)
    apart true false one two = refl
    apart false true one two = refl
    apart false false one two = refl

pub insert-lookup : (id k : ℕ) (fixes : List Fix) (es : List Pair) → lookup (nat_eq id) (insert_entry nat_eq es k fixes) ≡ cond (nat_eq id k) (Some fixes) (lookup (nat_eq id) es)
insert-lookup id k fixes [] = refl
insert-lookup id k fixes (e ∷ es) = look_step id k e fixes (lookup (nat_eq id) es) es (insert_entry nat_eq es k fixes) (nat_eq k e.0) refl refl (insert-lookup id k fixes es)

-- each id stands once, and has this property
abbrev pub Once : (ℕ → Type 0) → List Pair → Type 0
Once P [] = Unit {0}
Once P (e ∷ es) = P e.0 × (lookup (nat_eq e.0) es ≡ None) × Once P es

pub once-insert : (P : ℕ → Type 0) (k : ℕ) (v : List Fix) (es : List Pair) → P k → Once P es → Once P (insert_entry nat_eq es k v)
once-insert P k v [] has once = (has, refl, tt)
once-insert P k v (e ∷ es) has once = step (nat_eq k e.0) refl (once-insert P k v es has once.2)
  where
    step : (b : Bool) → nat_eq k e.0 ≡ b → Once P (insert_entry nat_eq es k v) → Once P (cond b ((e.0, v) ∷ es) (e ∷ insert_entry nat_eq es k v))
    step true is rest = once
    step false is rest =
        let other : nat_eq e.0 k ≡ false = grind (arith, nat_tests) in
        (once.0, insert-lookup e.0 k v es ∙ ap (λ b. cond b (Some v) (lookup (nat_eq e.0) es)) other ∙ once.1, rest)

fix_step : (pairs : List Pair) (id k : ℕ) (fix : Fix) (b : Bool) → nat_eq id k ≡ b
    → unwrap_or (cond b (Some (fixes_and pairs k fix)) (lookup (nat_eq id) pairs)) [] ≡ fixes_of pairs id ++ map (λ (x : Point). x.1) (cond b ((k, fix) ∷ []) [])
fix_step pairs id k fix true same =
    let is : id ≡ k = grind (arith, nat_tests) in
    ap (λ j. fixes_of pairs j ++ fix ∷ []) (sym is)
fix_step pairs id k fix false other = sym (append-nil (fixes_of pairs id))

-- the fixes of each id with one point more
pub fixes-with : (pairs : List Pair) (id k : ℕ) (fix : Fix) → fixes_of (with_fix pairs k fix) id ≡ fixes_of pairs id ++ fixes_among id ((k, fix) ∷ [])
fixes-with pairs id k fix = ap (λ o. unwrap_or o []) (insert-lookup id k (fixes_and pairs k fix) pairs) ∙ fix_step pairs id k fix (nat_eq id k) refl

among_step : (x : Point) (b : Bool) (more : List Point) → map (λ (y : Point). y.1) (cond b (x ∷ []) []) ++ map (λ (y : Point). y.1) more ≡ map (λ (y : Point). y.1) (cond b (x ∷ more) more)
among_step x true more = refl
among_step x false more = refl

-- and with more
pub fixes-behind : (pairs : List Pair) (points : List Point) (id : ℕ) → fixes_of (with_points pairs points) id ≡ fixes_of pairs id ++ fixes_among id points
fixes-behind pairs [] id = sym (append-nil (fixes_of pairs id))
fixes-behind pairs (x ∷ more) id =
    fixes-behind (with_fix pairs x.0 x.1) more id
    ∙ ap (λ fs. fs ++ fixes_among id more) (fixes-with pairs id x.0 x.1)
    ∙ append_assoc (fixes_of pairs id) (fixes_among id (x ∷ [])) (fixes_among id more)
    ∙ ap (λ fs. fixes_of pairs id ++ fs) (among_step x (nat_eq id x.0) (filter (λ (y : Point). nat_eq id y.0) more))

pub with-append : (pairs : List Pair) (front back : List Point) → with_points pairs (front ++ back) ≡ with_points (with_points pairs front) back
with-append pairs [] back = refl
with-append pairs (x ∷ front) back = with-append (with_fix pairs x.0 x.1) front back

-- ---- room

-- where each point had room, more go on behind them
pub full-append : (pairs : List Pair) (front back : List Point) → full_id pairs front ≡ None → full_id pairs (front ++ back) ≡ full_id (with_points pairs front) back
full-append pairs [] back room = refl
full-append pairs (x ∷ front) back room = step (has_room pairs x.0) room (full-append (with_fix pairs x.0 x.1) front back)
  where
    step : (b : Bool) → cond b (full_id (with_fix pairs x.0 x.1) front) (Some x.0) ≡ None
        → (full_id (with_fix pairs x.0 x.1) front ≡ None → full_id (with_fix pairs x.0 x.1) (front ++ back) ≡ full_id (with_points (with_fix pairs x.0 x.1) front) back)
        → cond b (full_id (with_fix pairs x.0 x.1) (front ++ back)) (Some x.0) ≡ full_id (with_points (with_fix pairs x.0 x.1) front) back
    step true is more = more is
    step false is more = absurd cc

pub lines-append : (n : Net) (p : Params) (pairs : List Pair) (front back : List Point) → full_id pairs front ≡ None
    → stream_lines n p pairs (front ++ back) ≡ stream_lines n p pairs front ++ stream_lines n p (with_points pairs front) back
lines-append n p pairs [] back room = refl
lines-append n p pairs (x ∷ front) back room = step (has_room pairs x.0) room (lines-append n p (with_fix pairs x.0 x.1) front back)
  where
    one : List (List ℕ)
    one = led_by x.0 (lines_of_fix n p x.0 (fixes_of pairs x.0) x.1)

    next : List Pair
    next = with_fix pairs x.0 x.1

    step : (b : Bool) → cond b (full_id next front) (Some x.0) ≡ None
        → (full_id next front ≡ None → stream_lines n p next (front ++ back) ≡ stream_lines n p next front ++ stream_lines n p (with_points next front) back)
        → cond b (one ++ stream_lines n p next (front ++ back)) [] ≡ cond b (one ++ stream_lines n p next front) [] ++ stream_lines n p (with_points next front) back
    step true is more = ap (λ ls. one ++ ls) (more is) ∙ sym (append_assoc one (stream_lines n p next front) (stream_lines n p (with_points next front) back))
    step false is more = absurd cc

-- whatever follows, the lines stay
pub lines-begin : (n : Net) (p : Params) (pairs : List Pair) (front back : List Point)
    → (more : List (List ℕ)) × (stream_lines n p pairs (front ++ back) ≡ stream_lines n p pairs front ++ more)
lines-begin n p pairs [] back = (stream_lines n p pairs back, refl)
lines-begin n p pairs (x ∷ front) back = step (has_room pairs x.0) (lines-begin n p next front back)
  where
    one : List (List ℕ)
    one = led_by x.0 (lines_of_fix n p x.0 (fixes_of pairs x.0) x.1)

    next : List Pair
    next = with_fix pairs x.0 x.1

    step : (b : Bool) → (more : List (List ℕ)) × (stream_lines n p next (front ++ back) ≡ stream_lines n p next front ++ more)
        → (more : List (List ℕ)) × (cond b (one ++ stream_lines n p next (front ++ back)) [] ≡ cond b (one ++ stream_lines n p next front) [] ++ more)
    step true (more, is) = (more, ap (λ ls. one ++ ls) is ∙ sym (append_assoc one (stream_lines n p next front) more))
    step false (more, is) = ([], refl)

-- and behind a point without room there are none
pub full-stays : (n : Net) (p : Params) (pairs : List Pair) (front back : List Point) (id : ℕ) → full_id pairs front ≡ Some id
    → (full_id pairs (front ++ back) ≡ Some id) × (stream_lines n p pairs (front ++ back) ≡ stream_lines n p pairs front)
full-stays n p pairs [] back id full = absurd cc
full-stays n p pairs (x ∷ front) back id full = step (has_room pairs x.0) full (full-stays n p next front back id)
  where
    one : List (List ℕ)
    one = led_by x.0 (lines_of_fix n p x.0 (fixes_of pairs x.0) x.1)

    next : List Pair
    next = with_fix pairs x.0 x.1

    step : (b : Bool) → cond b (full_id next front) (Some x.0) ≡ Some id
        → (full_id next front ≡ Some id → (full_id next (front ++ back) ≡ Some id) × (stream_lines n p next (front ++ back) ≡ stream_lines n p next front))
        → (cond b (full_id next (front ++ back)) (Some x.0) ≡ Some id) × (cond b (one ++ stream_lines n p next (front ++ back)) [] ≡ cond b (one ++ stream_lines n p next front) [])
    step true is more = let rest = more is in (rest.0, ap (λ ls. one ++ ls) rest.1)
    step false is more = (is, refl)

-- the points that are taken behind others which all had room
pub taken-append : (pairs : List Pair) (front back : List Point) → full_id pairs front ≡ None → with_taken pairs (front ++ back) ≡ with_taken (with_points pairs front) back
taken-append pairs [] back room = refl
taken-append pairs (x ∷ front) back room = step (has_room pairs x.0) room (taken-append (with_fix pairs x.0 x.1) front back)
  where
    step : (b : Bool) → cond b (full_id (with_fix pairs x.0 x.1) front) (Some x.0) ≡ None
        → (full_id (with_fix pairs x.0 x.1) front ≡ None → with_taken (with_fix pairs x.0 x.1) (front ++ back) ≡ with_taken (with_points (with_fix pairs x.0 x.1) front) back)
        → cond b (with_taken (with_fix pairs x.0 x.1) (front ++ back)) pairs ≡ with_taken (with_points (with_fix pairs x.0 x.1) front) back
    step true is more = more is
    step false is more = absurd cc

-- and behind a point without room none is
pub taken-stays : (pairs : List Pair) (front back : List Point) (id : ℕ) → full_id pairs front ≡ Some id → with_taken pairs (front ++ back) ≡ with_taken pairs front
taken-stays pairs [] back id full = absurd cc
taken-stays pairs (x ∷ front) back id full = step (has_room pairs x.0) full (taken-stays (with_fix pairs x.0 x.1) front back id)
  where
    step : (b : Bool) → cond b (full_id (with_fix pairs x.0 x.1) front) (Some x.0) ≡ Some id
        → (full_id (with_fix pairs x.0 x.1) front ≡ Some id → with_taken (with_fix pairs x.0 x.1) (front ++ back) ≡ with_taken (with_fix pairs x.0 x.1) front)
        → cond b (with_taken (with_fix pairs x.0 x.1) (front ++ back)) pairs ≡ cond b (with_taken (with_fix pairs x.0 x.1) front) pairs
    step true is more = more is
    step false is more = refl

-- one point
pub one-full : (pairs : List Pair) (x : Point) → has_room pairs x.0 ≡ true → full_id pairs (x ∷ []) ≡ None
one-full pairs x is = ap (λ b. cond b None (Some x.0)) is

pub not-full : (pairs : List Pair) (x : Point) → has_room pairs x.0 ≡ false → full_id pairs (x ∷ []) ≡ Some x.0
not-full pairs x is = ap (λ b. cond b None (Some x.0)) is

pub none-more : (pairs : List Pair) (x : Point) → has_room pairs x.0 ≡ false → with_taken pairs (x ∷ []) ≡ pairs
none-more pairs x is = ap (λ b. cond b (with_fix pairs x.0 x.1) pairs) is

-- ---- sums over the ids

sum_step : (f : List Fix → ℕ) (k : ℕ) (v : List Fix) (e : Pair) (es ins : List Pair) (o : Option (List Fix)) (b : Bool)
    → sum_by (λ (q : Pair). f q.1) ins + f (unwrap_or o []) ≡ sum_by (λ (q : Pair). f q.1) es + f v
    → sum_by (λ (q : Pair). f q.1) (cond b ((e.0, v) ∷ es) (e ∷ ins)) + f (unwrap_or (cond b (Some e.1) o) []) ≡ sum_by (λ (q : Pair). f q.1) (e ∷ es) + f v
sum_step f k v e es ins o true rest =
    let new = sum_by-cons (λ (q : Pair). f q.1) (e.0, v) es in
    let old = sum_by-cons (λ (q : Pair). f q.1) e es in
    omega (arith, new, old)
sum_step f k v e es ins o false rest =
    let new = sum_by-cons (λ (q : Pair). f q.1) e ins in
    let old = sum_by-cons (λ (q : Pair). f q.1) e es in
    omega (arith, new, old, rest)

pub sum-insert : (f : List Fix → ℕ) (k : ℕ) (v : List Fix) (es : List Pair) → f [] ≡ 0
    → sum_by (λ (q : Pair). f q.1) (insert_entry nat_eq es k v) + f (fixes_of es k) ≡ sum_by (λ (q : Pair). f q.1) es + f v
sum-insert f k v [] none =
    let one = sum_by-cons (λ (q : Pair). f q.1) (k, v) [] in
    omega (arith, one, none)
sum-insert f k v (e ∷ es) none = sum_step f k v e es (insert_entry nat_eq es k v) (lookup (nat_eq k) es) (nat_eq k e.0) (sum-insert f k v es none)

pub fixes_in-with : (pairs : List Pair) (k : ℕ) (fix : Fix) → fixes_in (with_fix pairs k fix) ≡ fixes_in pairs + 1
fixes_in-with pairs k fix =
    let all = sum-insert (λ fixes. length fixes) k (fixes_and pairs k fix) pairs refl in
    let one = length-append (fixes_of pairs k) (fix ∷ []) in
    omega (arith, all, one)

pub fixes_in-behind : (pairs : List Pair) (points : List Point) → fixes_in (with_points pairs points) ≡ fixes_in pairs + length points
fixes_in-behind pairs [] = omega arith
fixes_in-behind pairs (x ∷ more) =
    let rest = fixes_in-behind (with_fix pairs x.0 x.1) more in
    let one = fixes_in-with pairs x.0 x.1 in
    omega (arith, rest, one)

-- ---- lawful pairs

-- fixes of a lawful trace, but there may be none
pub record AreSound (fixes : List Fix) : Type 0 where
  pub few : length fixes ≤ 100_000
  pub in-range : All (λ (fix : Fix). InRange (point_of_fix fix)) fixes

abbrev L : Pair → Type 0
L q = IsLawfulTrace (trace_of q)

same_fixes : (a b : ℕ) (fixes : List Fix) → IsLawfulTrace (trace_of (a, fixes)) → IsLawfulTrace (trace_of (b, fixes))
same_fixes a b fixes is = record { some = is.some; few = is.few; in_range = is.in_range }

pub lawful-insert : (k : ℕ) (v : List Fix) (es : List Pair) → AreLawful es → IsLawfulTrace (trace_of (k, v)) → AreLawful (insert_entry nat_eq es k v)
lawful-insert k v [] are is = All-cons (λ (q : Pair). IsLawfulTrace (trace_of q)) (k, v) [] is are
lawful-insert k v (e ∷ es) are is = step (nat_eq k e.0) (lawful-insert k v es (All-tail L e es are) is)
  where
    head : L e
    head = All-head L e es are

    tail : AreLawful es
    tail = All-tail L e es are

    step : (b : Bool) → AreLawful (insert_entry nat_eq es k v) → AreLawful (cond b ((e.0, v) ∷ es) (e ∷ insert_entry nat_eq es k v))
    step true rest = All-cons L (e.0, v) es (same_fixes k e.0 v is) tail
    step false rest = All-cons L e (insert_entry nat_eq es k v) head rest

pub sound-at : (id : ℕ) (es : List Pair) → AreLawful es → AreSound (fixes_of es id)
sound-at id [] are = record { few = omega arith; in-range = λ i d lt. absurd (omega (arith, lt)) }
sound-at id (e ∷ es) are = step (nat_eq id e.0) (sound-at id es (All-tail L e es are))
  where
    head : L e
    head = All-head L e es are

    tail : AreLawful es
    tail = All-tail L e es are

    step : (b : Bool) → AreSound (fixes_of es id) → AreSound (unwrap_or (cond b (Some e.1) (lookup (nat_eq id) es)) [])
    step true rest = record { few = head.few; in-range = head.in_range }
    step false rest = rest
