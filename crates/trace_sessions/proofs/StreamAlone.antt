-- The lines of an id in a stream are the follow text of its points alone.
use Rattle.std.proofs.Common.{◌≡◌, ℕ, suc, ◌+◌, ◌<◌, ◌^◌, Bool, true, false, cond, List, [], ◌∷◌, ◌++◌, Option, Some, None, refl, sym, ap, ◌∙◌, arith, length, map, drop, nat_eq, unwrap_or}
use Rattle.std.specs.List.{All, filter, flat_map, range_with_len, starts_with}
use Rattle.std.specs.Map.{lookup}
use Rattle.std.proofs.lemmas.Bool.Decides.{Decides-eqb, nat_tests}
use Rattle.std.proofs.lemmas.List.{append_assoc, append-nil, drop_at, length-append, length-map, map-append}
use Rattle.std.proofs.lemmas.List.Elements.{All-head, All-tail, filter-append}
use Rattle.std.proofs.lemmas.Slice.Eq.{starts_is}
use Rattle.decimal_text.specs.Number.{decimal}
use Rattle.cost_model.specs.declared.params.Params.{Params}
use Rattle.road_network.specs.Net.{Net}
use Rattle.match_text.specs.MatchText.{end_line, trace_line}
use Rattle.match_text.specs.Reading.{number_at}
use Rattle.match_text.proofs.Fields.{number_again}
use Rattle.matching.specs.declared.parts.Layer.{Layer}
use Rattle.trace_match.specs.Match.{layer_of}
use Rattle.trace_reader.specs.declared.trace.Fix.{Fix}
use Rattle.online_commit.specs.declared.items.Item.{Item}
use Rattle.trace_sessions.specs.FollowText.{fix_line, handed_at, last_lines, lines_so_far, followed_lines}
use Rattle.trace_sessions.specs.ItemText.{item_lines, lead_of}
use Rattle.trace_sessions.specs.Sessions.{Pair, fixes_and, fixes_of, with_fix}
use Rattle.trace_sessions.specs.StreamText.{IdsAreFollowedAlone, Point, closing_lines, trace_first_line, fixes_among, full_id, has_room, led_by, lines_led_by, lines_of_fix, stream_lines, with_points}
use Rattle.trace_sessions.proofs.LinesStay.{same_handed}
use Rattle.trace_sessions.proofs.StreamPoints.{Once, fixes-behind, fixes-with, once-insert}

-- ---- lines that begin with an id

abbrev lead : ℕ → List ℕ
lead id = lead_of (Some id)

abbrev is_led : ℕ → List ℕ → Bool
is_led id text = starts_with nat_eq text (lead id)

own_line : (id : ℕ) (text : List ℕ) → is_led id (lead id ++ text) ≡ true
own_line id text = (starts_is Decides-eqb (lead id ++ text) (lead id) (is_led id (lead id ++ text)) refl).1 text refl

first_of : (a b : ℕ) (text rest : List ℕ) → ◌≡◌ {A = Option (ℕ × List ℕ)} (Some (a, text)) (Some (b, rest)) → a ≡ b
first_of a b text rest e = ap (λ (o : Option (ℕ × List ℕ)). (unwrap_or o (0, [])).0) e

-- a line of one id does not begin with another
other_line : (id k : ℕ) (text : List ℕ) → id < 2 ^ 32 → k < 2 ^ 32 → (b : Bool) → is_led id (lead k ++ text) ≡ b → nat_eq id k ≡ false → b ≡ false
other_line id k text small small' false is other = refl
other_line id k text small small' true is other =
    let whole = lead k ++ text in
    let begins : whole ≡ lead id ++ drop (length (lead id)) whole = (starts_is Decides-eqb whole (lead id) true (sym is)).0 refl in
    let rest = drop (length (lead id)) whole in
    let one : number_at (2 ^ 32) whole ≡ Some (k, 32 ∷ text) =
    ap (number_at (2 ^ 32)) (append_assoc (decimal k) (32 ∷ []) text) ∙ number_again (2 ^ 32) k (32 ∷ text) (omega (arith, small')) (omega arith) refl in
    let two : number_at (2 ^ 32) whole ≡ Some (id, 32 ∷ rest) =
    ap (number_at (2 ^ 32)) (begins ∙ append_assoc (decimal id) (32 ∷ []) rest) ∙ number_again (2 ^ 32) id (32 ∷ rest) (omega (arith, small)) (omega arith) refl in
    let same : k ≡ id = first_of k id (32 ∷ text) (32 ∷ rest) (sym one ∙ two) in
    absurd (let f : false ≡ true = grind (arith, nat_tests) in cc)

pub led-append : (id : ℕ) (xs ys : List (List ℕ)) → lines_led_by id (xs ++ ys) ≡ lines_led_by id xs ++ lines_led_by id ys
led-append id xs ys =
    ap (map (drop (length (lead id)))) (filter-append (is_led id) xs ys)
    ∙ map-append (drop (length (lead id))) (filter (is_led id) xs) (filter (is_led id) ys)

own-lines : (id : ℕ) (lines : List (List ℕ)) → lines_led_by id (led_by id lines) ≡ lines
own-lines id [] = refl
own-lines id (text ∷ lines) =
    ap (λ b. map (drop (length (lead id))) (cond b ((lead id ++ text) ∷ filter (is_led id) (led_by id lines)) (filter (is_led id) (led_by id lines)))) (own_line id text)
    ∙ ap (λ t. t ∷ lines_led_by id (led_by id lines)) (drop_at (lead id) text (length (lead id)) refl)
    ∙ ap (λ ls. text ∷ ls) (own-lines id lines)

others-lines : (id k : ℕ) (lines : List (List ℕ)) → id < 2 ^ 32 → k < 2 ^ 32 → nat_eq id k ≡ false → lines_led_by id (led_by k lines) ≡ []
others-lines id k [] small small' other = refl
others-lines id k (text ∷ lines) small small' other =
    ap (λ b. map (drop (length (lead id))) (cond b ((lead k ++ text) ∷ filter (is_led id) (led_by k lines)) (filter (is_led id) (led_by k lines))))
    (other_line id k text small small' (is_led id (lead k ++ text)) refl other)
    ∙ others-lines id k lines small small' other

-- the lines of one part, where those of the rest are known
pub part : (id k : ℕ) (lines more rest : List (List ℕ)) (b : Bool) → id < 2 ^ 32 → k < 2 ^ 32 → nat_eq id k ≡ b → lines_led_by id more ≡ rest
    → lines_led_by id (led_by k lines ++ more) ≡ cond b (lines ++ rest) rest
part id k lines more rest true small small' same is =
    let e : id ≡ k = grind (arith, nat_tests) in
    led-append id (led_by k lines) more ∙ ap (λ j. lines_led_by id (led_by j lines) ++ lines_led_by id more) (sym e)
    ∙ ap (λ ls. ls ++ lines_led_by id more) (own-lines id lines) ∙ ap (λ ls. lines ++ ls) is
part id k lines more rest false small small' other is =
    led-append id (led_by k lines) more ∙ ap (λ ls. ls ++ lines_led_by id more) (others-lines id k lines small small' other) ∙ is

-- ---- the lines of points

-- the lines of fixes behind others of their id
abbrev pub lines_alone : Net → Params → ℕ → List Fix → List Fix → List (List ℕ)
lines_alone n p id fixes [] = []
lines_alone n p id fixes (fix ∷ more) = lines_of_fix n p id fixes fix ++ lines_alone n p id (fixes ++ fix ∷ []) more

pub alone_step : (n : Net) (p : Params) (id : ℕ) (fixes now : List Fix) (x : Point) (more : List Point) (lines : List (List ℕ)) (b : Bool) → nat_eq id x.0 ≡ b
    → now ≡ fixes ++ map (λ (y : Point). y.1) (cond b (x ∷ []) [])
    → (id ≡ x.0 → lines ≡ lines_of_fix n p id fixes x.1)
    → cond b (lines ++ lines_alone n p id now (map (λ (y : Point). y.1) more)) (lines_alone n p id now (map (λ (y : Point). y.1) more))
    ≡ lines_alone n p id fixes (map (λ (y : Point). y.1) (cond b (x ∷ more) more))
alone_step n p id fixes now x more lines true same is own =
    ap (λ ls. ls ++ lines_alone n p id now (map (λ (y : Point). y.1) more)) (own (let e : id ≡ x.0 = grind (arith, nat_tests) in e))
    ∙ ap (λ fs. lines_of_fix n p id fixes x.1 ++ lines_alone n p id fs (map (λ (y : Point). y.1) more)) is
alone_step n p id fixes now x more lines false other is own =
    ap (λ fs. lines_alone n p id fs (map (λ (y : Point). y.1) more)) (is ∙ append-nil fixes)

abbrev pub IsSmall : Point → Type 0
IsSmall x = x.0 < 2 ^ 32

stream-alone : (n : Net) (p : Params) (id : ℕ) (pairs : List Pair) (points : List Point) → id < 2 ^ 32 → All IsSmall points → full_id pairs points ≡ None
    → lines_led_by id (stream_lines n p pairs points) ≡ lines_alone n p id (fixes_of pairs id) (fixes_among id points)
stream-alone n p id pairs [] small are room = refl
stream-alone n p id pairs (x ∷ more) small are room =
    step (has_room pairs x.0) room (λ is. stream-alone n p id (with_fix pairs x.0 x.1) more small (All-tail IsSmall x more are) is)
  where
    lines : List (List ℕ)
    lines = lines_of_fix n p x.0 (fixes_of pairs x.0) x.1

    next : List Pair
    next = with_fix pairs x.0 x.1

    behind : List Fix
    behind = fixes_among id (x ∷ more)

    step : (b : Bool) → cond b (full_id next more) (Some x.0) ≡ None
        → (full_id next more ≡ None → lines_led_by id (stream_lines n p next more) ≡ lines_alone n p id (fixes_of next id) (fixes_among id more))
        → lines_led_by id (cond b (led_by x.0 lines ++ stream_lines n p next more) []) ≡ lines_alone n p id (fixes_of pairs id) behind
    step true is rest =
        part id x.0 lines (stream_lines n p next more) (lines_alone n p id (fixes_of next id) (fixes_among id more)) (nat_eq id x.0) small (All-head IsSmall x more are) refl (rest is)
        ∙ alone_step n p id (fixes_of pairs id) (fixes_of next id) x (filter (λ (y : Point). nat_eq id y.0) more) lines (nat_eq id x.0) refl (fixes-with pairs id x.0 x.1)
        (λ e. ap (λ j. lines_of_fix n p j (fixes_of pairs j) x.1) (sym e))
    step false is rest = absurd cc

no_first : (id : ℕ) (fixes : List Fix) → 0 < length fixes → trace_first_line id fixes ≡ []
no_first id [] some = absurd (omega (arith, some))
no_first id (fix ∷ fixes) some = refl

-- behind the first fix
alone-behind : (n : Net) (p : Params) (id : ℕ) (front back : List Fix) → 0 < length front
    → lines_alone n p id front back ≡ flat_map (followed_lines n p (map (layer_of n p) (front ++ back))) (range_with_len (length front) (length back))
alone-behind n p id front [] some = refl
alone-behind n p id front (fix ∷ more) some =
    let i = length front in
    let fed = map (layer_of n p) (front ++ fix ∷ []) in
    let all = map (layer_of n p) (front ++ fix ∷ more) in
    let rest = lines_alone n p id (front ++ fix ∷ []) more in
    let whole : (front ++ fix ∷ []) ++ more ≡ front ++ fix ∷ more = append_assoc front (fix ∷ []) more in
    let parts : all ≡ fed ++ map (layer_of n p) more = ap (map (layer_of n p)) (sym whole) ∙ map-append (layer_of n p) (front ++ fix ∷ []) more in
    let count : length (front ++ fix ∷ []) ≡ i + 1 = length-append front (fix ∷ []) in
    let long : length fed ≡ i + 1 = ap length (map-append (layer_of n p) front (fix ∷ [])) ∙ length_two front in
    ap (λ ls. (ls ++ followed_lines n p fed i) ++ rest) (no_first id front some)
    ∙ ap (λ items. (fix_line i ∷ item_lines n None items) ++ rest)
    (sym (same_handed n p fed (map (layer_of n p) more) i (omega (arith, long))) ∙ ap (λ ls. handed_there ls i) (sym parts))
    ∙ ap (λ ls. followed_lines n p all i ++ ls)
    (alone-behind n p id (front ++ fix ∷ []) more (omega (arith, count))
    ∙ ap (λ fs. flat_map (followed_lines n p (map (layer_of n p) fs)) (range_with_len (length (front ++ fix ∷ [])) (length more))) whole
    ∙ ap (λ k. flat_map (followed_lines n p all) (range_with_len k (length more))) count)
  where
    handed_there : List Layer → ℕ → List Item
    handed_there ls i = handed_at n p ls i

    length_two : (fixes : List Fix) → length (map (layer_of n p) fixes ++ map (layer_of n p) (fix ∷ [])) ≡ length fixes + 1
    length_two fixes = length-append (map (layer_of n p) fixes) (layer_of n p fix ∷ []) ∙ ap (λ k. k + 1) (length-map fixes (layer_of n p))

pub alone-all : (n : Net) (p : Params) (id : ℕ) (fixes : List Fix) → 0 < length fixes → lines_alone n p id [] fixes ≡ lines_so_far n p (record { id = id; fixes = fixes })
alone-all n p id [] some = absurd (omega (arith, some))
alone-all n p id (fix ∷ more) some =
    let all = map (layer_of n p) (fix ∷ more) in
    let rest = lines_alone n p id (fix ∷ []) more in
    let count : length all ≡ suc (length more) = length-map (fix ∷ more) (layer_of n p) in
    ap (λ items. trace_line id ∷ (fix_line 0 ∷ item_lines n None items) ++ rest)
    (sym (same_handed n p (layer_of n p fix ∷ []) (map (layer_of n p) more) 0 (omega arith)))
    ∙ ap (λ ls. trace_line id ∷ followed_lines n p all 0 ++ ls) (alone-behind n p id (fix ∷ []) more (omega arith))
    ∙ ap (λ k. trace_line id ∷ flat_map (followed_lines n p all) (range_with_len 0 k)) (sym count)

-- ---- the lines at the end

abbrev pub IsShort : ℕ → Type 0
IsShort id = id < 2 ^ 32

once-behind : (pairs : List Pair) (points : List Point) → All IsSmall points → Once IsShort pairs → Once IsShort (with_points pairs points)
once-behind pairs [] are once = once
once-behind pairs (x ∷ more) are once =
    once-behind (with_fix pairs x.0 x.1) more (All-tail IsSmall x more are) (once-insert IsShort x.0 (fixes_and pairs x.0 x.1) pairs (All-head IsSmall x more are) once)

abbrev pub ends_alone : Net → Params → ℕ → Option (List Fix) → List (List ℕ)
ends_alone n p id None = []
ends_alone n p id (Some fixes) = last_lines n p (map (layer_of n p) fixes) ++ end_line id ∷ []

pub closing-alone : (n : Net) (p : Params) (id : ℕ) (pairs : List Pair) → id < 2 ^ 32 → Once IsShort pairs → lines_led_by id (closing_lines n p pairs) ≡ ends_alone n p id (lookup (nat_eq id) pairs)
closing-alone n p id [] small once = refl
closing-alone n p id (e ∷ es) small once =
    part id e.0 (ends_alone n p e.0 (Some e.1)) (closing_lines n p es) (ends_alone n p id (lookup (nat_eq id) es)) (nat_eq id e.0) small once.0 refl (closing-alone n p id es small once.2)
    ∙ step (nat_eq id e.0) refl
  where
    step : (b : Bool) → nat_eq id e.0 ≡ b → cond b (ends_alone n p e.0 (Some e.1) ++ ends_alone n p id (lookup (nat_eq id) es)) (ends_alone n p id (lookup (nat_eq id) es))
        ≡ ends_alone n p id (cond b (Some e.1) (lookup (nat_eq id) es))
    step true is =
        let same : id ≡ e.0 = grind (arith, nat_tests) in
        ap (λ o. ends_alone n p e.0 (Some e.1) ++ ends_alone n p id o) (ap (λ j. lookup (nat_eq j) es) same ∙ once.1)
        ∙ append-nil (ends_alone n p e.0 (Some e.1)) ∙ ap (λ j. ends_alone n p j (Some e.1)) (sym same)
    step false is = refl

found : (o : Option (List Fix)) (fixes : List Fix) → unwrap_or o [] ≡ fixes → 0 < length fixes → o ≡ Some fixes
found None fixes is some = absurd (let e = ap length is in omega (arith, e, some))
found (Some f) fixes is some = ap (λ x. Some x) is

-- ---- the law

pub ids_are_followed_alone : IdsAreFollowedAlone
ids_are_followed_alone n p points id are small room some =
    let fixes = fixes_among id points in
    let pairs = with_points [] points in
    led-append id (stream_lines n p [] points) (closing_lines n p pairs)
    ∙ ap (λ ls. ls ++ lines_led_by id (closing_lines n p pairs)) (stream-alone n p id [] points small are room ∙ alone-all n p id fixes some)
    ∙ ap (λ ls. lines_so_far n p (record { id = id; fixes = fixes }) ++ ls)
    (closing-alone n p id pairs small (once-behind [] points are tt)
    ∙ ap (ends_alone n p id) (found (lookup (nat_eq id) pairs) fixes (fixes-behind [] points id) some))
