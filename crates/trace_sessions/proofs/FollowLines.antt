-- The follow text without its lines `fix I` and `finish`. In this file layers stand in the order of the points.
use Rattle.std.proofs.Common.{◌≡◌, ℕ, zero, suc, ◌+◌, Bool, true, cond, not, List, [], ◌∷◌, ◌++◌, None, refl, sym, ap, ◌∙◌, subst, arith, length, map, take, drop}
use Rattle.std.specs.List.{filter, flat_map, range_with_len}
use Rattle.std.proofs.lemmas.List.{append_assoc, append-nil, drop_at, map-append, take-append-drop, take-take, take_all}
use Rattle.std.proofs.lemmas.List.Elements.{filter-append}
use Rattle.cost_model.specs.declared.params.Params.{Params}
use Rattle.road_network.specs.Net.{Net}
use Rattle.matching.specs.declared.parts.Layer.{Layer}
use Rattle.match_text.specs.MatchText.{end_line, trace_line}
use Rattle.trace_match.specs.Match.{layers_of, match_of}
use Rattle.online_commit.specs.declared.items.Item.{Item}
use Rattle.online_commit.specs.declared.items.Item.TheVariants.{At, Missing, Closed}
use Rattle.online_commit.specs.Items.{handed, items_of}
use Rattle.online_commit.specs.Session.{ItemsBeginWith}
use Rattle.online_commit.proofs.Growing.{handed-grows, handed-stays}
use Rattle.trace_sessions.specs.ItemText.{item_line, item_lines}
use Rattle.trace_sessions.specs.FollowText.{FollowIsMatch, handed_at, is_step_line, last_lines, left_of, followed_lines}
use Rattle.trace_sessions.proofs.ItemLines.{items_lines}

-- ---- what is handed out

behind_front : (whole front : List Item) → ItemsBeginWith whole front → whole ≡ front ++ drop (length front) whole
behind_front whole front begins =
    begins.1 ∙ ap (λ xs. front ++ xs) (sym (drop_at front begins.0 (length front) refl) ∙ ap (drop (length front)) (sym begins.1))

-- one point more hands out what it makes certain
pub handed_next : (n : Net) (p : Params) (layers : List Layer) (i : ℕ) → handed n p (take (suc i) layers) ≡ handed n p (take i layers) ++ handed_at n p layers i
handed_next n p layers i =
    let fed = take i layers in
    let more = drop i (take (suc i) layers) in
    let parts : fed ++ more ≡ take (suc i) layers =
    ap (λ xs. xs ++ more) (sym (take-take i (suc i) layers (omega arith))) ∙ take-append-drop i (take (suc i) layers) in
    behind_front (handed n p (take (suc i) layers)) (handed n p fed)
    (subst (λ ls. ItemsBeginWith (handed n p ls) (handed n p fed)) parts (handed-grows n p fed more))

-- and the end what is left
pub left_behind : (n : Net) (p : Params) (layers : List Layer) → items_of n p layers ≡ handed n p layers ++ left_of n p layers
left_behind n p layers =
    behind_front (items_of n p layers) (handed n p layers)
    (subst (λ ls. ItemsBeginWith (items_of n p ls) (handed n p layers)) (append-nil layers) (handed-stays n p layers []))

front_of_none : (xs ys : List Item) → [] ≡ xs ++ ys → xs ≡ []
front_of_none [] ys e = refl
front_of_none (x ∷ xs) ys e = absurd cc

no_items_of : (n : Net) (p : Params) → items_of n p [] ≡ []
unfolding items_of
no_items_of n p = refl

pub none_handed : (n : Net) (p : Params) → handed n p [] ≡ []
none_handed n p =
    let all = handed-stays n p [] [] in
    front_of_none (handed n p []) all.0 (sym (no_items_of n p) ∙ all.1)

-- ---- lines that are kept

abbrev is_kept : List ℕ → Bool
is_kept text = not (is_step_line text)

item_kept : (n : Net) (item : Item) → is_kept (item_line n item) ≡ true
item_kept n (At i candidate) = refl
item_kept n (Missing i) = refl
item_kept n (Closed piece route) = refl

items_kept : (n : Net) (items : List Item) → filter is_kept (item_lines n None items) ≡ map (item_line n) items
items_kept n [] = refl
items_kept n (x ∷ items) =
    ap (λ b. cond b (item_line n x ∷ filter is_kept (item_lines n None items)) (filter is_kept (item_lines n None items))) (item_kept n x)
    ∙ ap (λ ts. item_line n x ∷ ts) (items_kept n items)

-- the lines of k points from point i on go on from those of the points before
points_kept : (n : Net) (p : Params) (layers : List Layer) (i k : ℕ)
    → map (item_line n) (handed n p (take i layers)) ++ filter is_kept (flat_map (followed_lines n p layers) (range_with_len i k)) ≡ map (item_line n) (handed n p (take (i + k) layers))
points_kept n p layers i zero =
    let e : i ≡ i + 0 = omega arith in
    append-nil (map (item_line n) (handed n p (take i layers))) ∙ ap (λ j. map (item_line n) (handed n p (take j layers))) e
points_kept n p layers i (suc k) =
    let old = handed n p (take i layers) in
    let now = handed_at n p layers i in
    let more = flat_map (followed_lines n p layers) (range_with_len (i + 1) k) in
    let one : suc i ≡ i + 1 = omega arith in
    let all : i + 1 + k ≡ i + suc k = omega arith in
    ap (λ ts. map (item_line n) old ++ ts) (filter-append is_kept (item_lines n None now) more ∙ ap (λ ts. ts ++ filter is_kept more) (items_kept n now))
    ∙ sym (append_assoc (map (item_line n) old) (map (item_line n) now) (filter is_kept more))
    ∙ ap (λ ts. ts ++ filter is_kept more)
    (sym (map-append (item_line n) old now) ∙ ap (map (item_line n)) (sym (handed_next n p layers i)) ∙ ap (λ j. map (item_line n) (handed n p (take j layers))) one)
    ∙ points_kept n p layers (i + 1) k
    ∙ ap (λ j. map (item_line n) (handed n p (take j layers))) all

all_kept : (n : Net) (p : Params) (layers : List Layer)
    → filter is_kept (flat_map (followed_lines n p layers) (range_with_len 0 (length layers))) ≡ map (item_line n) (handed n p layers)
all_kept n p layers =
    let lines = filter is_kept (flat_map (followed_lines n p layers) (range_with_len 0 (length layers))) in
    ap (λ xs. map (item_line n) xs ++ lines) (sym (none_handed n p))
    ∙ points_kept n p layers 0 (length layers)
    ∙ ap (λ ls. map (item_line n) (handed n p ls)) (take_all (0 + length layers) layers (omega arith))

last_kept : (n : Net) (p : Params) (layers : List Layer) (id : ℕ) → filter is_kept (last_lines n p layers ++ end_line id ∷ []) ≡ map (item_line n) (left_of n p layers) ++ end_line id ∷ []
last_kept n p layers id =
    filter-append is_kept (item_lines n None (left_of n p layers)) (end_line id ∷ []) ∙ ap (λ ts. ts ++ end_line id ∷ []) (items_kept n (left_of n p layers))

-- ---- the law

pub follow_is_match : FollowIsMatch
unfolding match_of
follow_is_match n p trace =
    let layers = layers_of n p trace in
    let points = flat_map (followed_lines n p layers) (range_with_len 0 (length layers)) in
    let left = left_of n p layers in
    let end = end_line trace.id ∷ [] in
    ap (λ ts. trace_line trace.id ∷ ts)
    (filter-append is_kept points (last_lines n p layers ++ end)
    ∙ ap (λ ts. filter is_kept points ++ ts) (last_kept n p layers trace.id)
    ∙ sym (append_assoc (filter is_kept points) (map (item_line n) left) end)
    ∙ ap (λ ts. ts ++ end)
    (ap (λ ts. ts ++ map (item_line n) left) (all_kept n p layers)
    ∙ sym (map-append (item_line n) (handed n p layers) left)
    ∙ ap (map (item_line n)) (sym (left_behind n p layers))
    ∙ items_lines n p layers))
