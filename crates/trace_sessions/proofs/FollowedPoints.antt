-- A trace that is followed: what a session of its first points has handed out, and what the next point
-- brings. In this file layers stand in the order of the points.
use Rattle.std.proofs.Common.{◌≡◌, ℕ, ◌+◌, ◌<◌, ◌≤◌, List, [], ◌∷◌, ◌++◌, refl, sym, ◌∙◌, ap, subst, arith, add-one, length, take, drop, get_or}
use Rattle.std.specs.List.{All}
use Rattle.std.proofs.lemmas.List.{drop_at, get_or-map, get_or_default, length-map, length-take-le, take-append-drop, take_all, take_at, take_more}
use Rattle.std.proofs.lemmas.List.Elements.{All-drop, All-take}
use Rattle.polyline_geometry.specs.Plane.{InRange}
use Rattle.cost_model.specs.declared.params.Params.{Params}
use Rattle.cost_model.specs.Options.{IsAccepted}
use Rattle.road_network.specs.Net.{Net, IsLawful}
use Rattle.trace_reader.specs.declared.trace.Fix.{Fix}
use Rattle.trace_reader.specs.declared.trace.Trace.{Trace}
use Rattle.trace_reader.specs.Trace.{IsLawfulTrace, point_of_fix}
use Rattle.matching.specs.declared.parts.Layer.{Layer}
use Rattle.matching.specs.CommittedValue.{closed_pieces}
use Rattle.matching.specs.Layers.{trellis}
use Rattle.matching.specs.Value.{solution}
use Rattle.matching.proofs.CandidateLayers.{candidates_narrow, layer_of_candidates}
use Rattle.trace_match.specs.Match.{layer_of, layers_of, match_of}
use Rattle.trace_match.proofs.Lawful.{match_lawful}
use Rattle.trace_match.proofs.TraceLayers.{matchable}
use Rattle.online_commit.specs.declared.items.Item.{Item}
use Rattle.online_commit.specs.Items.{handed, items_of, items_with}
use Rattle.online_commit.specs.Session.{CanFeed, FeedsLayer, IsFedLayer, IsFinished, Session, RepresentsLayers, no_points_of, fed_position_count}
use Rattle.online_commit.proofs.Growing.{handed-stays}
use Rattle.online_commit.proofs.Opened.{opened-stands}
use Rattle.trace_sessions.specs.FollowText.{handed_at, left_of}
use Rattle.trace_sessions.specs.Following.{IsPieceCount, pieces_among}
use Rattle.trace_sessions.specs.ItemText.{AreItemsOf, IsItemOf}
use Rattle.trace_sessions.proofs.ItemEdges.{items_edges}
use Rattle.trace_sessions.proofs.PieceCounts.{among-append, count_match}

-- the first i points of the trace, with their candidates
abbrev pub first_layers : Net → Params → Trace → ℕ → List Layer
first_layers n p trace i = take i (layers_of n p trace)

-- a session stands for the first i points, of which so many pieces were handed out
pub record HasFollowed (n : Net) (p : Params) (trace : Trace) (i : ℕ) (s : Session) (pieces : ℕ) : Type 0 where
  pub network : s.network ≡ n
  pub params : s.params ≡ p
  pub stands : RepresentsLayers s (first_layers n p trace i)
  pub counted : pieces ≡ pieces_among (handed n p (first_layers n p trace i))

-- these items are those that the point behind the first i hands out
pub record IsNextHanded (n : Net) (p : Params) (trace : Trace) (i : ℕ) (items : List Item) : Type 0 where
  pub grown : handed n p (first_layers n p trace (i + 1)) ≡ handed n p (first_layers n p trace i) ++ items
  pub are : items ≡ handed_at n p (layers_of n p trace) i

pub drop_behind : (front back : List Item) → drop (length front) (front ++ back) ≡ back
drop_behind front back = drop_at front back (length front) refl

count_layers : (n : Net) (p : Params) (trace : Trace) → length (layers_of n p trace) ≡ length trace.fixes
count_layers n p trace = length-map trace.fixes (layer_of n p)

-- the point behind the first i
next_layers : (n : Net) (p : Params) (trace : Trace) (i : ℕ) (fix : Fix) → i < length trace.fixes → fix ≡ get_or trace.fixes i fix
    → first_layers n p trace (i + 1) ≡ first_layers n p trace i ++ layer_of n p fix ∷ []
next_layers n p trace i fix low is =
    let count = count_layers n p trace in
    take_more (layers_of n p trace) i (layer_of n p fix) (omega (arith, low, count))
    ∙ ap (λ (l : Layer). first_layers n p trace i ++ l ∷ []) (get_or-map (layer_of n p) trace.fixes i fix (layer_of n p fix) low ∙ ap (layer_of n p) (sym is))

pub fed_layer : (n : Net) (p : Params) (fix : Fix) → IsAccepted p → InRange (point_of_fix fix) → IsFedLayer n p (layer_of n p fix)
fed_layer n p fix accepted place = record {
  layer = layer_of_candidates n p (layer_of n p fix) place refl;
  few = candidates_narrow n p (layer_of n p fix) accepted refl;
}

-- as many points were fed as were taken
pub fed_count : (n : Net) (p : Params) (trace : Trace) (i : ℕ) (s : Session) (pieces : ℕ) → HasFollowed n p trace i s pieces → i ≤ length trace.fixes → fed_position_count s ≡ i
fed_count n p trace i s pieces has low =
    let count = count_layers n p trace in
    has.stands.count ∙ length-take-le i (layers_of n p trace) (omega (arith, low, count))

-- before the first point
nothing_handed : (n : Net) (p : Params) → handed n p [] ≡ []
unfolding handed
nothing_handed n p =
    let found = solution (trellis n p) [] in
    ap (items_with n p [] found.ranks (closed_pieces found.pieces 0)) ((opened-stands n p).told_is)

pub none_followed : (n : Net) (p : Params) (trace : Trace) (s : Session) → s ≡ no_points_of n p → RepresentsLayers s [] → HasFollowed n p trace 0 s 0
none_followed n p trace s is stands = record {
  network = ap (λ (x : Session). x.network) is;
  params = ap (λ (x : Session). x.params) is;
  stands = stands;
  counted = sym (ap pieces_among (nothing_handed n p));
}

pub next_handed : (n : Net) (p : Params) (trace : Trace) (i : ℕ) (fix : Fix) (s new : Session) (pieces : ℕ) (items : List Item) → HasFollowed n p trace i s pieces
    → i < length trace.fixes → fix ≡ get_or trace.fixes i fix → FeedsLayer s (layer_of n p fix) new items → IsNextHanded n p trace i items
next_handed n p trace i fix s new pieces items has low is fed =
    let front = first_layers n p trace i in
    let l = layer_of n p fix in
    let own = fed.handed_on front has.stands in
    let here : handed n p (front ++ l ∷ []) ≡ handed n p front ++ items =
    subst (λ (m : Net). handed m p (front ++ l ∷ []) ≡ handed m p front ++ items) has.network
    (subst (λ (q : Params). handed s.network q (front ++ l ∷ []) ≡ handed s.network q front ++ items) has.params own) in
    let grown : handed n p (first_layers n p trace (i + 1)) ≡ handed n p front ++ items = ap (handed n p) (next_layers n p trace i fix low is) ∙ here in
    record {
      grown = grown;
      are =
          sym (ap (λ (k : ℕ). drop (length (handed n p front)) (handed n p (take k (layers_of n p trace)))) (sym (add-one i))
          ∙ ap (drop (length (handed n p front))) grown
          ∙ drop_behind (handed n p front) items);
    }

pub next_followed : (n : Net) (p : Params) (trace : Trace) (i : ℕ) (fix : Fix) (s new : Session) (pieces count : ℕ) (items : List Item) → HasFollowed n p trace i s pieces
    → i < length trace.fixes → fix ≡ get_or trace.fixes i fix → FeedsLayer s (layer_of n p fix) new items → count ≡ pieces_among items → HasFollowed n p trace (i + 1) new (pieces + count)
next_followed n p trace i fix s new pieces count items has low is fed counted =
    let front = first_layers n p trace i in
    let handed_next = next_handed n p trace i fix s new pieces items has low is fed in
    let both = ap pieces_among handed_next.grown ∙ among-append (handed n p front) items in
    let before = has.counted in
    record {
      network = fed.network ∙ has.network;
      params = fed.params ∙ has.params;
      stands = subst (RepresentsLayers new) (sym (next_layers n p trace i fix low is)) (fed.stands front has.stands);
      counted = ap (λ (m : ℕ). m + count) before ∙ ap (λ (m : ℕ). pieces_among (handed n p front) + m) counted ∙ sym both;
    }

-- what is handed out of the first points is a part of what is told of all
told_behind : (n : Net) (p : Params) (trace : Trace) (i : ℕ) → (rest : List Item) × (items_of n p (layers_of n p trace) ≡ handed n p (first_layers n p trace i) ++ rest)
told_behind n p trace i =
    let whole = layers_of n p trace in
    let begins = handed-stays n p (take i whole) (drop i whole) in
    (begins.0, subst (λ (ls : List Layer). items_of n p ls ≡ handed n p (take i whole) ++ begins.0) (take-append-drop i whole) begins.1)

told_lies : (n : Net) (p : Params) (trace : Trace) → IsLawful n → IsAccepted p → IsLawfulTrace trace → AreItemsOf n (items_of n p (layers_of n p trace))
told_lies n p trace lawful accepted trace_lawful = items_edges n p (layers_of n p trace) lawful (matchable n p trace (layers_of n p trace) accepted trace_lawful refl)

pub lies_behind : (n : Net) (front back : List Item) → AreItemsOf n (front ++ back) → AreItemsOf n back
lies_behind n front back all = subst (AreItemsOf n) (drop_at front back (length front) refl) (All-drop (IsItemOf n) (length front) (front ++ back) all)

pub lies_before : (n : Net) (front back : List Item) → AreItemsOf n (front ++ back) → AreItemsOf n front
lies_before n front back all = subst (AreItemsOf n) (take_at front back (length front) refl) (All-take (IsItemOf n) (length front) (front ++ back) all)

pub next_lies : (n : Net) (p : Params) (trace : Trace) (i : ℕ) (items : List Item) → IsLawful n → IsAccepted p → IsLawfulTrace trace → IsNextHanded n p trace i items → AreItemsOf n items
next_lies n p trace i items lawful accepted trace_lawful next =
    let front = handed n p (first_layers n p trace i) in
    let told = told_behind n p trace (i + 1) in
    let all = subst (AreItemsOf n) (told.1 ∙ ap (λ (xs : List Item). xs ++ told.0) next.grown) (told_lies n p trace lawful accepted trace_lawful) in
    lies_behind n front items (lies_before n (front ++ items) told.0 all)

-- no more pieces were handed out than the trace has points
pub few_followed : (n : Net) (p : Params) (trace : Trace) (i : ℕ) (s : Session) (pieces : ℕ) → IsAccepted p → IsLawfulTrace trace → HasFollowed n p trace i s pieces → pieces ≤ length trace.fixes
few_followed n p trace i s pieces accepted lawful has =
    let told = told_behind n p trace i in
    let all = ap pieces_among told.1 ∙ among-append (handed n p (first_layers n p trace i)) told.0 in
    let few = (match_lawful n p trace accepted lawful).pieces_few in
    let counted = has.counted in
    let match_count = count_match n p trace in
    omega (arith, all, few, counted, match_count)

-- what is left at the end
pub record IsLeft (n : Net) (p : Params) (trace : Trace) (items : List Item) : Type 0 where
  pub all : items_of n p (layers_of n p trace) ≡ handed n p (layers_of n p trace) ++ items
  pub are : items ≡ left_of n p (layers_of n p trace)

pub all_layers : (n : Net) (p : Params) (trace : Trace) (i : ℕ) → length trace.fixes ≤ i → first_layers n p trace i ≡ layers_of n p trace
all_layers n p trace i over =
    let count = count_layers n p trace in
    take_all i (layers_of n p trace) (omega (arith, over, count))

pub last_left : (n : Net) (p : Params) (trace : Trace) (i : ℕ) (s new : Session) (pieces : ℕ) (items : List Item) → HasFollowed n p trace i s pieces → length trace.fixes ≤ i
    → IsFinished s new items → IsLeft n p trace items
last_left n p trace i s new pieces items has over finished =
    let whole = layers_of n p trace in
    let stands = subst (RepresentsLayers s) (all_layers n p trace i over) has.stands in
    let own = finished.rest whole stands in
    let all : items_of n p whole ≡ handed n p whole ++ items =
    subst (λ (m : Net). items_of m p whole ≡ handed m p whole ++ items) has.network
    (subst (λ (q : Params). items_of s.network q whole ≡ handed s.network q whole ++ items) has.params own) in
    record {
      all = all;
      are = sym (ap (drop (length (handed n p whole))) all ∙ drop_behind (handed n p whole) items);
    }

pub left_lies : (n : Net) (p : Params) (trace : Trace) (items : List Item) → IsLawful n → IsAccepted p → IsLawfulTrace trace → IsLeft n p trace items → AreItemsOf n items
left_lies n p trace items lawful accepted trace_lawful left =
    lies_behind n (handed n p (layers_of n p trace)) items (subst (AreItemsOf n) left.all (told_lies n p trace lawful accepted trace_lawful))

-- the number of all pieces
pub all_counted : (n : Net) (p : Params) (trace : Trace) (i : ℕ) (s : Session) (pieces count : ℕ) (items : List Item) → IsAccepted p → IsLawfulTrace trace → HasFollowed n p trace i s pieces
    → length trace.fixes ≤ i → IsLeft n p trace items → count ≡ pieces_among items → IsPieceCount n p trace (pieces + count)
all_counted n p trace i s pieces count items accepted lawful has over left counted =
    let whole = layers_of n p trace in
    let before = has.counted ∙ ap (λ (ls : List Layer). pieces_among (handed n p ls)) (all_layers n p trace i over) in
    let all = ap pieces_among left.all ∙ among-append (handed n p whole) items in
    let match_count = count_match n p trace in
    let is : pieces + count ≡ length (match_of n p trace).pieces = omega (arith, before, all, match_count, counted) in
    let few = (match_lawful n p trace accepted lawful).pieces_few in
    record { is = is; few = omega (arith, is, few) }

-- ---- one turn, in the words of the loop over the points

pub turn_layers : (n : Net) (p : Params) (trace : Trace) (fixes : List Fix) (i : ℕ) (d : Fix) (layer : Layer) → fixes ≡ trace.fixes → i < length fixes → layer ≡ layer_of n p (get_or fixes i d)
    → first_layers n p trace (i + 1) ≡ first_layers n p trace i ++ layer ∷ []
turn_layers n p trace fixes i d layer all low is =
    let fix = get_or fixes i d in
    let within : i < length trace.fixes = subst (λ (fs : List Fix). i < length fs) all low in
    let here : fix ≡ get_or trace.fixes i fix = get_or_default fixes i d fix low ∙ ap (λ (fs : List Fix). get_or fs i fix) all in
    next_layers n p trace i fix within here ∙ ap (λ (l : Layer). first_layers n p trace i ++ l ∷ []) (sym is)

-- a point was fed, and these items were handed out
pub record IsTurn (n : Net) (p : Params) (trace : Trace) (i : ℕ) (layer : Layer) (new : Session) (pieces : ℕ) (items : List Item) : Type 0 where
  pub layers : first_layers n p trace (i + 1) ≡ first_layers n p trace i ++ layer ∷ []
  pub next : IsNextHanded n p trace i items
  pub lies : AreItemsOf n items
  pub followed : (count : ℕ) → count ≡ pieces_among items → HasFollowed n p trace (i + 1) new (pieces + count)

pub turned : (n : Net) (p : Params) (trace : Trace) (fixes : List Fix) (i : ℕ) (d : Fix) (layer : Layer) (s new : Session) (pieces : ℕ) (items : List Item) → IsLawful n → IsAccepted p → IsLawfulTrace trace
    → fixes ≡ trace.fixes → i < length fixes → layer ≡ layer_of n p (get_or fixes i d) → HasFollowed n p trace i s pieces → FeedsLayer s layer new items → IsTurn n p trace i layer new pieces items
turned n p trace fixes i d layer s new pieces items lawful accepted trace_lawful all low is has fed =
    let fix = get_or fixes i d in
    let within : i < length trace.fixes = subst (λ (fs : List Fix). i < length fs) all low in
    let here : fix ≡ get_or trace.fixes i fix = get_or_default fixes i d fix low ∙ ap (λ (fs : List Fix). get_or fs i fix) all in
    let own = subst (λ (l : Layer). FeedsLayer s l new items) is fed in
    let next = next_handed n p trace i fix s new pieces items has within here own in
    record {
      layers = turn_layers n p trace fixes i d layer all low is;
      next = next;
      lies = next_lies n p trace i items lawful accepted trace_lawful next;
      followed = λ count counted. next_followed n p trace i fix s new pieces count items has within here own counted;
    }

-- the point may be fed
pub can_feed : (n : Net) (p : Params) (trace : Trace) (fixes : List Fix) (i : ℕ) (d : Fix) (layer : Layer) (s : Session) (pieces : ℕ) → IsAccepted p → IsLawfulTrace trace → fixes ≡ trace.fixes → i < length fixes
    → layer ≡ layer_of n p (get_or fixes i d) → HasFollowed n p trace i s pieces → CanFeed s layer
can_feed n p trace fixes i d layer s pieces accepted lawful all low is has =
    let places = subst (λ (fs : List Fix). All (λ (f : Fix). InRange (point_of_fix f)) fs) (sym all) lawful.in_range in
    let here = fed_layer n p (get_or fixes i d) accepted (places i d low) in
    let within : i < length trace.fixes = subst (λ (fs : List Fix). i < length fs) all low in
    let count = fed_count n p trace i s pieces has (omega (arith, within)) in
    let few = lawful.few in (
      subst (λ (m : Net). IsFedLayer m s.params layer) (sym has.network)
          (subst (λ (q : Params). IsFedLayer n q layer) (sym has.params) (subst (IsFedLayer n p) (sym is) here)),
      omega (arith, count, within, few),
    )

-- ---- the end

pub all_fed : (n : Net) (p : Params) (trace : Trace) (i : ℕ) (s : Session) (pieces : ℕ) → HasFollowed n p trace i s pieces → length trace.fixes ≤ i → RepresentsLayers s (layers_of n p trace)
all_fed n p trace i s pieces has over = subst (RepresentsLayers s) (all_layers n p trace i over) has.stands
