-- The edges of what is handed out are edges of the network.
use Rattle.std.proofs.Common.{◌≡◌, ℕ, zero, suc, ◌+◌, ◌<◌, eqb, List, [], ◌∷◌, ◌++◌, Option, Some, None, refl, sym, ap, ◌∙◌, subst, arith, length, get_or}
use Rattle.std.specs.List.{All, filter}
use Rattle.std.proofs.lemmas.List.{append-nil, drop_at, take_at}
use Rattle.std.proofs.lemmas.List.Elements.{All-append, All-cons, All-drop, All-filter, All-from_get_or, All-map, All-nil, All-take}
use Rattle.cost_model.specs.declared.params.Params.{Params}
use Rattle.road_network.specs.Net.{Net, IsLawful}
use Rattle.matching.specs.declared.parts.Layer.{Layer}
use Rattle.matching.specs.declared.parts.Piece.{Piece}
use Rattle.matching.specs.Layers.{IsMatchable, no_candidate, trellis}
use Rattle.matching.specs.Value.{Solution, solution}
use Rattle.matching.proofs.Lists.{at-get_or}
use Rattle.matching.proofs.SolutionMatches.{solution_is_a_match}
use Rattle.route_rebuild.specs.Chosen.{IsSolved}
use Rattle.route_rebuild.specs.Laws.{IsJoinedRoute}
use Rattle.route_rebuild.specs.Routes.{no_layer, piece_at, route_of}
use Rattle.route_rebuild.proofs.Joining.{routes_joined}
use Rattle.route_rebuild.proofs.RouteValue.{routes_value}
use Rattle.trellis.specs.declared.parts.Solved.{Solved}
use Rattle.trace_match.specs.Ranked.{IsRanked}
use Rattle.trace_match.proofs.Ranks.{are_ranked}
use Rattle.trace_match.proofs.RouteNames.{route_edges}
use Rattle.online_commit.specs.declared.items.Item.{Item}
use Rattle.online_commit.specs.Items.{closed_at, closed_item, edge_ids, handed, items_of, item_at, label_item, points_from}
use Rattle.online_commit.specs.Session.{FeedsLayer, IsFinished, Session, RepresentsLayers}
use Rattle.online_commit.proofs.Growing.{handed-stays}
use Rattle.trace_sessions.specs.ItemText.{AreItemsOf, IsItemOf}
use Rattle.trace_sessions.proofs.ItemLines.{numbers_of_ids}

-- ---- parts of lists

front_of : (P : Item → Type 0) (xs ys : List Item) → All P (xs ++ ys) → All P xs
front_of P xs ys all = subst (All P) (take_at xs ys (length xs) refl) (All-take P (length xs) (xs ++ ys) all)

back_of : (P : Item → Type 0) (xs ys : List Item) → All P (xs ++ ys) → All P ys
back_of P xs ys all = subst (All P) (drop_at xs ys (length xs) refl) (All-drop P (length xs) (xs ++ ys) all)

all_points : (P : Item → Type 0) (label : ℕ → Item) (closed : ℕ → List Item) (i k : ℕ)
    → ((j : ℕ) → j < i + k → P (label j)) → ((j : ℕ) → All P (closed j)) → All P (points_from label closed i k)
all_points P label closed i zero labels pieces = All-nil P
all_points P label closed i (suc k) labels pieces =
    All-append P (label i ∷ closed i) (points_from label closed (i + 1) k)
    (All-cons P (label i) (closed i) (labels i (omega arith)) (pieces i))
    (all_points P label closed (i + 1) k (λ j lt. labels j (omega (arith, lt))) pieces)

-- ---- labels and pieces

abbrev solved_of : Solution → Solved
solved_of s = record { ranks = s.ranks; pieces = s.pieces; tables = s.tables }

solved : (n : Net) (p : Params) (layers : List Layer) → IsMatchable n p layers → IsSolved n p layers (solved_of (solution (trellis n p) layers))
solved n p layers matchable = record { trace = matchable; matched = solution_is_a_match (trellis n p) layers }

label_edge : (n : Net) (i : ℕ) (l : Layer) (rank : Option ℕ) → IsRanked n l rank → IsItemOf n (label_item i l rank)
label_edge n i l None ranked = tt
label_edge n i l (Some rank) ranked = ranked.edges rank no_candidate ranked.among

route_edges_are : (n : Net) (p : Params) (layers : List Layer) (s : Solved) (k : ℕ) → IsLawful n → IsSolved n p layers s → k < length s.pieces
    → IsItemOf n (closed_item n p layers s.ranks (piece_at s.pieces k))
route_edges_are n p layers s k lawful is lt =
    let piece = piece_at s.pieces k in
    let es = route_of n p layers s.ranks piece in
    let joined = routes_joined n p layers s k es lawful is lt ((routes_value n p layers s k es lawful is lt).1 refl) in
    route_edges n p layers s.ranks piece (edge_ids es) (subst (IsJoinedRoute n p layers s.ranks piece) (sym (numbers_of_ids es)) joined)

-- ---- items

pub items_edges : (n : Net) (p : Params) (layers : List Layer) → IsLawful n → IsMatchable n p layers → AreItemsOf n (items_of n p layers)
unfolding items_of
items_edges n p layers lawful matchable =
    let s = solved_of (solution (trellis n p) layers) in
    let is = solved n p layers matchable in
    let ranked = are_ranked n p layers s lawful is in
    all_points (IsItemOf n) (item_at layers s.ranks) (closed_at n p layers s.ranks s.pieces) 0 (length layers)
    (λ i lt. label_edge n i (get_or layers i no_layer) (get_or s.ranks i None) (ranked.each i (get_or layers i no_layer) (at-get_or layers i no_layer (omega (arith, lt)))))
    (λ i. All-map (IsItemOf n) (closed_item n p layers s.ranks) (filter (λ (q : Piece). eqb q.last i) s.pieces)
    (All-filter (λ (q : Piece). eqb q.last i) (λ q. IsItemOf n (closed_item n p layers s.ranks q)) s.pieces
    (All-from_get_or (λ q. IsItemOf n (closed_item n p layers s.ranks q)) s.pieces (record { first = 0; last = 0; cost = 0 }) (λ k lt. route_edges_are n p layers s k lawful is lt))))

pub handed_edges : (n : Net) (p : Params) (layers : List Layer) → IsLawful n → IsMatchable n p layers → AreItemsOf n (handed n p layers)
handed_edges n p layers lawful matchable =
    let all = handed-stays n p layers [] in
    let e : items_of n p layers ≡ handed n p layers ++ all.0 = ap (items_of n p) (sym (append-nil layers)) ∙ all.1 in
    front_of (IsItemOf n) (handed n p layers) all.0 (subst (AreItemsOf n) e (items_edges n p layers lawful matchable))

-- what a session hands out with a point, and at the end

pub fed_edges : (old : Session) (l : Layer) (new : Session) (items : List Item) (fed : List Layer) → IsLawful old.network → IsMatchable old.network old.params (fed ++ l ∷ [])
    → RepresentsLayers old fed → FeedsLayer old l new items → AreItemsOf old.network items
fed_edges old l new items fed lawful matchable stands is =
    back_of (IsItemOf old.network) (handed old.network old.params fed) items
    (subst (AreItemsOf old.network) (is.handed_on fed stands) (handed_edges old.network old.params (fed ++ l ∷ []) lawful matchable))

pub finished_edges : (old new : Session) (items : List Item) (fed : List Layer) → IsLawful old.network → IsMatchable old.network old.params fed
    → RepresentsLayers old fed → IsFinished old new items → AreItemsOf old.network items
finished_edges old new items fed lawful matchable stands is =
    back_of (IsItemOf old.network) (handed old.network old.params fed) items
    (subst (AreItemsOf old.network) (is.rest fed stands) (items_edges old.network old.params fed lawful matchable))
