-- The pieces among the items of a trace are those of its match.
use Rattle.std.proofs.Common.{◌≡◌, ℕ, zero, suc, ◌+◌, ◌<◌, ◌≤◌, true, false, cond, eqb, Bool, List, [], ◌∷◌, ◌++◌, Option, Some, None, refl, sym, ◌∙◌, ap, arith, length, map, get_or}
use Rattle.std.specs.List.{All, filter}
use Rattle.std.proofs.lemmas.Bool.Decides.{nat_tests}
use Rattle.std.proofs.lemmas.List.{length-map}
use Rattle.std.proofs.lemmas.List.Elements.{All-head, All-tail}
use Rattle.std.proofs.lemmas.List.Sums.{sum_by-append, sum_by-cons}
use Rattle.cost_model.specs.declared.params.Params.{Params}
use Rattle.road_network.specs.Net.{Net}
use Rattle.matching.specs.declared.parts.Layer.{Layer}
use Rattle.matching.specs.declared.parts.Piece.{Piece}
use Rattle.matching.specs.Layers.{trellis}
use Rattle.matching.specs.Value.{solution}
use Rattle.matching.proofs.SolutionMatches.{solution_is_a_match}
use Rattle.trace_reader.specs.declared.trace.Trace.{Trace}
use Rattle.route_rebuild.specs.Routes.{no_layer}
use Rattle.route_rebuild.proofs.ChosenRun.{pieces_within}
use Rattle.trace_match.specs.Match.{layers_of, match_of, routed_of}
use Rattle.online_commit.specs.declared.items.Item.{Item}
use Rattle.online_commit.specs.Items.{closed_item, items_of, item_at, label_item, points_from}
use Rattle.trace_sessions.specs.Following.{is_piece, pieces_among}

-- one for a piece, and nothing for a label
abbrev weight : Item → ℕ
weight item = cond (is_piece item) 1 0

-- the items of the pieces that end with point k
abbrev ends_at : (Piece → Item) → List Piece → ℕ → List Item
ends_at f ps k = map f (filter (λ (q : Piece). eqb q.last k) ps)

-- how many pieces are among k points from point i on
abbrev among : (ℕ → Item) → (Piece → Item) → List Piece → ℕ → ℕ → ℕ
among label f ps i k = pieces_among (points_from label (ends_at f ps) i k)

pub among-append : (xs ys : List Item) → pieces_among (xs ++ ys) ≡ pieces_among xs + pieces_among ys
among-append xs ys = sum_by-append weight xs ys

among_next : (label : ℕ → Item) (f : Piece → Item) (ps : List Piece) (i k : ℕ) → ((j : ℕ) → weight (label j) ≡ 0)
    → among label f ps i (suc k) ≡ pieces_among (ends_at f ps i) + among label f ps (i + 1) k
among_next label f ps i k labels =
    let rest = points_from label (ends_at f ps) (i + 1) k in
    let whole : among label f ps i (suc k) ≡ weight (label i) + pieces_among (ends_at f ps i ++ rest) = sum_by-cons weight (label i) (ends_at f ps i ++ rest) in
    let both : pieces_among (ends_at f ps i ++ rest) ≡ pieces_among (ends_at f ps i) + among label f ps (i + 1) k = among-append (ends_at f ps i) rest in
    let none = labels i in
    omega (arith, whole, both, none)

-- a piece that ends before them is not among them
missed : (label : ℕ → Item) (f : Piece → Item) (q : Piece) (ps : List Piece) (i k : ℕ) → ((j : ℕ) → weight (label j) ≡ 0) → q.last < i
    → among label f (q ∷ ps) i k ≡ among label f ps i k
missed label f q ps i zero labels low = refl
missed label f q ps i (suc k) labels low =
    let e : eqb q.last i ≡ false = grind (arith, nat_tests) in
    let here : ends_at f (q ∷ ps) i ≡ ends_at f ps i = rw e refl in
    among_next label f (q ∷ ps) i k labels
    ∙ ap (λ xs. pieces_among xs + among label f (q ∷ ps) (i + 1) k) here
    ∙ ap (λ m. pieces_among (ends_at f ps i) + m) (missed label f q ps (i + 1) k labels (omega (arith, low)))
    ∙ sym (among_next label f ps i k labels)

-- one that ends with one of them is
met : (label : ℕ → Item) (f : Piece → Item) (q : Piece) (ps : List Piece) (i k : ℕ) → ((j : ℕ) → weight (label j) ≡ 0) → weight (f q) ≡ 1 → i ≤ q.last → q.last < i + k
    → among label f (q ∷ ps) i k ≡ 1 + among label f ps i k
met label f q ps i zero labels one low high = absurd (omega (arith, low, high))
met label f q ps i (suc k) labels one low high =
    by_test (λ after. met label f q ps (i + 1) k labels one after (omega (arith, high))) (eqb q.last i) refl
  where
    by_test : (i + 1 ≤ q.last → among label f (q ∷ ps) (i + 1) k ≡ 1 + among label f ps (i + 1) k) → (b : Bool) → eqb q.last i ≡ b
        → among label f (q ∷ ps) i (suc k) ≡ 1 + among label f ps i (suc k)
    by_test later false e =
        let other : i + 1 ≤ q.last = grind (arith, nat_tests) in
        let same : ends_at f (q ∷ ps) i ≡ ends_at f ps i = rw e refl in
        let here : pieces_among (ends_at f (q ∷ ps) i) ≡ pieces_among (ends_at f ps i) = ap pieces_among same in
        let rest = later other in
        let next = among_next label f (q ∷ ps) i k labels in
        let next_without = among_next label f ps i k labels in
        omega (arith, next, next_without, here, rest)
    by_test later true e =
        let is : q.last ≡ i = grind (arith, nat_tests) in
        let first : ends_at f (q ∷ ps) i ≡ f q ∷ ends_at f ps i = rw e refl in
        let here : pieces_among (ends_at f (q ∷ ps) i) ≡ weight (f q) + pieces_among (ends_at f ps i) =
        ap pieces_among first ∙ sum_by-cons weight (f q) (ends_at f ps i) in
        let rest = missed label f q ps (i + 1) k labels (omega (arith, is)) in
        let next = among_next label f (q ∷ ps) i k labels in
        let next_without = among_next label f ps i k labels in
        omega (arith, next, next_without, here, rest, one)

none_met : (label : ℕ → Item) (f : Piece → Item) (i k : ℕ) → ((j : ℕ) → weight (label j) ≡ 0) → among label f [] i k ≡ 0
none_met label f i zero labels = refl
none_met label f i (suc k) labels =
    let next : among label f [] i (suc k) ≡ 0 + among label f [] (i + 1) k = among_next label f [] i k labels in
    let rest = none_met label f (i + 1) k labels in
    omega (arith, next, rest)

all_met : (label : ℕ → Item) (f : Piece → Item) (ps : List Piece) (k : ℕ) → ((j : ℕ) → weight (label j) ≡ 0) → ((q : Piece) → weight (f q) ≡ 1) → All (λ (q : Piece). q.last < k) ps
    → among label f ps 0 k ≡ length ps
all_met label f [] k labels one below = none_met label f 0 k labels
all_met label f (q ∷ ps) k labels one below =
    let low : q.last < k = All-head (λ (x : Piece). x.last < k) q ps below in
    let here = met label f q ps 0 k labels (one q) (omega arith) (omega (arith, low)) in
    let rest = all_met label f ps k labels one (All-tail (λ (x : Piece). x.last < k) q ps below) in
    omega (arith, here, rest)

label_weighs : (i : ℕ) (l : Layer) (rank : Option ℕ) → weight (label_item i l rank) ≡ 0
label_weighs i l None = refl
label_weighs i l (Some r) = refl

count_items : (n : Net) (p : Params) (layers : List Layer) → pieces_among (items_of n p layers) ≡ length (solution (trellis n p) layers).pieces
unfolding items_of
count_items n p layers =
    let s = solution (trellis n p) layers in
    all_met (item_at layers s.ranks) (closed_item n p layers s.ranks) s.pieces (length layers)
    (λ j. label_weighs j (get_or layers j no_layer) (get_or s.ranks j None))
    (λ q. refl)
    (λ k d lt. (pieces_within (trellis n p) layers 0 s.pieces k d (solution_is_a_match (trellis n p) layers).pieces_are lt).inside)

-- the pieces among all that is told of a trace
pub count_match : (n : Net) (p : Params) (trace : Trace) → pieces_among (items_of n p (layers_of n p trace)) ≡ length (match_of n p trace).pieces
unfolding match_of
count_match n p trace =
    let s = solution (trellis n p) (layers_of n p trace) in
    count_items n p (layers_of n p trace) ∙ sym (length-map s.pieces (routed_of n p (layers_of n p trace) s.ranks))
