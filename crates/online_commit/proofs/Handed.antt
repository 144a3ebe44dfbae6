-- What is handed out, by where the open piece begins. In this file layers stand in the order of the points.
use Rattle.std.proofs.Common.{◌≡◌, ℕ, suc, ◌+◌, ◌<◌, ◌≤◌, true, false, eqb, Bool, List, [], ◌∷◌, ◌++◌, Option, Some, None, refl, sym, ap, ◌∙◌, arith, length, map, drop, get_or, unwrap_or}
use Rattle.std.specs.List.{All, filter, range_with_len}
use Rattle.std.proofs.lemmas.Bool.Decides.{nat_tests}
use Rattle.std.proofs.lemmas.List.{append-nil, get_or_append_left, get_or-append-add, get_or-drop, drop-append-le, map-append}
use Rattle.std.proofs.lemmas.List.Elements.{filter-append}
use Rattle.cost_model.specs.declared.params.Params.{Params}
use Rattle.road_network.specs.Net.{Net}
use Rattle.matching.specs.declared.parts.Layer.{Layer}
use Rattle.matching.specs.declared.parts.Piece.{Piece}
use Rattle.matching.specs.Layers.{candidate_of_rank, trellis}
use Rattle.matching.specs.Sequences.{Trellis}
use Rattle.road_network.specs.declared.Candidate.{Candidate}
use Rattle.matching.specs.Value.{solution}
use Rattle.matching.specs.CommittedValue.{committed_of}
use Rattle.matching.proofs.Splits.{from_point, before, Splits, split_now}
use Rattle.matching.proofs.ClosedPieces.{closed_split}
use Rattle.matching.proofs.CommittedValues.{committed_split, front, solution_from}
use Rattle.route_rebuild.specs.Routes.{chosen_at, no_layer}
use Rattle.online_commit.specs.declared.items.Item.{Item}
use Rattle.online_commit.specs.declared.items.Item.TheVariants.{At, Closed}
use Rattle.online_commit.specs.Items.{closed_at, closed_item, edge_ids, handed, items_with, item_at, label_item, points_from}
use Rattle.online_commit.proofs.Points.{points-split, points-same, points-bare}
use Rattle.online_commit.proofs.Routes.{route-same}
use Rattle.online_commit.proofs.Composed.{AreBefore, closed-before}

-- the closed pieces of a point

-- no piece ends with point k
abbrev pub NoneEnds : ℕ → List Piece → Type 0
NoneEnds k ps = All (λ (q : Piece). q.last ≡ k → ⊥) ps

tail-of : {X : Type 0} (P : X → Type 0) (x : X) (xs : List X) → All P (x ∷ xs) → All P xs
tail-of P x xs h k d lt = h (suc k) d (omega (arith, lt))

pub closed-none : (f : Piece → Item) (ps : List Piece) (k : ℕ) → NoneEnds k ps → map f (filter (λ (q : Piece). eqb q.last k) ps) ≡ []
closed-none f [] k h = refl
closed-none f (q ∷ ps) k h =
    let not : q.last ≡ k → ⊥ = h 0 q (omega arith) in
    let e : eqb q.last k ≡ false = grind (arith, nat_tests) in
    rw e (closed-none f ps k (tail-of (λ (x : Piece). x.last ≡ k → ⊥) q ps h))

closed-step : (P : Piece → Type 0) (f g : Piece → Item) (q : Piece) (ps : List Piece) (k : ℕ) (b : Bool) → eqb q.last k ≡ b → P q → ((x : Piece) → P x → x.last ≡ k → f x ≡ g x)
    → map f (filter (λ (x : Piece). eqb x.last k) ps) ≡ map g (filter (λ (x : Piece). eqb x.last k) ps)
    → map f (filter (λ (x : Piece). eqb x.last k) (q ∷ ps)) ≡ map g (filter (λ (x : Piece). eqb x.last k) (q ∷ ps))
closed-step P f g q ps k false e here h on = rw e on
closed-step P f g q ps k true e here h on =
    let is : q.last ≡ k = grind (arith, nat_tests) in
    rw e (ap (λ x. x ∷ map f (filter (λ (y : Piece). eqb y.last k) ps)) (h q here is) ∙ ap (λ xs. g q ∷ xs) on)

closed-same : (P : Piece → Type 0) (f g : Piece → Item) (ps : List Piece) (k : ℕ) → All P ps → ((x : Piece) → P x → x.last ≡ k → f x ≡ g x)
    → map f (filter (λ (x : Piece). eqb x.last k) ps) ≡ map g (filter (λ (x : Piece). eqb x.last k) ps)
closed-same P f g [] k all h = refl
closed-same P f g (q ∷ ps) k all h = closed-step P f g q ps k (eqb q.last k) refl (all 0 q (omega arith)) h (closed-same P f g ps k (tail-of P q ps all) h)

closed-append : (f : Piece → Item) (xs ys : List Piece) (k : ℕ)
    → map f (filter (λ (x : Piece). eqb x.last k) (xs ++ ys)) ≡ map f (filter (λ (x : Piece). eqb x.last k) xs) ++ map f (filter (λ (x : Piece). eqb x.last k) ys)
closed-append f xs ys k =
    ap (map f) (filter-append (λ (x : Piece). eqb x.last k) xs ys) ∙ map-append f (filter (λ (x : Piece). eqb x.last k) xs) (filter (λ (x : Piece). eqb x.last k) ys)

pub closed-here : (f : Piece → Item) (ps : List Piece) (q : Piece) (rest : List Piece) (k : ℕ) → NoneEnds k ps → q.last ≡ k → NoneEnds k rest
    → map f (filter (λ (x : Piece). eqb x.last k) (ps ++ q ∷ rest)) ≡ f q ∷ []
closed-here f ps q rest k before-it is after-it =
    let e : eqb q.last k ≡ true = grind (arith, nat_tests) in
    closed-append f ps (q ∷ rest) k ∙ ap (λ xs. xs ++ map f (filter (λ (x : Piece). eqb x.last k) (q ∷ rest))) (closed-none f ps k before-it)
    ∙ rw e (ap (λ xs. f q ∷ xs) (closed-none f rest k after-it))

closed-front-only : (f : Piece → Item) (ps rest : List Piece) (k : ℕ) → NoneEnds k rest
    → map f (filter (λ (x : Piece). eqb x.last k) (ps ++ rest)) ≡ map f (filter (λ (x : Piece). eqb x.last k) ps)
closed-front-only f ps rest k none =
    closed-append f ps rest k ∙ ap (λ xs. map f (filter (λ (x : Piece). eqb x.last k) ps) ++ xs) (closed-none f rest k none) ∙ append-nil (map f (filter (λ (x : Piece). eqb x.last k) ps))

-- the items of the points before the open piece

abbrev pub base : (n : Net) (p : Params) (fed : List Layer) → Splits (trellis n p) 0 fed → List Item
base n p fed s = points_from (item_at fed s.ranks) (closed_at n p fed s.ranks s.pieces) 0 s.closed

-- the same layers up to here
abbrev pub SameUpTo : ℕ → List Layer → List Layer → Type 0
SameUpTo count layers fed = (k : ℕ) → k < count → get_or layers k no_layer ≡ get_or fed k no_layer

pub same-more : (fed more : List Layer) (count : ℕ) → count ≤ length fed → SameUpTo count (fed ++ more) fed
same-more fed more count le k lt = get_or_append_left fed more no_layer k (omega (arith, le, lt))

label-front : (n : Net) (p : Params) (fed layers : List Layer) (s : Splits (trellis n p) 0 fed) (rb : List (Option ℕ)) (k : ℕ) → SameUpTo s.closed layers fed → k < s.closed
    → item_at layers (s.ranks ++ rb) k ≡ item_at fed s.ranks k
label-front n p fed layers s rb k same lt =
    ap (λ l. label_item k l (get_or (s.ranks ++ rb) k None)) (same k lt)
    ∙ ap (label_item k (get_or fed k no_layer)) (get_or_append_left s.ranks rb None k (omega (arith, lt, s.count)))

chosen-front : (n : Net) (p : Params) (fed layers : List Layer) (s : Splits (trellis n p) 0 fed) (rb : List (Option ℕ)) (k : ℕ) → SameUpTo s.closed layers fed → k < s.closed
    → chosen_at layers (s.ranks ++ rb) k ≡ chosen_at fed s.ranks k
chosen-front n p fed layers s rb k same lt =
    let read : Layer → Option ℕ → Candidate = λ l r. candidate_of_rank l (unwrap_or r 0) in
    ap (λ l. read l (get_or (s.ranks ++ rb) k None)) (same k lt)
    ∙ ap (read (get_or fed k no_layer)) (get_or_append_left s.ranks rb None k (omega (arith, lt, s.count)))

-- pieces that end with a point of the open piece, or later
abbrev pub EndAfter : ℕ → List Piece → Type 0
EndAfter at ps = All (λ (q : Piece). at ≤ q.last) ps

closed-front : (n : Net) (p : Params) (fed layers : List Layer) (s : Splits (trellis n p) 0 fed) (rb : List (Option ℕ)) (rest : List Piece) (k : ℕ)
    → SameUpTo s.closed layers fed → EndAfter s.closed rest → k < s.closed
    → closed_at n p layers (s.ranks ++ rb) (s.pieces ++ rest) k ≡ closed_at n p fed s.ranks s.pieces k
closed-front n p fed layers s rb rest k same high lt =
    closed-front-only (closed_item n p layers (s.ranks ++ rb)) s.pieces rest k (λ i d b. λ e. let h = high i d b in omega (arith, h, e, lt))
    ∙ closed-same (AreBefore s.closed) (closed_item n p layers (s.ranks ++ rb)) (closed_item n p fed s.ranks) s.pieces k (closed-before (trellis n p) fed s)
    (λ q are is.
    let low = are.low in
    let points = are.points in
    ap (λ es. Closed q (edge_ids es)) (route-same n p layers fed (s.ranks ++ rb) s.ranks q q refl (λ m le. chosen-front n p fed layers s rb (q.first + m) same (omega (arith, le, low, points)))))

pub items-with : (n : Net) (p : Params) (fed layers : List Layer) (s : Splits (trellis n p) 0 fed) (rb : List (Option ℕ)) (rest : List Piece) (k : ℕ)
    → SameUpTo s.closed layers fed → EndAfter s.closed rest
    → items_with n p layers (s.ranks ++ rb) (s.pieces ++ rest) (s.closed + k)
    ≡ base n p fed s ++ points_from (item_at layers (s.ranks ++ rb)) (closed_at n p layers (s.ranks ++ rb) (s.pieces ++ rest)) s.closed k
items-with n p fed layers s rb rest k same high =
    let label = item_at layers (s.ranks ++ rb) in
    let closed = closed_at n p layers (s.ranks ++ rb) (s.pieces ++ rest) in
    let z : 0 + s.closed ≡ s.closed = omega arith in
    points-split label closed 0 s.closed k
    ∙ ap (λ xs. xs ++ points_from label closed (0 + s.closed) k)
    (points-same label (item_at fed s.ranks) closed (closed_at n p fed s.ranks s.pieces) 0 s.closed
    (λ i ge lt. label-front n p fed layers s rb i same (omega (arith, lt))) (λ i ge lt. closed-front n p fed layers s rb rest i same high (omega (arith, lt))))
    ∙ ap (λ i. base n p fed s ++ points_from label closed i k) z

-- in the open piece no closed piece ends
pub closed-later : (n : Net) (p : Params) (fed layers : List Layer) (s : Splits (trellis n p) 0 fed) (ranks : List (Option ℕ)) (rest : List Piece) (k : ℕ)
    → s.closed ≤ k → NoneEnds k rest → closed_at n p layers ranks (s.pieces ++ rest) k ≡ []
closed-later n p fed layers s ranks rest k ge none =
    closed-append (closed_item n p layers ranks) s.pieces rest k
    ∙ ap (λ xs. xs ++ map (closed_item n p layers ranks) (filter (λ (x : Piece). eqb x.last k) rest))
    (closed-none (closed_item n p layers ranks) s.pieces k (λ i d b. λ e. let h = (closed-before (trellis n p) fed s i d b).low in omega (arith, h, e, ge)))
    ∙ closed-none (closed_item n p layers ranks) rest k none

pub no_pieces : (k : ℕ) → NoneEnds k []
no_pieces k = λ i d lt. absurd (omega (arith, lt))

pub end_none : (at : ℕ) → EndAfter at []
end_none at = λ i d lt. absurd (omega (arith, lt))

-- the match, by its closed pieces

pub solution-more : {L : Type 0} (t : Trellis L) (fed more : List L) (s : Splits t 0 fed)
    → solution t (fed ++ more) ≡ before s.ranks s.pieces s.tables (from_point t s.closed (drop s.closed fed ++ more))
solution-more t fed more s =
    let z : 0 + s.closed ≡ s.closed = omega arith in
    solution_from t (fed ++ more) ∙ s.goes_on more ∙ ap (λ k. before s.ranks s.pieces s.tables (from_point t k (drop s.closed fed ++ more))) z

pub solution-now : {L : Type 0} (t : Trellis L) (fed : List L) (s : Splits t 0 fed)
    → solution t fed ≡ before s.ranks s.pieces s.tables (from_point t s.closed (drop s.closed fed))
solution-now t fed s =
    let z : 0 + s.closed ≡ s.closed = omega arith in
    solution_from t fed ∙ split_now t 0 fed s ∙ ap (λ k. before s.ranks s.pieces s.tables (from_point t k (drop s.closed fed))) z

-- the labels of k points from point i on
abbrev pub labels_between : Net → Params → List Layer → ℕ → ℕ → List Item
labels_between n p fed i k = map (item_at fed (solution (trellis n p) fed).ranks) (range_with_len i k)

pub handed-form : (n : Net) (p : Params) (fed : List Layer) (s : Splits (trellis n p) 0 fed)
    → handed n p fed ≡ base n p fed s ++ labels_between n p fed s.closed (front (trellis n p) (drop s.closed fed))
unfolding handed
handed-form n p fed s =
    let t = trellis n p in
    let k = front t (drop s.closed fed) in
    let tail = from_point t s.closed (drop s.closed fed) in
    let ranks : (solution t fed).ranks ≡ s.ranks ++ tail.ranks = ap (λ v. v.ranks) (solution-now t fed s) in
    ap (λ ps. items_with n p fed (solution t fed).ranks ps (committed_of t fed)) (closed_split t fed s ∙ sym (append-nil s.pieces))
    ∙ ap (items_with n p fed (solution t fed).ranks (s.pieces ++ [])) (committed_split t fed s)
    ∙ ap (λ r. items_with n p fed r (s.pieces ++ []) (s.closed + k)) ranks
    ∙ items-with n p fed fed s tail.ranks [] k (λ i lt. refl) (end_none s.closed)
    ∙ ap (λ xs. base n p fed s ++ xs)
    (points-bare (item_at fed (s.ranks ++ tail.ranks)) (closed_at n p fed (s.ranks ++ tail.ranks) (s.pieces ++ [])) s.closed k
    (λ i ge lt. closed-later n p fed fed s (s.ranks ++ tail.ranks) [] i ge (no_pieces i)))
    ∙ ap (λ r. base n p fed s ++ map (item_at fed r) (range_with_len s.closed k)) (sym ranks)

-- a label of the open piece
pub label-later : (n : Net) (p : Params) (fed layers : List Layer) (s : Splits (trellis n p) 0 fed) (rb : List (Option ℕ)) (j r : ℕ) (l : Layer)
    → get_or layers (s.closed + j) no_layer ≡ l → get_or rb j None ≡ Some r → item_at layers (s.ranks ++ rb) (s.closed + j) ≡ At (s.closed + j) (candidate_of_rank l r)
label-later n p fed layers s rb j r l layer rank =
    let e : length s.ranks + j ≡ s.closed + j = ap (λ k. k + j) s.count in
    ap (λ x. label_item (s.closed + j) x (get_or (s.ranks ++ rb) (s.closed + j) None)) layer
    ∙ ap (label_item (s.closed + j) l) (ap (λ k. get_or (s.ranks ++ rb) k None) (sym e) ∙ get_or-append-add s.ranks rb j None ∙ rank)

-- a layer of the open piece
pub layer-later : {L : Type 0} (fed more : List L) (first j : ℕ) (d : L) → first ≤ length fed → get_or (fed ++ more) (first + j) d ≡ get_or (drop first fed ++ more) j d
layer-later fed more first j d le = sym (get_or-drop first (fed ++ more) j d) ∙ ap (λ xs. get_or xs j d) (drop-append-le first fed more le)
