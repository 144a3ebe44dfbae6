-- The chosen candidates of a piece in the order of its positions, their labels and their route.
use Rattle.std.proofs.Common.{◌≡◌, ℕ, zero, suc, ◌+◌, ◌-◌, ◌<◌, List, [], ◌∷◌, ◌++◌, map, All, Option, Some, None, refl, sym, ap, subst, ◌∙◌, arith, length, reverse, take, drop, get_or, unwrap_or}
use Rattle.std.proofs.lemmas.List.{get_or-map, nil_from_length, reverse-append, reverse-reverse}
use Rattle.std.proofs.lemmas.List.Elements.{All-head, All-tail}
use Rattle.cost_model.specs.declared.params.Params.{Params}
use Rattle.match_law.specs.LeastMatch.{AreAdded, AreChosen, AreMissing, candidates_of, edges_added}
use Rattle.match_law.proofs.Sequences.{rank_of}
use Rattle.match_text.specs.declared.matched.Label.{Label}
use Rattle.matching.specs.declared.parts.Layer.{Layer}
use Rattle.matching.specs.Layers.{candidate_of_rank, trellis}
use Rattle.matching.specs.Match.{from_to}
use Rattle.matching.specs.Routes.{Route, Direct, Over, IsTheRoute}
use Rattle.road_network.specs.Net.{Net}
use Rattle.road_network.specs.declared.Candidate.{Candidate}
use Rattle.route_rebuild.specs.Routes.{AreLegs, chosen_at, edges_of, no_layer}
use Rattle.route_rebuild.proofs.ChosenRun.{between}
use Rattle.trace_match.specs.Match.{label_on, labels_of, layer_of}
use Rattle.trace_match.proofs.FirstLabels.{first_labels}
use Rattle.trace_reader.specs.declared.trace.Fix.{Fix}

-- ---- in the order of the positions

chosen_append : (n : Net) (p : Params) (fs gs : List Fix) (rs ss : List ℕ) (cs ds : List Candidate)
    → AreChosen n p fs rs cs → AreChosen n p gs ss ds → AreChosen n p (fs ++ gs) (rs ++ ss) (cs ++ ds)
chosen_append n p [] gs [] ss [] ds one two = two
chosen_append n p [] gs [] ss (c ∷ cs) ds one two = absurd one
chosen_append n p [] gs (r ∷ rs) ss cs ds one two = absurd one
chosen_append n p (f ∷ fs) gs [] ss cs ds one two = absurd one
chosen_append n p (f ∷ fs) gs (r ∷ rs) ss [] ds one two = absurd one
chosen_append n p (f ∷ fs) gs (r ∷ rs) ss (c ∷ cs) ds one two = (one.0, chosen_append n p fs gs rs ss cs ds one.1 two)

turned : {X : Type 0} (x : X) (xs : List X) → reverse xs ++ x ∷ [] ≡ reverse (x ∷ xs)
turned x xs = sym (reverse-append (x ∷ []) xs)

pub chosen_turned : (n : Net) (p : Params) (fs : List Fix) (rs : List ℕ) (cs : List Candidate)
    → AreChosen n p fs rs cs → AreChosen n p (reverse fs) (reverse rs) (reverse cs)
chosen_turned n p [] [] [] one = tt
chosen_turned n p [] [] (c ∷ cs) one = absurd one
chosen_turned n p [] (r ∷ rs) cs one = absurd one
chosen_turned n p (f ∷ fs) [] cs one = absurd one
chosen_turned n p (f ∷ fs) (r ∷ rs) [] one = absurd one
chosen_turned n p (f ∷ fs) (r ∷ rs) (c ∷ cs) one =
    let more = chosen_append n p (reverse fs) (f ∷ []) (reverse rs) (r ∷ []) (reverse cs) (c ∷ []) (chosen_turned n p fs rs cs one.1) (one.0, tt) in
    subst (λ (xs : List Fix). AreChosen n p xs (reverse (r ∷ rs)) (reverse (c ∷ cs))) (turned f fs)
    (subst (λ (xs : List ℕ). AreChosen n p (reverse fs ++ f ∷ []) xs (reverse (c ∷ cs))) (turned r rs)
    (subst (λ (xs : List Candidate). AreChosen n p (reverse fs ++ f ∷ []) (reverse rs ++ r ∷ []) xs) (turned c cs) more))

pub chosen_in_order : (n : Net) (p : Params) (fs : List Fix) (rs : List ℕ) (cs : List Candidate)
    → AreChosen n p (reverse fs) (reverse rs) cs → AreChosen n p fs rs (reverse cs)
chosen_in_order n p fs rs cs are =
    subst (λ (xs : List ℕ). AreChosen n p fs xs (reverse cs)) (reverse-reverse rs)
    (subst (λ (xs : List Fix). AreChosen n p xs (reverse (reverse rs)) (reverse cs)) (reverse-reverse fs)
    (chosen_turned n p (reverse fs) (reverse rs) cs are))

pub chosen_count : (n : Net) (p : Params) (fs : List Fix) (rs : List ℕ) (cs : List Candidate)
    → AreChosen n p fs rs cs → (length cs ≡ length fs) × (length rs ≡ length fs)
chosen_count n p [] [] [] one = (refl, refl)
chosen_count n p [] [] (c ∷ cs) one = absurd one
chosen_count n p [] (r ∷ rs) cs one = absurd one
chosen_count n p (f ∷ fs) [] cs one = absurd one
chosen_count n p (f ∷ fs) (r ∷ rs) [] one = absurd one
chosen_count n p (f ∷ fs) (r ∷ rs) (c ∷ cs) one =
    let more = chosen_count n p fs rs cs one.1 in (ap suc more.0, ap suc more.1)

chosen_there : (n : Net) (p : Params) (fs : List Fix) (rs : List ℕ) (cs : List Candidate) (k : ℕ) (d : Candidate) (f : Fix)
    → AreChosen n p fs rs cs → k < length cs → get_or cs k d ≡ candidate_of_rank (layer_of n p (get_or fs k f)) (get_or rs k 0)
chosen_there n p [] [] [] k d f one lt = absurd (omega (arith, lt))
chosen_there n p [] [] (c ∷ cs) k d f one lt = absurd one
chosen_there n p [] (r ∷ rs) cs k d f one lt = absurd one
chosen_there n p (g ∷ fs) [] cs k d f one lt = absurd one
chosen_there n p (g ∷ fs) (r ∷ rs) [] k d f one lt = absurd one
chosen_there n p (g ∷ fs) (r ∷ rs) (c ∷ cs) zero d f one lt = sym (rank_of n p g r c one.0)
chosen_there n p (g ∷ fs) (r ∷ rs) (c ∷ cs) (suc k) d f one lt = chosen_there n p fs rs cs k d f one.1 (omega (arith, lt))

-- ---- labels

pub labels_chosen : (n : Net) (p : Params) (fs : List Fix) (rs : List ℕ) (cs : List Candidate)
    → AreChosen n p fs rs cs → labels_of n (map (layer_of n p) fs) (map (λ r. Some r) rs) ≡ map (label_on n) cs
labels_chosen n p [] [] [] one = refl
labels_chosen n p [] [] (c ∷ cs) one = absurd one
labels_chosen n p [] (r ∷ rs) cs one = absurd one
labels_chosen n p (f ∷ fs) [] cs one = absurd one
labels_chosen n p (f ∷ fs) (r ∷ rs) [] one = absurd one
labels_chosen n p (f ∷ fs) (r ∷ rs) (c ∷ cs) one =
    ap (λ (x : Candidate). label_on n x ∷ labels_of n (map (layer_of n p) fs) (map (λ r. Some r) rs)) (rank_of n p f r c one.0)
    ∙ ap (λ (ls : List Label). label_on n c ∷ ls) (labels_chosen n p fs rs cs one.1)

labels_none : (n : Net) (layers : List Layer) → labels_of n layers [] ≡ []
labels_none n [] = refl
labels_none n (l ∷ layers) = refl

labels_drop : (n : Net) (layers : List Layer) (ranks : List (Option ℕ)) (count : ℕ) → drop count (labels_of n layers ranks) ≡ labels_of n (drop count layers) (drop count ranks)
labels_drop n layers ranks zero = refl
labels_drop n [] ranks (suc count) = refl
labels_drop n (l ∷ layers) [] (suc count) = sym (labels_none n (drop count layers))
labels_drop n (l ∷ layers) (rank ∷ ranks) (suc count) = labels_drop n layers ranks count

-- the labels of some positions in a row
pub labels_part : (n : Net) (layers : List Layer) (ranks : List (Option ℕ)) (at count : ℕ)
    → take count (drop at (labels_of n layers ranks)) ≡ labels_of n (take count (drop at layers)) (take count (drop at ranks))
labels_part n layers ranks at count =
    ap (take count) (labels_drop n layers ranks at) ∙ first_labels n (drop at layers) (drop at ranks) count

-- positions without candidates and ranks
pub missing_of : (n : Net) (p : Params) (fs : List Fix) (ranks : List (Option ℕ))
    → length ranks ≡ length fs → All (λ (l : Layer). (trellis n p).width l ≡ 0) (map (layer_of n p) fs) → All (λ (r : Option ℕ). r ≡ None) ranks
    → AreMissing n p fs (labels_of n (map (layer_of n p) fs) ranks)
missing_of n p [] ranks count none no_rank = tt
missing_of n p (f ∷ fs) [] count none no_rank = absurd (omega (arith, count))
missing_of n p (f ∷ fs) (Some r ∷ ranks) count none no_rank = let no = All-head (λ (x : Option ℕ). x ≡ None) (Some r) ranks no_rank in absurd (cc no)
missing_of n p (f ∷ fs) (None ∷ ranks) count none no_rank = (
  (nil_from_length (candidates_of n p f) (All-head (λ (l : Layer). (trellis n p).width l ≡ 0) (layer_of n p f) (map (layer_of n p) fs) none), refl),
  missing_of n p fs ranks (omega (arith, count))
      (All-tail (λ (l : Layer). (trellis n p).width l ≡ 0) (layer_of n p f) (map (layer_of n p) fs) none)
      (All-tail (λ (x : Option ℕ). x ≡ None) None ranks no_rank),
)

-- ---- routes

added_same : (b : Candidate) (r : Route) → edges_of b r ≡ edges_added b r
added_same b Direct = refl
added_same b (Over w) = refl

pub added_of : (n : Net) (p : Params) (ch : ℕ → Candidate) (i : ℕ) (a : Candidate) (cs : List Candidate) (es : List ℕ)
    → ch i ≡ a → ((k : ℕ) (d : Candidate) → k < length cs → ch (i + 1 + k) ≡ get_or cs k d)
    → AreLegs n p.bound p.back ch i (length cs) es → AreAdded n p a cs es
added_of n p ch i a [] es here next legs = legs
added_of n p ch i a (b ∷ cs) es here next (r, rest, the, whole, on) =
    let step : i + 1 ≡ i + 1 + 0 = omega arith in
    let there : ch (i + 1) ≡ b = ap ch step ∙ next 0 b (omega arith) in (
      r,
      rest,
      subst (λ (x : Candidate). IsTheRoute n p.bound p.back a x r) there (subst (λ (x : Candidate). IsTheRoute n p.bound p.back x (ch (i + 1)) r) here the),
      whole ∙ ap (λ (x : Candidate). edges_of x r ++ rest) there ∙ ap (λ (xs : List ℕ). xs ++ rest) (added_same b r),
      added_of n p ch (i + 1) b cs rest there
          (λ k d lt. let e : i + 1 + 1 + k ≡ i + 1 + suc k = omega arith in ap ch e ∙ next (suc k) d (omega (arith, lt))) on,
    )

-- the chosen candidates of a piece are those that its route goes over
pub chosen_at_place : (n : Net) (p : Params) (fixes : List Fix) (ranks : List (Option ℕ)) (rs : List ℕ) (cs : List Candidate) (first last k : ℕ) (d : Candidate) (f : Fix)
    → AreChosen n p (from_to first last fixes) rs cs → from_to first last ranks ≡ map (λ r. Some r) rs
    → k < last + 1 - first → first + k < length fixes → k < length cs
    → chosen_at (map (layer_of n p) fixes) ranks (first + k) ≡ get_or cs k d
chosen_at_place n p fixes ranks rs cs first last k d f are ranked inside below lt =
    let count = chosen_count n p (from_to first last fixes) rs cs are in
    let layer : get_or (map (layer_of n p) fixes) (first + k) no_layer ≡ layer_of n p (get_or (from_to first last fixes) k f) =
    get_or-map (layer_of n p) fixes (first + k) f no_layer below ∙ ap (layer_of n p) (sym (between fixes first last k f inside)) in
    let some : get_or (map (λ r. let o : Option ℕ = Some r in o) rs) k None ≡ Some (get_or rs k 0) = get_or-map (λ r. let o : Option ℕ = Some r in o) rs k 0 None (omega (arith, lt, count.0, count.1)) in
    let rank : unwrap_or (get_or ranks (first + k) None) 0 ≡ get_or rs k 0 =
    ap (λ (o : Option ℕ). unwrap_or o 0) (sym (between ranks first last k None inside) ∙ ap (λ (xs : List (Option ℕ)). get_or xs k None) ranked ∙ some) in
    ap (λ (l : Layer). candidate_of_rank l (unwrap_or (get_or ranks (first + k) None) 0)) layer
    ∙ ap (candidate_of_rank (layer_of n p (get_or (from_to first last fixes) k f))) rank
    ∙ sym (chosen_there n p (from_to first last fixes) rs cs k d f are lt)
