-- The first labels of a trace, and those that are committed while its fixes still come.
use Rattle.std.proofs.Common.{◌≡◌, ℕ, zero, suc, List, [], ◌∷◌, ◌++◌, map, refl, sym, ap, ◌∙◌, subst, take, drop}
use Rattle.std.proofs.lemmas.List.{map-append, take-append-drop, take-append-le, take-take}
use Rattle.cost_model.specs.declared.params.Params.{Params}
use Rattle.match_text.specs.declared.matched.Label.{Label}
use Rattle.matching.specs.declared.parts.Layer.{Layer}
use Rattle.matching.specs.CommittedValue.{IsCommittedFor, committed_of}
use Rattle.matching.specs.Layers.{trellis}
use Rattle.matching.specs.Value.{solution}
use Rattle.matching.proofs.CommittedValues.{committed_stays}
use Rattle.road_network.specs.Net.{Net}
use Rattle.trace_match.specs.Laws.{LabelsBeginWith, CommittedLabelsStay, FirstLabelsStay, with_more}
use Rattle.trace_match.specs.Match.{label_of_rank, labels_of, layer_of, layers_of, match_of}

pub first_labels : FirstLabelsStay
first_labels n layers ranks zero = refl
first_labels n [] ranks (suc count) = refl
first_labels n (l ∷ layers) [] (suc count) = refl
first_labels n (l ∷ layers) (rank ∷ ranks) (suc count) = ap (λ ls. label_of_rank n l rank ∷ ls) (first_labels n layers ranks count)

-- the labels of the match of these layers
abbrev labels_for : Net → Params → List Layer → List Label
labels_for n p layers = labels_of n layers (solution (trellis n p) layers).ranks

-- those that are committed
abbrev committed_for : Net → Params → List Layer → List Label
committed_for n p layers = take (committed_of (trellis n p) layers) (labels_for n p layers)

-- as many labels of more layers are the same
same_labels : (n : Net) (p : Params) (layers more : List Layer) → take (committed_of (trellis n p) layers) (labels_for n p (layers ++ more)) ≡ committed_for n p layers
same_labels n p layers more =
    let t = trellis n p in
    let k = committed_of t layers in
    let ranks = (solution t layers).ranks in
    let others = (solution t (layers ++ more)).ranks in
    let is : IsCommittedFor t layers more = committed_stays t layers more in
    first_labels n (layers ++ more) others k
    ∙ ap (λ ls. labels_of n ls (take k others)) (take-append-le k layers more is.within)
    ∙ ap (labels_of n (take k layers)) (sym is.stays)
    ∙ sym (first_labels n layers ranks k)

begins : (whole front : List Label) (k : ℕ) → take k whole ≡ front → LabelsBeginWith whole front
begins whole front k is = (drop k whole, sym (take-append-drop k whole) ∙ ap (λ ls. ls ++ drop k whole) is)

labels_begin : (n : Net) (p : Params) (layers more all : List Layer) → layers ++ more ≡ all → LabelsBeginWith (labels_for n p all) (committed_for n p layers)
labels_begin n p layers more all is =
    subst (λ ls. LabelsBeginWith (labels_for n p ls) (committed_for n p layers)) is
    (begins (labels_for n p (layers ++ more)) (committed_for n p layers) (committed_of (trellis n p) layers) (same_labels n p layers more))

committed_begin : (n : Net) (p : Params) (layers more all : List Layer) → layers ++ more ≡ all → LabelsBeginWith (committed_for n p all) (committed_for n p layers)
committed_begin n p layers more all is =
    let t = trellis n p in
    let k = committed_of t layers in
    let whole = layers ++ more in
    let committed : IsCommittedFor t layers more = committed_stays t layers more in
    subst (λ ls. LabelsBeginWith (committed_for n p ls) (committed_for n p layers)) is
    (begins (committed_for n p whole) (committed_for n p layers) k
    (take-take k (committed_of t whole) (labels_for n p whole) committed.grows ∙ same_labels n p layers more))

pub committed_labels_begin : CommittedLabelsStay
unfolding match_of
committed_labels_begin n p trace more =
    let f = layer_of n p in
    let is : map f trace.fixes ++ map f more ≡ map f (trace.fixes ++ more) = sym (map-append f trace.fixes more) in
    record {
      stay = labels_begin n p (layers_of n p trace) (map f more) (layers_of n p (with_more trace more)) is;
      grow = committed_begin n p (layers_of n p trace) (map f more) (layers_of n p (with_more trace more)) is;
    }
