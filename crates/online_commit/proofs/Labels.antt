-- The labels of the open piece, and what it stands for. In this file layers stand in the order of the points.
use Rattle.std.proofs.Common.{◌≡◌, ℕ, ◌+◌, ◌<◌, ◌≤◌, List, ◌++◌, Option, Some, None, sym, ap, ◌∙◌, subst, arith, length, map, take, drop, reverse, get_or}
use Rattle.std.specs.List.{range_with_len}
use Rattle.std.proofs.lemmas.List.{get_or_append_left, get_or-map, get_or-take, get_or-drop, length-drop, length-reverse, length-take-le, reverse-reverse}
use Rattle.cost_model.specs.declared.params.Params.{Params}
use Rattle.road_network.specs.Net.{Net}
use Rattle.matching.specs.declared.parts.Layer.{Layer}
use Rattle.matching.specs.Committed.{IsCommitted}
use Rattle.matching.specs.CommittedValue.{committed_of}
use Rattle.matching.specs.Layers.{trellis}
use Rattle.matching.specs.Pieces.{IsPiece}
use Rattle.matching.specs.Sequences.{Trellis, IsBest}
use Rattle.matching.specs.Value.{best_of, solution}
use Rattle.matching.proofs.CommittedValues.{committed_split, committed_stays, front, front_is, opens_first}
use Rattle.matching.proofs.Costs.{cost-length}
use Rattle.matching.proofs.Fronts.{front-unique}
use Rattle.matching.proofs.Lists.{length-map_some}
use Rattle.matching.proofs.SolutionMatches.{best_of-is}
use Rattle.matching.proofs.Splits.{from_point, from_joins, Splits}
use Rattle.matching.proofs.Unique.{best-unique}
use Rattle.route_rebuild.specs.Routes.{no_layer}
use Rattle.online_commit.specs.Items.{item_at, label_item}
use Rattle.online_commit.specs.Session.{Session, RepresentsLayers, fed_position_count}
use Rattle.online_commit.specs.inside.Steps.{ranked_item, ranked_items}
use Rattle.online_commit.proofs.Handed.{label-later, labels_between, solution-now}
use Rattle.online_commit.proofs.Points.{labels-same, labels-shift}

-- the best sequence of the first m of these points
pub record IsBestOf {L : Type 0} (t : Trellis L) (ys : List L) (m c : ℕ) (ranks : List ℕ) : Type 0 where
  pub some : 0 < m
  pub piece : IsPiece t ys m
  pub best : IsBest t (reverse (take m ys)) c (reverse ranks)

pub best-is : {L : Type 0} (t : Trellis L) (ys : List L) (m c : ℕ) (ranks : List ℕ) → IsBestOf t ys m c ranks → ((best_of t (take m ys)).cost ≡ c) × (reverse (best_of t (take m ys)).ranks ≡ ranks)
best-is t ys m c ranks h =
    let b = best_of t (take m ys) in
    let same = best-unique t (reverse (take m ys)) b.cost c b.ranks (reverse ranks) (best_of-is t (take m ys) h.piece.can.sequence) h.best in
    (same.0, ap reverse same.1 ∙ reverse-reverse ranks)

pub best-length : {L : Type 0} (t : Trellis L) (ys : List L) (m c : ℕ) (ranks : List ℕ) → IsBestOf t ys m c ranks → length ranks ≡ m
best-length t ys m c ranks h =
    let w = h.piece.within in
    let e = cost-length t (reverse (take m ys)) (reverse ranks) c h.best.costs in
    sym (length-reverse ranks) ∙ e ∙ length-reverse (take m ys) ∙ length-take-le m ys w

-- the rank of a point of that piece
pub tail-rank : {L : Type 0} (t : Trellis L) (at : ℕ) (ys : List L) (m c : ℕ) (ranks : List ℕ) (j : ℕ) → IsBestOf t ys m c ranks → j < m
    → get_or (from_point t at ys).ranks j None ≡ Some (get_or ranks j 0)
tail-rank t at ys m c ranks j h lt =
    let b = best_of t (take m ys) in
    let rest = (from_point t (at + m) (drop m ys)).ranks in
    let some : List (Option ℕ) = map (λ r. let o : Option ℕ = Some r in o) ranks in
    let count = best-length t ys m c ranks h in
    ap (λ s. get_or s.ranks j None) (from_joins t at ys m h.some h.piece)
    ∙ ap (λ rs. get_or (map (λ r. let o : Option ℕ = Some r in o) rs ++ rest) j None) (best-is t ys m c ranks h).1
    ∙ get_or_append_left some rest None j (omega (arith, lt, count, length-map_some ranks))
    ∙ get_or-map (λ r. let o : Option ℕ = Some r in o) ranks j 0 None (omega (arith, lt, count))

-- the labels of points of the open piece
pub open-labels : (n : Net) (p : Params) (fed : List Layer) (s : Splits (trellis n p) 0 fed) (rank : ℕ → ℕ) (h k : ℕ)
    → ((j : ℕ) → h ≤ j → j < h + k → get_or (from_point (trellis n p) s.closed (drop s.closed fed)).ranks j None ≡ Some (rank j))
    → labels_between n p fed (s.closed + h) k ≡ ranked_items s.closed (drop s.closed fed) rank h k
open-labels n p fed s rank h k ranks =
    let t = trellis n p in
    let tail = from_point t s.closed (drop s.closed fed) in
    ap (λ v. map (item_at fed v.ranks) (range_with_len (s.closed + h) k)) (solution-now t fed s)
    ∙ labels-shift (item_at fed (s.ranks ++ tail.ranks)) (ranked_item s.closed (drop s.closed fed) rank) (s.closed + h) h k
    (λ i lt.
    let e : s.closed + h + i ≡ s.closed + (h + i) = omega arith in
    ap (item_at fed (s.ranks ++ tail.ranks)) e
    ∙ label-later n p fed fed s tail.ranks (h + i) (rank (h + i)) (get_or (drop s.closed fed) (h + i) no_layer) (sym (get_or-drop s.closed fed (h + i) no_layer)) (ranks (h + i) (omega arith) (omega (arith, lt))))

-- the labels that were committed stay
pub kept-label : (n : Net) (p : Params) (fed more : List Layer) (i : ℕ) → i < committed_of (trellis n p) fed
    → item_at (fed ++ more) (solution (trellis n p) (fed ++ more)).ranks i ≡ item_at fed (solution (trellis n p) fed).ranks i
kept-label n p fed more i lt =
    let t = trellis n p in
    let h = committed_stays t fed more in
    let c = committed_of t fed in
    let w = h.within in
    let a = (solution t fed).ranks in
    let b = (solution t (fed ++ more)).ranks in
    ap (λ l. label_item i l (get_or b i None)) (get_or_append_left fed more no_layer i (omega (arith, lt, w)))
    ∙ ap (label_item i (get_or fed i no_layer)) (sym (get_or-take c b i None lt) ∙ ap (λ r. get_or r i None) (sym h.stays) ∙ get_or-take c a i None lt)

pub kept-labels : (n : Net) (p : Params) (fed more : List Layer) (first k : ℕ) → first + k ≤ committed_of (trellis n p) fed
    → labels_between n p (fed ++ more) first k ≡ labels_between n p fed first k
kept-labels n p fed more first k le =
    labels-same (item_at (fed ++ more) (solution (trellis n p) (fed ++ more)).ranks) (item_at fed (solution (trellis n p) fed).ranks) first k
    (λ i ge lt. kept-label n p fed more i (omega (arith, lt, le)))

-- a session that keeps the open piece of these points, with what is committed of it, stands for them
pub stands-by : (new : Session) (fed : List Layer) (s : Splits (trellis new.network new.params) 0 fed) → s.closed ≡ new.first → new.layers ≡ drop new.first fed → fed_position_count new ≡ length fed
    → IsCommitted (trellis new.network new.params) (reverse new.layers) new.told → RepresentsLayers new fed
stands-by new fed s first layers count committed =
    let t = trellis new.network new.params in
    let xs = drop s.closed fed in
    let same : xs ≡ new.layers = ap (λ k. drop k fed) first ∙ sym layers in
    let front-is-it : front t xs ≡ new.told = front-unique t (reverse xs) (front t xs) new.told (front_is t xs s.last) (subst (λ ys. IsCommitted t (reverse ys) new.told) (sym same) committed) in
    record {
      count = count;
      layers_are = layers;
      first_is = opens_first t fed s ∙ first;
      told_is = committed_split t fed s ∙ ap (λ k. k + front t xs) first ∙ ap (λ k. new.first + k) front-is-it;
    }

-- what a session that stands for points says of where their open piece begins
pub record IsSplitAt (old : Session) (fed : List Layer) (s : Splits (trellis old.network old.params) 0 fed) : Type 0 where
  pub first : s.closed ≡ old.first
  pub layers : drop s.closed fed ≡ old.layers
  pub told : front (trellis old.network old.params) (drop s.closed fed) ≡ old.told
  pub within : s.closed ≤ length fed
  pub count : s.closed + length (drop s.closed fed) ≡ length fed

pub split-of : (old : Session) (fed : List Layer) (s : Splits (trellis old.network old.params) 0 fed) → RepresentsLayers old fed → IsSplitAt old fed s
split-of old fed s st =
    let t = trellis old.network old.params in
    let first : s.closed ≡ old.first = sym (opens_first t fed s) ∙ st.first_is in
    let w = s.within in
    let a = committed_split t fed s in
    let b = st.told_is in
    record {
      first = first;
      layers = ap (λ k. drop k fed) first ∙ sym st.layers_are;
      told = omega (arith, a, b, first);
      within = w;
      count = omega (arith, w, length-drop s.closed fed);
    }
