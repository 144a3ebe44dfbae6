-- What is handed out where a point comes with which the open piece does not go on. In this file layers stand in the
-- order of the points.
use Rattle.std.proofs.Common.{◌≡◌, ℕ, ◌+◌, ◌-◌, ◌<◌, ◌≤◌, List, [], ◌∷◌, ◌++◌, Option, None, sym, ap, ◌∙◌, subst, arith, length, take, drop, get_or}
use Rattle.std.proofs.lemmas.List.{append_assoc, append-nil, length-append}
use Rattle.cost_model.specs.declared.params.Params.{Params}
use Rattle.road_network.specs.Net.{Net}
use Rattle.matching.specs.declared.parts.Layer.{Layer}
use Rattle.matching.specs.declared.parts.Piece.{Piece}
use Rattle.matching.specs.Layers.{trellis}
use Rattle.matching.specs.Pieces.{IsPiece}
use Rattle.matching.specs.Value.{best_of}
use Rattle.matching.proofs.CommittedValues.{front, front-within}
use Rattle.matching.proofs.Lists.{all-cons}
use Rattle.matching.proofs.Splits.{Splits, ranks_of, split_closed}
use Rattle.route_rebuild.specs.Routes.{no_layer}
use Rattle.online_commit.specs.declared.items.Item.{Item}
use Rattle.online_commit.specs.declared.items.Item.TheVariants.{Missing}
use Rattle.online_commit.specs.Items.{closed_at, handed, item_at, label_item, points_from}
use Rattle.online_commit.specs.inside.Steps.{as_ranks, closing_of, counted_piece, rank_in, ranked_items}
use Rattle.online_commit.proofs.Composed.{composed}
use Rattle.online_commit.proofs.Ending.{IsOver, handed-before, over-points}
use Rattle.online_commit.proofs.Handed.{EndAfter, base, end_none, handed-form, items-with, labels_between, same-more}
use Rattle.online_commit.proofs.Labels.{IsBestOf, best-is}
use Rattle.online_commit.proofs.Points.{points-split}

-- the items of the points from point i on, of which the first `count` are closed or have no candidates
abbrev pub new_items : (n : Net) (p : Params) (all : List Layer) (s : Splits (trellis n p) 0 all) (i count : ℕ) → List Item
new_items n p all s i count =
    points_from (item_at all s.ranks) (closed_at n p all s.ranks s.pieces) i count
    ++ labels_between n p all s.closed (front (trellis n p) (drop s.closed all))

-- the open piece is closed, and the point after it begins anew
abbrev pub ended : (n : Net) (p : Params) (fed : List Layer) (l : Layer) (s : Splits (trellis n p) 0 fed) → 0 < length (drop s.closed fed) → IsPiece (trellis n p) (drop s.closed fed ++ l ∷ []) (length (drop s.closed fed))
    → Splits (trellis n p) (0 + s.closed + length (drop s.closed fed)) (drop (length (drop s.closed fed)) (drop s.closed fed ++ l ∷ [])) → Splits (trellis n p) 0 (fed ++ l ∷ [])
ended n p fed l s some piece last =
    let xs = drop s.closed fed in
    composed (trellis n p) 0 fed (l ∷ []) s (split_closed (trellis n p) (0 + s.closed) (xs ++ l ∷ []) (length xs) some (omega (arith, length-append xs (l ∷ []))) piece last)

regroup : (b a c q tail : List Item) → (b ++ ((a ++ c) ++ q)) ++ tail ≡ (b ++ a) ++ (c ++ (q ++ tail))
regroup b a c q tail =
    append_assoc b ((a ++ c) ++ q) tail ∙ ap (λ ys. b ++ ys) (append_assoc (a ++ c) q tail ∙ append_assoc a c (q ++ tail)) ∙ sym (append_assoc b a (c ++ (q ++ tail)))

pub ended-handed : (n : Net) (p : Params) (fed : List Layer) (l : Layer) (s : Splits (trellis n p) 0 fed) (c : ℕ) (ranks : List ℕ) (some : 0 < length (drop s.closed fed)) (piece : IsPiece (trellis n p) (drop s.closed fed ++ l ∷ []) (length (drop s.closed fed)))
    (last : Splits (trellis n p) (0 + s.closed + length (drop s.closed fed)) (drop (length (drop s.closed fed)) (drop s.closed fed ++ l ∷ [])))
    → IsOver n p fed (l ∷ []) s c ranks → IsBestOf (trellis n p) (drop s.closed fed) (length (drop s.closed fed)) c ranks → last.pieces ≡ []
    → handed n p (fed ++ l ∷ []) ≡ handed n p fed
    ++ (closing_of n p s.closed (drop s.closed fed) c ranks (front (trellis n p) (drop s.closed fed))
    ++ new_items n p (fed ++ l ∷ []) (ended n p fed l s some piece last) (s.closed + length (drop s.closed fed)) last.closed)
ended-handed n p fed l s c ranks some piece last over best none =
    let t = trellis n p in
    let xs = drop s.closed fed in
    let L = length xs in
    let h = front t xs in
    let all = fed ++ l ∷ [] in
    let low = front-within t xs s.last in
    let next = ended n p fed l s some piece last in
    let b = best_of t (take L (xs ++ l ∷ [])) in
    let same = best-is t (xs ++ l ∷ []) L c ranks over.best in
    let q : Piece = record { first = 0 + s.closed; last = 0 + s.closed + L - 1; cost = b.cost } in
    let q-is : q ≡ counted_piece s.closed L c =
    (let e : 0 + s.closed + L - 1 ≡ s.closed + (L - 1) = omega (arith, some) in
    let f : 0 + s.closed ≡ s.closed = omega arith in
    ap (λ k. let v : Piece = record { first = k; last = 0 + s.closed + L - 1; cost = b.cost } in v) f
    ∙ ap (λ k. let v : Piece = record { first = s.closed; last = k; cost = b.cost } in v) e
    ∙ ap (λ k. let v : Piece = record { first = s.closed; last = s.closed + (L - 1); cost = k } in v) same.0) in
    let ranks_are : next.ranks ≡ s.ranks ++ (as_ranks ranks ++ last.ranks) = ap (λ r. s.ranks ++ (as_ranks r ++ last.ranks)) same.1 in
    let label = item_at all next.ranks in
    let closed = closed_at n p all next.ranks next.pieces in
    let tail = labels_between n p all next.closed (front t (drop next.closed all)) in
    let Q = points_from label closed (s.closed + L) last.closed in
    let high : EndAfter (s.closed + L) last.pieces = subst (λ ps. EndAfter (s.closed + L) ps) (sym none) (end_none (s.closed + L)) in
    let low-all : EndAfter s.closed (q ∷ last.pieces) = all-cons (λ (x : Piece). s.closed ≤ x.last) q last.pieces (omega (arith, some)) (λ i d lt. let z = high i d lt in omega (arith, z)) in
    let P = points_from label closed s.closed L in
    let open_is : P ≡ ranked_items s.closed xs (rank_in ranks) 0 h ++ closing_of n p s.closed xs c ranks h =
    ap (λ r. points_from (item_at all r) (closed_at n p all r next.pieces) s.closed L) ranks_are
    ∙ over-points n p fed (l ∷ []) s c h ranks last.ranks q last.pieces over low q-is high in
    let A = ranked_items s.closed xs (rank_in ranks) 0 h in
    let C = closing_of n p s.closed xs c ranks h in
    let B = base n p fed s in
    let base-is : base n p all next ≡ B ++ (P ++ Q) =
    items-with n p fed all s (ranks_of b ++ last.ranks) (q ∷ last.pieces) (L + last.closed) (same-more fed (l ∷ []) s.closed s.within) low-all
    ∙ ap (λ ys. B ++ ys) (points-split label closed s.closed L last.closed) in
    handed-form n p all next ∙ ap (λ ys. ys ++ tail) base-is ∙ ap (λ ys. (B ++ (ys ++ Q)) ++ tail) open_is
    ∙ regroup B A C Q tail
    ∙ ap (λ ys. ys ++ (C ++ (Q ++ tail))) (sym (handed-before n p fed s c ranks best low))

-- no piece is open

abbrev pub opened : (n : Net) (p : Params) (fed : List Layer) (l : Layer) (s : Splits (trellis n p) 0 fed) → Splits (trellis n p) (0 + s.closed) (drop s.closed fed ++ l ∷ []) → Splits (trellis n p) 0 (fed ++ l ∷ [])
opened n p fed l s next = composed (trellis n p) 0 fed (l ∷ []) s next

pub opened-handed : (n : Net) (p : Params) (fed : List Layer) (l : Layer) (s : Splits (trellis n p) 0 fed) (next : Splits (trellis n p) (0 + s.closed) (drop s.closed fed ++ l ∷ []))
    → length (drop s.closed fed) ≡ 0 → next.pieces ≡ []
    → handed n p (fed ++ l ∷ []) ≡ handed n p fed ++ new_items n p (fed ++ l ∷ []) (opened n p fed l s next) s.closed next.closed
opened-handed n p fed l s next empty none =
    let t = trellis n p in
    let xs = drop s.closed fed in
    let all = fed ++ l ∷ [] in
    let low = front-within t xs s.last in
    let h : front t xs ≡ 0 = omega (arith, low, empty) in
    let new = opened n p fed l s next in
    let tail = labels_between n p all new.closed (front t (drop new.closed all)) in
    let high : EndAfter s.closed next.pieces = subst (λ ps. EndAfter s.closed ps) (sym none) (end_none s.closed) in
    let before : handed n p fed ≡ base n p fed s = handed-form n p fed s ∙ ap (λ k. base n p fed s ++ labels_between n p fed s.closed k) h ∙ append-nil (base n p fed s) in
    let Q = points_from (item_at all new.ranks) (closed_at n p all new.ranks new.pieces) s.closed next.closed in
    handed-form n p all new ∙ ap (λ ys. ys ++ tail) (items-with n p fed all s next.ranks next.pieces next.closed (same-more fed (l ∷ []) s.closed s.within) high)
    ∙ append_assoc (base n p fed s) Q tail ∙ ap (λ ys. ys ++ (Q ++ tail)) (sym before)

-- the new point has no candidates

label-missing : (layers : List Layer) (ranks : List (Option ℕ)) (i : ℕ) → get_or ranks i None ≡ None → item_at layers ranks i ≡ Missing i
label-missing layers ranks i e = ap (label_item i (get_or layers i no_layer)) e

pub missing-items : (n : Net) (p : Params) (all : List Layer) (s : Splits (trellis n p) 0 all) (i : ℕ) → get_or s.ranks i None ≡ None → closed_at n p all s.ranks s.pieces i ≡ [] → drop s.closed all ≡ []
    → new_items n p all s i 1 ≡ Missing i ∷ []
missing-items n p all s i rank closed rest =
    ap (λ ys. points_from (item_at all s.ranks) (closed_at n p all s.ranks s.pieces) i 1 ++ labels_between n p all s.closed (front (trellis n p) ys)) rest
    ∙ append-nil (points_from (item_at all s.ranks) (closed_at n p all s.ranks s.pieces) i 1)
    ∙ ap (λ x. (x ∷ closed_at n p all s.ranks s.pieces i) ++ []) (label-missing all s.ranks i rank)
    ∙ ap (λ ys. (Missing i ∷ ys) ++ []) closed
