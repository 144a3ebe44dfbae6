-- What is handed out where the open piece goes on, and what stays. In this file layers stand in the order of the points.
use Rattle.std.proofs.Common.{◌≡◌, ℕ, zero, suc, ◌+◌, ◌-◌, ◌<◌, ◌≤◌, List, [], ◌∷◌, ◌++◌, Option, refl, sym, ap, ◌∙◌, subst, arith, length, map, take, drop, ⊎_elim}
use Rattle.std.specs.List.{range_with_len}
use Rattle.std.proofs.lemmas.Bool.{cases_lt}
use Rattle.std.proofs.lemmas.List.{append_assoc, append-nil, length-append, length-drop}
use Rattle.cost_model.specs.declared.params.Params.{Params}
use Rattle.road_network.specs.Net.{Net}
use Rattle.matching.specs.declared.parts.Layer.{Layer}
use Rattle.matching.specs.declared.parts.Piece.{Piece}
use Rattle.matching.specs.CommittedValue.{committed_of}
use Rattle.matching.specs.Layers.{trellis}
use Rattle.matching.specs.Value.{best_of, solution}
use Rattle.matching.proofs.ClosedPieces.{closed_split}
use Rattle.matching.proofs.CommittedValues.{committed_split, committed_stays, front, front-within, longer_piece, whole}
use Rattle.matching.proofs.Lists.{all-cons}
use Rattle.matching.proofs.Splits.{from_point, from_joins, OneOrNone, Splits, split_now, split_open, splits}
use Rattle.online_commit.specs.declared.items.Item.{Item}
use Rattle.online_commit.specs.Items.{closed_at, handed, items_of, items_with, item_at, points_from}
use Rattle.online_commit.specs.Session.{ItemsBeginWith, HandedGrows, HandedStays}
use Rattle.online_commit.proofs.Composed.{after, all-left, composed}
use Rattle.online_commit.proofs.Handed.{EndAfter, base, closed-later, end_none, handed-form, items-with, labels_between, same-more, solution-more}
use Rattle.online_commit.proofs.Labels.{kept-labels}
use Rattle.online_commit.proofs.Points.{labels-split, points-bare, points-split}

-- where the open piece goes on

abbrev pub grown : (n : Net) (p : Params) (fed more : List Layer) (s : Splits (trellis n p) 0 fed) → OneOrNone (trellis n p) (drop s.closed fed ++ more) → Splits (trellis n p) 0 (fed ++ more)
grown n p fed more s one = composed (trellis n p) 0 fed more s (split_open (trellis n p) (0 + s.closed) (drop s.closed fed ++ more) one)

pub grown-base : (n : Net) (p : Params) (fed more : List Layer) (s : Splits (trellis n p) 0 fed) (one : OneOrNone (trellis n p) (drop s.closed fed ++ more))
    → base n p (fed ++ more) (grown n p fed more s one) ≡ base n p fed s
grown-base n p fed more s one =
    items-with n p fed (fed ++ more) s [] [] 0 (same-more fed more s.closed s.within) (end_none s.closed) ∙ append-nil (base n p fed s)

pub grown-handed : (n : Net) (p : Params) (fed more : List Layer) (s : Splits (trellis n p) 0 fed) (one : OneOrNone (trellis n p) (drop s.closed fed ++ more)) (k : ℕ)
    → front (trellis n p) (drop (grown n p fed more s one).closed (fed ++ more)) ≡ front (trellis n p) (drop s.closed fed) + k
    → handed n p (fed ++ more) ≡ handed n p fed ++ labels_between n p (fed ++ more) (s.closed + front (trellis n p) (drop s.closed fed)) k
grown-handed n p fed more s one k e =
    let t = trellis n p in
    let h = front t (drop s.closed fed) in
    let z : s.closed + 0 ≡ s.closed = omega arith in
    let committed = committed_split t fed s in
    handed-form n p (fed ++ more) (grown n p fed more s one)
    ∙ ap (λ xs. xs ++ labels_between n p (fed ++ more) (s.closed + 0) (front t (drop (s.closed + 0) (fed ++ more)))) (grown-base n p fed more s one)
    ∙ ap (λ i. base n p fed s ++ labels_between n p (fed ++ more) i (front t (drop (s.closed + 0) (fed ++ more)))) z
    ∙ ap (λ i. base n p fed s ++ labels_between n p (fed ++ more) s.closed i) e
    ∙ ap (λ xs. base n p fed s ++ xs) (labels-split (item_at (fed ++ more) (solution t (fed ++ more)).ranks) s.closed h k)
    ∙ sym (append_assoc (base n p fed s) (labels_between n p (fed ++ more) s.closed h) (labels_between n p (fed ++ more) (s.closed + h) k))
    ∙ ap (λ xs. (base n p fed s ++ xs) ++ labels_between n p (fed ++ more) (s.closed + h) k) (kept-labels n p fed more s.closed h (omega (arith, committed)))
    ∙ ap (λ xs. xs ++ labels_between n p (fed ++ more) (s.closed + h) k) (sym (handed-form n p fed s))

-- what is handed out stays

-- the pieces from the open one on end with its last point so far, or later
tail-ends : (n : Net) (p : Params) (at : ℕ) (xs more : List Layer) → OneOrNone (trellis n p) xs → EndAfter (at + length xs - 1) (from_point (trellis n p) at (xs ++ more)).pieces
tail-ends n p at xs more one =
    ⊎_elim
    (λ some.
    let t = trellis n p in
    let long = longer_piece t xs more some (one some) in
    let m = long.count in
    let least = long.least in
    let ys = xs ++ more in
    let high = after t (length (drop m ys)) (at + m) (drop m ys) in
    subst (λ v. EndAfter (at + length xs - 1) v.pieces) (sym (from_joins t at ys m (omega (arith, some, least)) long.piece))
    (all-cons (λ (q : Piece). at + length xs - 1 ≤ q.last) (record { first = at; last = at + m - 1; cost = (best_of t (take m ys)).cost }) (from_point t (at + m) (drop m ys)).pieces (omega (arith, least, some))
    (λ i d b. let h = high i d b in omega (arith, h, least))))
    (λ few. λ i d b. let h = after (trellis n p) (length (xs ++ more)) at (xs ++ more) i d b in omega (arith, h, few))
    (cases_lt 0 (length xs))

-- the items of points begin with the labels, up to where something is closed
front-labels : (n : Net) (p : Params) (layers : List Layer) (ranks : List (Option ℕ)) (pieces : List Piece) (i h d : ℕ)
    → ((k : ℕ) → i ≤ k → k + 1 < i + h → closed_at n p layers ranks pieces k ≡ [])
    → ItemsBeginWith (points_from (item_at layers ranks) (closed_at n p layers ranks pieces) i (h + d)) (map (item_at layers ranks) (range_with_len i h))
front-labels n p layers ranks pieces i zero d none = (points_from (item_at layers ranks) (closed_at n p layers ranks pieces) i (0 + d), refl)
front-labels n p layers ranks pieces i (suc h) d none =
    let label = item_at layers ranks in
    let closed = closed_at n p layers ranks pieces in
    let rest = points_from label closed (i + h + 1) d in
    let e : suc h + d ≡ h + (1 + d) = omega arith in
    let f : suc h ≡ h + 1 = omega arith in (
      closed (i + h) ++ rest,
      ap (points_from label closed i) e ∙ points-split label closed i h (1 + d)
          ∙ ap (λ xs. xs ++ points_from label closed (i + h) (1 + d)) (points-bare label closed i h (λ k ge lt. none k ge (omega (arith, lt))))
          ∙ ap (λ xs. map label (range_with_len i h) ++ xs) (points-split label closed (i + h) 1 d)
          ∙ ap (λ xs. map label (range_with_len i h) ++ ((label (i + h) ∷ xs) ++ rest)) (append-nil (closed (i + h)))
          ∙ sym (append_assoc (map label (range_with_len i h)) (label (i + h) ∷ []) (closed (i + h) ++ rest))
          ∙ ap (λ xs. xs ++ (closed (i + h) ++ rest)) (sym (labels-split label i h 1))
          ∙ ap (λ k. map label (range_with_len i k) ++ (closed (i + h) ++ rest)) (sym f),
    )

-- whatever pieces that end later are told of more points
begins : (n : Net) (p : Params) (fed more : List Layer) (s : Splits (trellis n p) 0 fed) (rest : List Piece) (count : ℕ)
    → EndAfter (s.closed + length (drop s.closed fed) - 1) rest → EndAfter s.closed rest → s.closed + front (trellis n p) (drop s.closed fed) ≤ count
    → ItemsBeginWith (items_with n p (fed ++ more) (solution (trellis n p) (fed ++ more)).ranks (s.pieces ++ rest) count) (handed n p fed)
begins n p fed more s rest count ends high le =
    let t = trellis n p in
    let xs = drop s.closed fed in
    let h = front t xs in
    let low = front-within t xs s.last in
    let d = count - (s.closed + h) in
    let whole-count : count ≡ s.closed + (h + d) = omega (arith, le) in
    let tail = from_point t s.closed (xs ++ more) in
    let ranks = s.ranks ++ tail.ranks in
    let pieces = s.pieces ++ rest in
    let committed = committed_split t fed s in
    let is = ap (λ v. v.ranks) (solution-more t fed more s) in
    let begin = front-labels n p (fed ++ more) ranks pieces s.closed h d
    (λ k ge lt. closed-later n p fed (fed ++ more) s ranks rest k ge (λ i e b. λ same. let z = ends i e b in omega (arith, z, same, lt, low))) in (
      begin.0,
      ap (λ r. items_with n p (fed ++ more) r pieces count) is
          ∙ ap (items_with n p (fed ++ more) ranks pieces) whole-count
          ∙ items-with n p fed (fed ++ more) s tail.ranks rest (h + d) (same-more fed more s.closed s.within) high
          ∙ ap (λ ys. base n p fed s ++ ys) begin.1
          ∙ sym (append_assoc (base n p fed s) (map (item_at (fed ++ more) ranks) (range_with_len s.closed h)) begin.0)
          ∙ ap (λ r. (base n p fed s ++ map (item_at (fed ++ more) r) (range_with_len s.closed h)) ++ begin.0) (sym is)
          ∙ ap (λ ys. (base n p fed s ++ ys) ++ begin.0) (kept-labels n p fed more s.closed h (omega (arith, committed)))
          ∙ ap (λ ys. ys ++ begin.0) (sym (handed-form n p fed s)),
    )

pub handed-stays : HandedStays
unfolding items_of
handed-stays n p fed more =
    let t = trellis n p in
    let s = whole t fed in
    let xs = drop s.closed fed in
    let tail = from_point t s.closed (xs ++ more) in
    let w = s.within in
    let low = front-within t xs s.last in
    let is = ap (λ v. v.pieces) (solution-more t fed more s) in
    let b = begins n p fed more s tail.pieces (length (fed ++ more)) (tail-ends n p s.closed xs more s.last) (after t (length (xs ++ more)) s.closed (xs ++ more))
    (omega (arith, w, low, length-drop s.closed fed, length-append fed more)) in
    (b.0, ap (λ ps. items_with n p (fed ++ more) (solution t (fed ++ more)).ranks ps (length (fed ++ more))) is ∙ b.1)

-- what was handed out with some points more stays too
pub fed-stays : (n : Net) (p : Params) (fed more : List Layer) (l : Layer) (items : List Item) → handed n p (fed ++ l ∷ []) ≡ handed n p fed ++ items
    → ItemsBeginWith (items_of n p ((fed ++ l ∷ []) ++ more)) (handed n p fed ++ items)
fed-stays n p fed more l items grew = subst (ItemsBeginWith (items_of n p ((fed ++ l ∷ []) ++ more))) grew (handed-stays n p (fed ++ l ∷ []) more)

-- and more points hand out no less

pub handed-grows : HandedGrows
unfolding handed
handed-grows n p fed more =
    let t = trellis n p in
    let s = whole t fed in
    let all = fed ++ more in
    let xs = drop s.closed fed in
    let next = splits t (length (xs ++ more)) (0 + s.closed) (xs ++ more) (omega arith) in
    let new = composed t 0 fed more s next in
    let z : 0 + s.closed ≡ s.closed = omega arith in
    let tail-is : (from_point t s.closed (xs ++ more)).pieces ≡ next.pieces ++ (from_point t (0 + s.closed + next.closed) (drop next.closed (xs ++ more))).pieces =
    ap (λ k. (from_point t k (xs ++ more)).pieces) (sym z) ∙ ap (λ v. v.pieces) (split_now t (0 + s.closed) (xs ++ more) next) in
    let others = (from_point t (0 + s.closed + next.closed) (drop next.closed (xs ++ more))).pieces in
    let ends = all-left (λ (q : Piece). s.closed + length xs - 1 ≤ q.last) next.pieces others (subst (λ ps. EndAfter (s.closed + length xs - 1) ps) tail-is (tail-ends n p s.closed xs more s.last)) in
    let high = all-left (λ (q : Piece). s.closed ≤ q.last) next.pieces others (subst (λ ps. EndAfter s.closed ps) tail-is (after t (length (xs ++ more)) s.closed (xs ++ more))) in
    let grows = (committed_stays t fed more).grows in
    let b = begins n p fed more s next.pieces (committed_of t all) ends high (subst (λ k. k ≤ committed_of t all) (committed_split t fed s) grows) in
    (b.0, ap (λ ps. items_with n p all (solution t all).ranks ps (committed_of t all)) (closed_split t all new) ∙ b.1)
