-- The points of a piece whose tables are a run.
use Rattle.std.proofs.Common.{◌≡◌, ◌<◌, ◌≤◌, ℕ, ◌+◌, ◌-◌, Bool, true, false, List, [], ◌∷◌, length, get_or, take, drop, reverse, Option, Some, None, refl, sym, ◌∙◌, ap, subst, arith, ⊎_elim}
use Rattle.std.proofs.lemmas.Bool.{cases_lt, false≢true}
use Rattle.std.proofs.lemmas.List.{get_or-drop, get_or-take}
use Rattle.matching.specs.declared.parts.Cell.{Cell}
use Rattle.matching.specs.declared.parts.Layer.{Layer}
use Rattle.matching.specs.Cells.{cell_at}
use Rattle.matching.specs.Layers.{trellis}
use Rattle.matching.specs.Local.{AreFirst, AreLinked, AreNext, IsTightCost, by_pointers}
use Rattle.matching.specs.Match.{from_to}
use Rattle.matching.specs.Pieces.{CanBePiece, IsPiece}
use Rattle.matching.specs.Places.{IsAt}
use Rattle.matching.specs.Sequences.{Trellis, HasSequence}
use Rattle.matching.specs.SoFar.{IsRun}
use Rattle.matching.proofs.Chosen.{live_reached, some_live}
use Rattle.matching.proofs.Costs.{added-parts, cost-goes_on}
use Rattle.matching.proofs.Ends.{can_fewer, can_more, cannot_far, piece_filled}
use Rattle.matching.proofs.Linked.{linked_count}
use Rattle.matching.proofs.Lists.{at-drop, at-get_or, reverse-take}
use Rattle.matching.proofs.Runs.{run_at}
use Rattle.match_text.specs.declared.matched.Routed.{Routed}
use Rattle.route_rebuild.specs.Routes.{no_layer}
use Rattle.route_rebuild.proofs.ChosenRun.{length_between}
use Rattle.cert_checker.specs.Case.{Case, layer, table, way, width}
use Rattle.cert_checker.proofs.ListTests.{IsThere}
use Rattle.cert_checker.proofs.PieceTests.{IsIn, IsLater}
use Rattle.cert_checker.proofs.PointConditions.{HasWay, IsLookedAt}
use Rattle.cert_checker.proofs.BestRanks.{first_at, next_at}

abbrev pub trellis_of : Case → Trellis Layer
trellis_of c = trellis c.net c.params

-- the layers from the first point of a piece on, and the tables of its points
abbrev pub layers_from : Case → Routed → List Layer
layers_from c q = drop q.first c.layers

abbrev pub tables_in : Case → Routed → List (List Cell)
tables_in c q = from_to q.first q.last c.proof.tables

-- an element of a stretch of a list
pub from_to_at : {X : Type 0} (first last j : ℕ) (xs : List X) (d : X) → j < last + 1 - first → get_or (from_to first last xs) j d ≡ get_or xs (first + j) d
from_to_at first last j xs d lt = get_or-take (last + 1 - first) (drop first xs) j d lt ∙ get_or-drop first xs j d

pub record IsRunOf (c : Case) (q : Routed) : Type 0 where
  pub some : q.first ≤ q.last
  pub inside : q.last < length c.layers
  pub tables : length c.proof.tables ≡ length c.layers
  pub piece : IsPiece (trellis_of c) (layers_from c q) (q.last + 1 - q.first)
  pub run : IsRun (trellis_of c) (layers_from c q) (tables_in c q)

pub layer_from : (c : Case) (q : Routed) (i : ℕ) → q.first ≤ i → i < length c.layers → IsAt (layers_from c q) (i - q.first) (layer c i)
layer_from c q i ge lt = at-drop c.layers q.first i (layer c i) ge (at-get_or c.layers i no_layer lt)

pub table_in : (c : Case) (q : Routed) (i : ℕ) → IsIn i q → q.last < length c.proof.tables → IsAt (tables_in c q) (i - q.first) (table c i)
table_in c q i in_q inside =
    let ge = in_q.0 in
    let le = in_q.1 in
    let k = i - q.first in
    let count = length_between c.proof.tables q.first q.last (omega (arith, ge, le)) inside in
    let e : q.first + k ≡ i = omega (arith, ge) in
    let same : get_or (tables_in c q) k [] ≡ table c i =
    from_to_at q.first q.last k c.proof.tables [] (omega (arith, ge, le)) ∙ ap (λ v. get_or c.proof.tables v []) e in
    subst (λ v. IsAt (tables_in c q) k v) same (at-get_or (tables_in c q) k [] (omega (arith, count, ge, le)))

inside_tables : (c : Case) (q : Routed) → IsRunOf c q → q.last < length c.proof.tables
inside_tables c q h = let lt = h.inside in let e = h.tables in omega (arith, lt, e)

pub layer_at : (c : Case) (q : Routed) (i : ℕ) → IsRunOf c q → IsIn i q → IsAt (layers_from c q) (i - q.first) (layer c i)
layer_at c q i h in_q = let lt = h.inside in let le = in_q.1 in layer_from c q i in_q.0 (omega (arith, lt, le))

pub table_at : (c : Case) (q : Routed) (i : ℕ) → IsRunOf c q → IsIn i q → IsAt (tables_in c q) (i - q.first) (table c i)
table_at c q i h in_q = table_in c q i in_q (inside_tables c q h)

pub linked_of : (c : Case) (q : Routed) (i : ℕ) → IsRunOf c q → IsIn i q
    → AreLinked (trellis_of c) (layer c i ∷ reverse (take (i - q.first) (layers_from c q))) (table c i ∷ reverse (take (i - q.first) (tables_in c q)))
linked_of c q i h in_q =
    run_at (trellis_of c) (layers_from c q) (tables_in c q) (i - q.first) (layer c i) (table c i) h.run.linked h.run.within (layer_at c q i h in_q) (table_at c q i h in_q)

pub width_of : (c : Case) (q : Routed) (i : ℕ) → IsRunOf c q → IsIn i q → length (table c i) ≡ width c i
width_of c q i h in_q =
    linked_count (trellis_of c) (layer c i) (reverse (take (i - q.first) (layers_from c q))) (table c i) (reverse (take (i - q.first) (tables_in c q))) (linked_of c q i h in_q)

pub filled_of : (c : Case) (q : Routed) (i : ℕ) → IsRunOf c q → IsIn i q → 0 < width c i
filled_of c q i h in_q =
    let ge = in_q.0 in
    let le = in_q.1 in
    ⊎_elim (λ lt. lt)
    (λ few. absurd (piece_filled (trellis_of c) (layers_from c q) (q.last + 1 - q.first) (i - q.first) (layer c i) h.piece (omega (arith, ge, le)) (layer_at c q i h in_q) (omega (arith, few))))
    (cases_lt 0 (width c i))

-- the cells of the first point
pub first_of : (c : Case) (q : Routed) → IsRunOf c q → AreFirst (trellis_of c) (layer c q.first) (table c q.first)
first_of c q h =
    let some = h.some in
    let in_q : IsIn q.first q = (omega arith, some) in
    let e : q.first - q.first ≡ 0 = omega arith in
    first_at (trellis_of c) (layers_from c q) (tables_in c q) (layer c q.first) (table c q.first) h.run
    (subst (λ k. IsAt (layers_from c q) k (layer c q.first)) e (layer_at c q q.first h in_q))
    (subst (λ k. IsAt (tables_in c q) k (table c q.first)) e (table_at c q q.first h in_q))

-- a later point and the point before it
pub before_in : (i : ℕ) (q : Routed) → IsLater i q → IsIn (i - 1) q
before_in i q later = let lt = later.1 in let le = later.0.1 in (omega (arith, lt), omega (arith, le))

-- the cells of a later point
pub later_of : (c : Case) (q : Routed) (i : ℕ) → IsRunOf c q → IsLater i q → AreNext (trellis_of c) (layer c (i - 1)) (table c (i - 1)) (layer c i) (table c i)
later_of c q i h later =
    let lt = later.1 in
    let k = i - 1 - q.first in
    let e : i - q.first ≡ k + 1 = omega (arith, lt) in
    let before = before_in i q later in
    next_at (trellis_of c) (layers_from c q) (tables_in c q) k (layer c (i - 1)) (layer c i) (table c (i - 1)) (table c i) h.run
    (layer_at c q (i - 1) h before) (subst (λ v. IsAt (layers_from c q) v (layer c i)) e (layer_at c q i h later.0))
    (table_at c q (i - 1) h before) (subst (λ v. IsAt (tables_in c q) v (table c i)) e (table_at c q i h later.0))

-- the points of the piece up to one of them can be a piece
pub can_to : (c : Case) (q : Routed) (i : ℕ) → IsRunOf c q → IsIn i q → CanBePiece (trellis_of c) (layers_from c q) (i - q.first + 1)
can_to c q i h in_q =
    let ge = in_q.0 in
    let le = in_q.1 in
    let within = h.piece.within in
    let e : q.last + 1 - q.first ≡ i - q.first + 1 + (q.last - i) = omega (arith, ge, le) in
    can_fewer (trellis_of c) (layers_from c q) (i - q.first + 1) (q.last - i) (omega (arith, within, e)) (subst (λ k. CanBePiece (trellis_of c) (layers_from c q) k) e h.piece.can)

true_if : (b : Bool) → ((b ≡ true → ⊥) → ⊥) → b ≡ true
true_if true h = refl
true_if false h = absurd (h (λ e. false≢true e))

tight_there-at_cost : (ways : ℕ → Option ℕ) (n c : ℕ) (x y : Option ℕ) → IsTightCost ways n x y → x ≡ Some c → (a : ℕ) × (a < n) × IsThere (ways a)
tight_there-at_cost ways n c None y h e = absurd (cc)
tight_there-at_cost ways n c (Some b) None h e = absurd h
tight_there-at_cost ways n c (Some b) (Some a) h e = (a, h.0, (b, h.1))

-- a later point is looked at and reached
pub looked_of : (c : Case) (q : Routed) (i : ℕ) → IsRunOf c q → IsLater i q → IsLookedAt c i
looked_of c q i h later =
    let lt = later.1 in
    let k = i - 1 - q.first in
    let e : i - q.first ≡ k + 1 = omega (arith, lt) in
    let before = before_in i q later in
    let near = (trellis_of c).near (layer c (i - 1)) (layer c i) in
    let is_near : near ≡ true = true_if near
    (λ far. cannot_far (trellis_of c) (layers_from c q) k (layer c (i - 1)) (layer c i) (layer_at c q (i - 1) h before) (subst (λ v. IsAt (layers_from c q) v (layer c i)) e (layer_at c q i h later.0)) far
    (subst (λ v. CanBePiece (trellis_of c) (layers_from c q) (v + 1)) e (can_to c q i h later.0))) in
    (omega (arith, lt), (filled_of c q (i - 1) h before, (filled_of c q i h later.0, is_near)))

pub reached_of : (c : Case) (q : Routed) (i : ℕ) → IsRunOf c q → IsLater i q → HasWay c i
reached_of c q i h later =
    let t = trellis_of c in
    let k = i - q.first in
    let sequence = subst (λ xs. HasSequence t xs) (reverse-take (layers_from c q) k (layer c i) (layer_at c q i h later.0)) (can_to c q i h later.0).sequence in
    let live = some_live t (layer c i) (reverse (take k (layers_from c q))) (table c i) (reverse (take k (tables_in c q))) (linked_of c q i h later.0) sequence in
    let least = (later_of c q i h later).each live.0 live.2 in
    (live.0, live.2, tight_there-at_cost (λ a. way c i a live.0) (width c (i - 1)) live.1 ((cell_at (table c i) live.0).cost) ((cell_at (table c i) live.0).«from») least.tight live.3)

-- the piece goes no further
pub ends_of : (c : Case) (q : Routed) (i : ℕ) → IsRunOf c q → q.last + 1 ≡ i → i < length c.layers → IsLookedAt c i → HasWay c i → ⊥
ends_of c q i h next lt look way_there =
    let t = trellis_of c in
    let xs = layers_from c q in
    let some = h.some in
    let k = i - 1 - q.first in
    let e : i - q.first ≡ k + 1 = omega (arith, next, some) in
    let before : IsIn (i - 1) q = (omega (arith, next, some), omega (arith, next)) in
    let m = layer c (i - 1) in
    let l = layer c i in
    let m-at = layer_at c q (i - 1) h before in
    let l-at = subst (λ v. IsAt xs v l) e (layer_from c q i (omega (arith, next, some)) lt) in
    let j = way_there.0 in
    let a = way_there.2.0 in
    let s = way_there.2.2 in
    let parts = added-parts ((cell_at (table c (i - 1)) a).cost) (t.transition m a l j) (t.emission l j) s.0 s.1 in
    let best = live_reached t m (reverse (take k xs)) (table c (i - 1)) (reverse (take k (tables_in c q))) a parts.first (linked_of c q (i - 1) h before) way_there.2.1 parts.first_is in
    let ranks = by_pointers (reverse (take k (tables_in c q))) ((cell_at (table c (i - 1)) a).«from») in
    let whole = cost-goes_on t m (reverse (take k xs)) a ranks l j parts.first parts.second way_there.1 best.costs parts.second-is in
    let has : HasSequence t (l ∷ m ∷ reverse (take k xs)) = (parts.first + parts.second + t.emission l j, j ∷ a ∷ ranks, whole) in
    let sequence : HasSequence t (reverse (take (k + 1 + 1) xs)) =
    subst (λ ys. HasSequence t ys) (sym (reverse-take xs (k + 1) l l-at)) (subst (λ ys. HasSequence t (l ∷ ys)) (sym (reverse-take xs k m m-at)) has) in
    let can = can_more t xs k m l m-at l-at (can_to c q (i - 1) h before) look.1.1.1 sequence in
    let below = l-at.below in
    h.piece.greatest (k + 1 + 1) (omega (arith, next, some)) (omega (arith, below)) can
