-- Which nodes the points of a piece ask for. In this file layers and tables stand in the order of the points.
use Rattle.std.proofs.Common.{◌≡◌, ℕ, ◌+◌, ◌-◌, ◌<◌, ◌≤◌, ◌⊎◌, List, [], ◌∷◌, ◌++◌, sym, ◌∙◌, inl, inr, subst, arith, length, ⊎_elim}
use Rattle.std.proofs.lemmas.Bool.{cases_lt}
use Rattle.std.proofs.lemmas.List.{get_or_append_left, length_push, length-append, get_or_default}
use Rattle.cost_model.specs.declared.params.Params.{Params}
use Rattle.road_network.specs.Net.{Net}
use Rattle.matching.specs.declared.parts.Cell.{Cell}
use Rattle.matching.specs.declared.parts.Layer.{Layer}
use Rattle.matching.specs.Places.{IsAt}
use Rattle.matching.specs.PieceSteps.{AsksNext, AsksIn, AsksBeforeLast}
use Rattle.matching.proofs.Runs.{EndsWith}

same_at : {X : Type 0} (xs : List X) (i : ℕ) (x y : X) → IsAt xs i x → IsAt xs i y → x ≡ y
same_at xs i x y p q = p.is ∙ get_or_default xs i x y p.below ∙ sym q.is

at_push : {X : Type 0} (xs ys : List X) (i : ℕ) (x : X) → IsAt xs i x → IsAt (xs ++ ys) i x
at_push xs ys i x at =
    let lt = at.below in
    record { below = omega (arith, length-append xs ys, lt); is = at.is ∙ sym (get_or_append_left xs ys x i lt) }

at_unpush : {X : Type 0} (xs ys : List X) (i : ℕ) (x : X) → i < length xs → IsAt (xs ++ ys) i x → IsAt xs i x
at_unpush xs ys i x lt at = record { below = lt; is = at.is ∙ get_or_append_left xs ys x i lt }

-- the point before a new table asks as it would without it
pub before_push : (n : Net) (p : Params) (layers : List Layer) (tables : List (List Cell)) (cells : List Cell) (v : ℕ)
    → AsksBeforeLast n p layers (tables ++ cells ∷ []) v → AsksIn n p layers tables v
before_push n p layers tables cells v (i, lt, asks) = (
  i,
  record {
    here = asks.here;
    next = asks.next;
    cells = asks.cells;
    here_is = asks.here_is;
    next_is = asks.next_is;
    cells_are = at_unpush tables (cells ∷ []) i asks.cells (omega (arith, lt, length_push tables cells)) asks.cells_are;
    asks = asks.asks;
  },
)

pub push_before : (n : Net) (p : Params) (layers : List Layer) (tables : List (List Cell)) (cells : List Cell) (v : ℕ)
    → AsksIn n p layers tables v → AsksBeforeLast n p layers (tables ++ cells ∷ []) v
push_before n p layers tables cells v (i, asks) =
    let lt = asks.cells_are.below in (
      i,
      omega (arith, lt, length_push tables cells),
      record {
        here = asks.here;
        next = asks.next;
        cells = asks.cells;
        here_is = asks.here_is;
        next_is = asks.next_is;
        cells_are = at_push tables (cells ∷ []) i asks.cells asks.cells_are;
        asks = asks.asks;
      },
    )

pub before_in : (n : Net) (p : Params) (layers : List Layer) (tables : List (List Cell)) (v : ℕ) → AsksBeforeLast n p layers tables v → AsksIn n p layers tables v
before_in n p layers tables v (i, lt, asks) = (i, asks)

-- the last point asks, where another follows
pub last_in : (n : Net) (p : Params) (layers : List Layer) (tables : List (List Cell)) (m l : Layer) (cells : List Cell) (v : ℕ)
    → EndsWith layers tables m cells → IsAt layers (length tables) l → AsksNext n p m cells l v → AsksIn n p layers tables v
last_in n p layers tables m l cells v ends at asks =
    let lt = ends.table.below in
    let e : length tables ≡ length tables - 1 + 1 = omega (arith, lt) in (
      length tables - 1,
      record {
        here = m;
        next = l;
        cells = cells;
        here_is = ends.layer;
        next_is = subst (λ k. IsAt layers k l) e at;
        cells_are = ends.table;
        asks = asks;
      },
    )

-- either the last point asks, or one before it
pub in_split : (n : Net) (p : Params) (layers : List Layer) (tables : List (List Cell)) (m l : Layer) (cells : List Cell) (v : ℕ)
    → EndsWith layers tables m cells → IsAt layers (length tables) l → AsksIn n p layers tables v
    → AsksBeforeLast n p layers tables v ⊎ AsksNext n p m cells l v
in_split n p layers tables m l cells v ends at (i, asks) =
    ⊎_elim (λ lt. inl (i, lt, asks))
    (λ ge.
    let below = asks.cells_are.below in
    let last : i ≡ length tables - 1 = omega (arith, ge, below) in
    let next : i + 1 ≡ length tables = omega (arith, ge, below) in
    let here_is = same_at layers (length tables - 1) asks.here m (subst (λ k. IsAt layers k asks.here) last asks.here_is) ends.layer in
    let next_is = same_at layers (length tables) asks.next l (subst (λ k. IsAt layers k asks.next) next asks.next_is) at in
    let cells_are = same_at tables (length tables - 1) asks.cells cells (subst (λ k. IsAt tables k asks.cells) last asks.cells_are) ends.table in
    inr (subst (λ x. AsksNext n p x cells l v) here_is (subst (λ x. AsksNext n p asks.here x l v) cells_are (subst (λ x. AsksNext n p asks.here asks.cells x v) next_is asks.asks))))
    (cases_lt (i + 1) (length tables))

-- at the end of the trace no point follows the last one
pub in_before : (n : Net) (p : Params) (layers : List Layer) (tables : List (List Cell)) (v : ℕ)
    → length layers ≤ length tables → AsksIn n p layers tables v → AsksBeforeLast n p layers tables v
in_before n p layers tables v le (i, asks) = let lt = asks.next_is.below in (i, omega (arith, lt, le), asks)

pub asks_alone : (n : Net) (p : Params) (layers : List Layer) (cells : List Cell) (v : ℕ) → AsksBeforeLast n p layers (cells ∷ []) v → ⊥
asks_alone n p layers cells v (i, lt, asks) = omega (arith, lt)
