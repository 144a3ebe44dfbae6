-- Which rows some points ask for, and one point more. In this file layers and tables stand in the order of the points.
use Rattle.std.proofs.Common.{◌≡◌, ℕ, zero, suc, ◌+◌, ◌-◌, ◌<◌, ◌≤◌, ◌⊎◌, inl, inr, ⊎_elim, List, [], ◌∷◌, ◌++◌, Some, refl, sym, ap, ◌∙◌, subst, arith, length, take, drop, reverse, slice_get, IsTrue}
use Rattle.std.specs.Prelude.{Contains}
use Rattle.std.specs.List.{All}
use Rattle.std.proofs.lemmas.Bool.{cases_lt}
use Rattle.std.proofs.lemmas.List.{append-nil, length-append, length-drop}
use Rattle.std.proofs.lemmas.List.Elements.{All-contains, Contains-append_cases, Contains-append_left, Contains-append_right}
use Rattle.std.proofs.lemmas.Option.{slice_get_read, slice_get_within}
use Rattle.cost_model.specs.declared.params.Params.{Params}
use Rattle.road_network.specs.Net.{Net}
use Rattle.matching.specs.declared.parts.Cell.{Cell}
use Rattle.matching.specs.declared.parts.Layer.{Layer}
use Rattle.matching.specs.declared.parts.Piece.{Piece}
use Rattle.matching.specs.Layers.{end_of, trellis}
use Rattle.matching.specs.PieceSteps.{AsksIn, AsksNext}
use Rattle.matching.specs.Pieces.{IsPiece}
use Rattle.matching.specs.Places.{IsAt}
use Rattle.matching.specs.Sequences.{IsRankReached}
use Rattle.matching.specs.SoFar.{IsRun}
use Rattle.matching.specs.Value.{best_of, solution}
use Rattle.matching.proofs.CommittedValues.{longer_piece}
use Rattle.matching.proofs.Runs.{EndsWith, run_live, run_reached}
use Rattle.matching.proofs.Splits.{from_point, from_joins, Splits}
use Rattle.matching.proofs.WholePiece.{asked_in, at_whole}
use Rattle.online_commit.specs.Session.{AsksPoints}
use Rattle.online_commit.proofs.Composed.{IsAfter, from-after}
use Rattle.online_commit.proofs.Handed.{solution-more, solution-now}
use Rattle.online_commit.proofs.PieceRows.{at-fewer, at-itself, at-more, points-same, slice-left, slice-seam}

only-in : {X : Type 0} (x y : X) → Contains (x ∷ []) y → y ≡ x
only-in x y (zero, lt, e) = sym e
only-in x y (suc k, lt, e) = absurd (omega (arith, lt))

-- the open piece, as one of the match of these points or of one point more
record IsOpenIn (pieces : List Piece) (first last : ℕ) : Type 0 where
  piece : Piece
  «in» : Contains pieces piece
  first_is : piece.first ≡ first
  last-is : last ≤ piece.last

head-in : {X : Type 0} (x : X) (xs : List X) → Contains (x ∷ xs) x
head-in x xs = (0, omega arith, refl)

now-pieces : (n : Net) (p : Params) (fed : List Layer) (s : Splits (trellis n p) 0 fed) → (solution (trellis n p) fed).pieces ≡ s.pieces ++ (from_point (trellis n p) s.closed (drop s.closed fed)).pieces
now-pieces n p fed s = ap (λ v. v.pieces) (solution-now (trellis n p) fed s)

more-pieces : (n : Net) (p : Params) (fed more : List Layer) (s : Splits (trellis n p) 0 fed)
    → (solution (trellis n p) (fed ++ more)).pieces ≡ s.pieces ++ (from_point (trellis n p) s.closed (drop s.closed fed ++ more)).pieces
more-pieces n p fed more s = ap (λ v. v.pieces) (solution-more (trellis n p) fed more s)

-- the open piece, with any points behind it
open-tail : (n : Net) (p : Params) (at : ℕ) (xs : List Layer) (m : ℕ) → 0 < m → IsPiece (trellis n p) xs m
    → (rest : List Piece) × ((from_point (trellis n p) at xs).pieces ≡ record { first = at; last = at + m - 1; cost = (best_of (trellis n p) (take m xs)).cost } ∷ rest) × All (IsAfter (at + m)) rest
open-tail n p at xs m some piece =
    let t = trellis n p in
    ((from_point t (at + m) (drop m xs)).pieces, ap (λ v. v.pieces) (from_joins t at xs m some piece), from-after t (at + m) (drop m xs))

open-in : (n : Net) (p : Params) (fed more : List Layer) (s : Splits (trellis n p) 0 fed) → 0 < length (drop s.closed fed) → IsOpenIn (solution (trellis n p) (fed ++ more)).pieces s.closed (length fed - 1)
open-in n p fed more s some =
    let t = trellis n p in
    let xs = drop s.closed fed in
    let long = longer_piece t xs more some (s.last some) in
    let least = long.least in
    let m = long.count in
    let w = s.within in
    let left = length-drop s.closed fed in
    let tail = open-tail n p s.closed (xs ++ more) m (omega (arith, some, least)) long.piece in
    let q : Piece = record { first = s.closed; last = s.closed + m - 1; cost = (best_of t (take m (xs ++ more))).cost } in
    let is : (solution t (fed ++ more)).pieces ≡ s.pieces ++ q ∷ tail.0 = more-pieces n p fed more s ∙ ap (λ ps. s.pieces ++ ps) tail.1 in
    record {
      piece = q;
      «in» = subst (λ ps. Contains ps q) (sym is) (Contains-append_right s.pieces (q ∷ tail.0) q (head-in q tail.0));
      first_is = refl;
      last-is = omega (arith, least, left, w, some);
    }

open-now : (n : Net) (p : Params) (fed : List Layer) (s : Splits (trellis n p) 0 fed) → 0 < length (drop s.closed fed) → IsOpenIn (solution (trellis n p) fed).pieces s.closed (length fed - 1)
open-now n p fed s some =
    let t = trellis n p in
    let xs = drop s.closed fed in
    let m = length xs in
    let w = s.within in
    let left = length-drop s.closed fed in
    let tail = open-tail n p s.closed xs m some (s.last some) in
    let q : Piece = record { first = s.closed; last = s.closed + m - 1; cost = (best_of t (take m xs)).cost } in
    let is : (solution t fed).pieces ≡ s.pieces ++ q ∷ tail.0 = now-pieces n p fed s ∙ ap (λ ps. s.pieces ++ ps) tail.1 in
    record {
      piece = q;
      «in» = subst (λ ps. Contains ps q) (sym is) (Contains-append_right s.pieces (q ∷ tail.0) q (head-in q tail.0));
      first_is = refl;
      last-is = omega (arith, left, w, some);
    }

-- a piece of the match with more points: it is a closed one, or the open one, or lies behind the points
abbrev IsKind : (n : Net) (p : Params) (fed : List Layer) → Splits (trellis n p) 0 fed → Piece → Type 0
IsKind n p fed s q = Contains s.pieces q ⊎ ((0 < length (drop s.closed fed)) × (q.first ≡ s.closed)) ⊎ (length fed ≤ q.first)

kind-tail : (n : Net) (p : Params) (fed more : List Layer) (s : Splits (trellis n p) 0 fed) (q : Piece) → Contains (from_point (trellis n p) s.closed (drop s.closed fed ++ more)).pieces q → IsKind n p fed s q
kind-tail n p fed more s q c =
    let t = trellis n p in
    let xs = drop s.closed fed in
    let w = s.within in
    let left = length-drop s.closed fed in
    ⊎_elim
    (λ some.
    let long = longer_piece t xs more some (s.last some) in
    let least = long.least in
    let m = long.count in
    let tail = open-tail n p s.closed (xs ++ more) m (omega (arith, some, least)) long.piece in
    let first : Piece = record { first = s.closed; last = s.closed + m - 1; cost = (best_of t (take m (xs ++ more))).cost } in
    ⊎_elim
    (λ here. inr (inl (some, ap (λ (x : Piece). x.first) (only-in first q here))))
    (λ there. inr (inr (let a = (All-contains (IsAfter (s.closed + m)) tail.0 q tail.2 there).first in omega (arith, a, least, left, w))))
    (Contains-append_cases (first ∷ []) tail.0 q (subst (λ ps. Contains ps q) tail.1 c)))
    (λ few. inr (inr (let a = (All-contains (IsAfter s.closed) (from_point t s.closed (xs ++ more)).pieces q (from-after t s.closed (xs ++ more)) c).first in omega (arith, a, few, left, w))))
    (cases_lt 0 (length xs))

kind-of : (n : Net) (p : Params) (fed more : List Layer) (s : Splits (trellis n p) 0 fed) (q : Piece) → Contains (solution (trellis n p) (fed ++ more)).pieces q → IsKind n p fed s q
kind-of n p fed more s q c =
    ⊎_elim (λ closed. inl closed) (λ tail. kind-tail n p fed more s q tail)
    (Contains-append_cases s.pieces (from_point (trellis n p) s.closed (drop s.closed fed ++ more)).pieces q (subst (λ ps. Contains ps q) (more-pieces n p fed more s) c))

-- what some points ask for, more points ask for too
pub asks-more : (n : Net) (p : Params) (fed more : List Layer) (s : Splits (trellis n p) 0 fed) (v : ℕ) → AsksPoints n p fed v → AsksPoints n p (fed ++ more) v
asks-more n p fed more s v (q, c, (i, asked)) =
    let t = trellis n p in
    let lt = slice_get_within fed (i + 1) asked.next asked.next_is in
    let ge = asked.after_first in
    let closed : Contains s.pieces q → AsksPoints n p (fed ++ more) v = λ k.
    (q, subst (λ ps. Contains ps q) (sym (more-pieces n p fed more s)) (Contains-append_left s.pieces (from_point t s.closed (drop s.closed fed ++ more)).pieces q k), (i, at-more n p fed more q i v asked q refl asked.to_last)) in
    let open_is : 0 < length (drop s.closed fed) → q.first ≡ s.closed → AsksPoints n p (fed ++ more) v = λ some first.
    let o = open-in n p fed more s some in
    let high = o.last-is in
    (o.piece, o.«in», (i, at-more n p fed more q i v asked o.piece (o.first_is ∙ sym first) (omega (arith, high, lt)))) in
    ⊎_elim closed (λ others. ⊎_elim (λ here. open_is here.0 here.1) (λ later. absurd (omega (arith, later, ge, lt))) others)
    (kind-of n p fed [] s q (subst (λ ys. Contains (solution t ys).pieces q) (sym (append-nil fed)) c))

-- the last point of the open piece, with its cells
pub record IsLastPoint (n : Net) (p : Params) (fed : List Layer) (s : Splits (trellis n p) 0 fed) (tables : List (List Cell)) (m : Layer) (cells : List Cell) : Type 0 where
  pub run : IsRun (trellis n p) (drop s.closed fed) tables
  pub count : length tables ≡ length (drop s.closed fed)
  pub ends : EndsWith (drop s.closed fed) tables m cells

last-place : (n : Net) (p : Params) (fed : List Layer) (s : Splits (trellis n p) 0 fed) (tables : List (List Cell)) (m : Layer) (cells : List Cell)
    → IsLastPoint n p fed s tables m cells → slice_get fed (length fed - 1) ≡ Some m
last-place n p fed s tables m cells last =
    let at = at_whole fed s.closed (length tables - 1) m last.ends.layer in
    let some = last.run.some in
    let w = s.within in
    let left = length-drop s.closed fed in
    let e : s.closed + (length tables - 1) ≡ length fed - 1 = omega (arith, w, left, last.count, some) in
    let here = subst (λ k. IsAt fed k m) e at in
    slice_get_read fed (length fed) (length fed - 1) m refl here.below here.is

-- the points of the open piece, as they are seen from its last point
last-points : (n : Net) (p : Params) (fed more : List Layer) (s : Splits (trellis n p) 0 fed) (first : ℕ) → first ≡ s.closed → 0 < length (drop s.closed fed)
    → take (length fed - 1 + 1 - first) (drop first (fed ++ more)) ≡ take (length (drop s.closed fed) - 1 + 1) (drop s.closed fed)
last-points n p fed more s first is some =
    let w = s.within in
    let left = length-drop s.closed fed in
    let e : length fed - 1 + 1 - s.closed ≡ length (drop s.closed fed) - 1 + 1 = omega (arith, w, left, some) in
    ap (λ k. take (length fed - 1 + 1 - k) (drop k (fed ++ more))) is
    ∙ points-same fed more s.closed (length fed - 1) (omega (arith, w, left, some)) (omega (arith, left, some))
    ∙ ap (λ k. take k (drop s.closed fed)) e

-- the step to one point more asks for what these points ask for with it
pub asks-step : (n : Net) (p : Params) (fed : List Layer) (l : Layer) (s : Splits (trellis n p) 0 fed) (tables : List (List Cell)) (m : Layer) (cells : List Cell) (v : ℕ)
    → IsLastPoint n p fed s tables m cells → AsksNext n p m cells l v → AsksPoints n p (fed ++ l ∷ []) v
asks-step n p fed l s tables m cells v last asks =
    let t = trellis n p in
    let xs = drop s.closed fed in
    let run-some = last.run.some in
    let w = s.within in
    let left = length-drop s.closed fed in
    let some : 0 < length xs = omega (arith, run-some, last.count) in
    let o = open-in n p fed (l ∷ []) s some in
    let first = o.first_is in
    let high = o.last-is in
    let i = length fed - 1 in
    let next : i + 1 ≡ length fed = omega (arith, left, some) in
    let z : length tables - 1 ≡ length xs - 1 = ap (λ k. k - 1) last.count in
    let a = asks.asks in
    let reached = run_reached t xs tables (length tables - 1) m cells a.0 last.run last.ends.layer last.ends.table a.1.1 in (
      o.piece,
      o.«in»,
      (
        i,
        record {
          after_first = omega (arith, first, left, some, w);
          to_last = high;
          here = m;
          next = l;
          rank = a.0;
          here_is = slice-left fed (l ∷ []) i (omega (arith, left, some)) ∙ last-place n p fed s tables m cells last;
          next_is = ap (slice_get (fed ++ l ∷ [])) next ∙ slice-seam fed l;
          next_some = asks.some;
          near = asks.near;
          reached = subst (λ ys. IsRankReached t (reverse ys) a.0) (sym (last-points n p fed (l ∷ []) s o.piece.first first some))
              (subst (λ k. IsRankReached t (reverse (take (k + 1) xs)) a.0) z reached);
          node_is = a.1.0;
        },
      ),
    )

-- and for nothing else that they did not ask for without it
pub asks-split : (n : Net) (p : Params) (fed : List Layer) (l : Layer) (s : Splits (trellis n p) 0 fed) (v : ℕ) → AsksPoints n p (fed ++ l ∷ []) v
    → AsksPoints n p fed v ⊎ ((0 < length (drop s.closed fed)) × ((tables : List (List Cell)) (m : Layer) (cells : List Cell) → IsLastPoint n p fed s tables m cells → AsksNext n p m cells l v))
asks-split n p fed l s v (q, c, (i, asked)) =
    let t = trellis n p in
    let xs = drop s.closed fed in
    let all = fed ++ l ∷ [] in
    let lt = slice_get_within all (i + 1) asked.next asked.next_is in
    let len = length-append fed (l ∷ []) in
    let w = s.within in
    let left = length-drop s.closed fed in
    let ge = asked.after_first in
    let le = asked.to_last in
    let closed : Contains s.pieces q → AsksPoints n p fed v = λ k.
    let each = All-contains (λ (x : Piece). x.last + 1 < 0 + length fed) s.pieces q s.each k in (
      q,
      subst (λ ps. Contains ps q) (sym (now-pieces n p fed s)) (Contains-append_left s.pieces (from_point t s.closed xs).pieces q k),
      (i, at-fewer n p fed (l ∷ []) q i v (omega (arith, each, le)) asked q refl le),
    ) in
    let earlier : 0 < length xs → q.first ≡ s.closed → i + 1 < length fed → AsksPoints n p fed v = λ some first less.
    let o = open-now n p fed s some in
    let high = o.last-is in
    (o.piece, o.«in», (i, at-fewer n p fed (l ∷ []) q i v less asked o.piece (o.first_is ∙ sym first) (omega (arith, high, less)))) in
    let latest : 0 < length xs → q.first ≡ s.closed → i + 1 ≡ length fed → (tables : List (List Cell)) (m : Layer) (cells : List Cell) → IsLastPoint n p fed s tables m cells → AsksNext n p m cells l v =
    λ some first e tables m cells last.
    let k : i ≡ length fed - 1 = omega (arith, e) in
    let z : length xs - 1 ≡ length tables - 1 = ap (λ j. j - 1) (sym last.count) in
    let here_is : Some asked.here ≡ Some m =
    sym asked.here_is ∙ slice-left fed (l ∷ []) i (omega (arith, e)) ∙ ap (slice_get fed) k ∙ last-place n p fed s tables m cells last in
    let next_is : Some asked.next ≡ Some l = sym asked.next_is ∙ ap (slice_get all) e ∙ slice-seam fed l in
    let here : asked.here ≡ m = cc in
    let next : asked.next ≡ l = cc in
    let reached : IsRankReached t (reverse (take (length tables - 1 + 1) xs)) asked.rank =
    subst (λ j. IsRankReached t (reverse (take (j + 1) xs)) asked.rank) z
    (subst (λ ys. IsRankReached t (reverse ys) asked.rank) (last-points n p fed (l ∷ []) s q.first first some)
    (subst (λ j. IsRankReached t (reverse (take (j + 1 - q.first) (drop q.first all))) asked.rank) k asked.reached)) in
    let live = run_live t xs tables (length tables - 1) m cells asked.rank last.run last.ends.layer last.ends.table reached in
    record {
      some = subst (λ x. 0 < t.width x) next asked.next_some;
      near = subst (λ x. IsTrue (t.near m x)) next (subst (λ x. IsTrue (t.near x asked.next)) here asked.near);
      asks = (asked.rank, (subst (λ x. end_of n x asked.rank ≡ v) here asked.node_is, live));
    } in
    ⊎_elim (λ k. inl (closed k))
    (λ others. ⊎_elim
    (λ here. ⊎_elim (λ less. inl (earlier here.0 here.1 less)) (λ more. inr (here.0, latest here.0 here.1 (omega (arith, more, lt, len)))) (cases_lt (i + 1) (length fed)))
    (λ later. absurd (omega (arith, later, ge, lt, len)))
    others)
    (kind-of n p fed (l ∷ []) s q c)

-- what the points of the open piece ask for, these points ask for
pub asks-open : (n : Net) (p : Params) (fed : List Layer) (s : Splits (trellis n p) 0 fed) (tables : List (List Cell)) (v : ℕ) → IsRun (trellis n p) (drop s.closed fed) tables
    → length tables ≡ length (drop s.closed fed) → AsksIn n p (drop s.closed fed) tables v → AsksPoints n p fed v
asks-open n p fed s tables v run count asks =
    let some = run.some in
    let o = open-now n p fed s (omega (arith, some, count)) in
    let w = s.within in
    let left = length-drop s.closed fed in
    let low = o.last-is in
    let r : Piece = record { first = s.closed; last = s.closed + (length tables - 1); cost = 0 } in
    let inside = asked_in n p fed s.closed tables r v run refl refl asks in
    let i = inside.0 in
    let asked = inside.1 in
    let le = asked.to_last in
    (o.piece, o.«in», (i, at-itself n p fed r i v asked o.piece o.first_is (omega (arith, le, low, count, left, w, some))))
