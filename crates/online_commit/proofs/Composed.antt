-- Where closed pieces end, with more points. In this file layers stand in the order of the points.
use Rattle.std.proofs.Common.{◌≡◌, ℕ, zero, suc, ◌+◌, ◌-◌, ◌<◌, ◌≤◌, List, [], ◌∷◌, ◌++◌, Option, refl, sym, ap, ◌∙◌, subst, arith, length, take, drop}
use Rattle.std.specs.List.{All}
use Rattle.std.proofs.lemmas.List.{append_assoc, drop-append-le, drop-drop, length-append, length-drop}
use Rattle.std.proofs.lemmas.List.Elements.{All-append}
use Rattle.matching.specs.declared.parts.Cell.{Cell}
use Rattle.matching.specs.declared.parts.Piece.{Piece}
use Rattle.matching.specs.Sequences.{Trellis}
use Rattle.matching.specs.Pieces.{ArePieces, IsPiece}
use Rattle.matching.specs.Value.{Solution, best_of, piece_length, solution, solved_from}
use Rattle.matching.proofs.Lists.{all-cons}
use Rattle.matching.proofs.Splits.{from_point, from_joins, before, OneOrNone, Splits, split_now}
use Rattle.matching.proofs.CommittedValues.{solution_from}
use Rattle.matching.proofs.SolutionMatches.{solution_is_a_match}
use Rattle.matching.proofs.Values.{value_skips, value_joins}

pub before-before : (r1 r2 : List (Option ℕ)) (p1 p2 : List Piece) (t1 t2 : List (List Cell)) (s : Solution)
    → before r1 p1 t1 (before r2 p2 t2 s) ≡ before (r1 ++ r2) (p1 ++ p2) (t1 ++ t2) s
before-before r1 r2 p1 p2 t1 t2 s =
    ap (λ r. let k : Solution = record { ranks = r; pieces = p1 ++ (p2 ++ s.pieces); tables = t1 ++ (t2 ++ s.tables) } in k) (sym (append_assoc r1 r2 s.ranks))
    ∙ ap (λ q. let k : Solution = record { ranks = (r1 ++ r2) ++ s.ranks; pieces = q; tables = t1 ++ (t2 ++ s.tables) } in k) (sym (append_assoc p1 p2 s.pieces))
    ∙ ap (λ c. let k : Solution = record { ranks = (r1 ++ r2) ++ s.ranks; pieces = (p1 ++ p2) ++ s.pieces; tables = c } in k) (sym (append_assoc t1 t2 s.tables))

-- the closed pieces of some points, and then those of the others with more points
abbrev pub composed : {L : Type 0} (t : Trellis L) (at : ℕ) (xs more : List L) (s : Splits t at xs) (next : Splits t (at + s.closed) (drop s.closed xs ++ more)) → Splits t at (xs ++ more)
composed t at xs more s next =
    let w = s.within in
    let w2 = next.within in
    let len = length-append xs more in
    let left = length-drop s.closed xs in
    let len2 = length-append (drop s.closed xs) more in
    let rest : drop next.closed (drop s.closed xs ++ more) ≡ drop (s.closed + next.closed) (xs ++ more) =
    ap (drop next.closed) (sym (drop-append-le s.closed xs more s.within)) ∙ drop-drop next.closed s.closed (xs ++ more) in
    record {
      closed = s.closed + next.closed;
      ranks = s.ranks ++ next.ranks;
      pieces = s.pieces ++ next.pieces;
      tables = s.tables ++ next.tables;
      within = omega (arith, w, w2, len, left, len2);
      count = length-append s.ranks next.ranks ∙ omega (arith, s.count, next.count);
      each = All-append (λ p. p.last + 1 < at + length (xs ++ more)) s.pieces next.pieces (λ k d lt. let h = s.each k d lt in omega (arith, h, len))
          (λ k d lt. let h = next.each k d lt in omega (arith, h, len, left, len2, w));
      goes_on = λ ys.
          let e : at + s.closed + next.closed ≡ at + (s.closed + next.closed) = omega arith in
          let tail = from_point t (at + (s.closed + next.closed)) (drop (s.closed + next.closed) (xs ++ more) ++ ys) in
          ap (from_point t at) (append_assoc xs more ys) ∙ s.goes_on (more ++ ys)
          ∙ ap (λ zs. before s.ranks s.pieces s.tables (from_point t (at + s.closed) zs)) (sym (append_assoc (drop s.closed xs) more ys))
          ∙ ap (before s.ranks s.pieces s.tables)
          (next.goes_on ys ∙ ap (λ k. before next.ranks next.pieces next.tables (from_point t k (drop next.closed (drop s.closed xs ++ more) ++ ys))) e
          ∙ ap (λ zs. before next.ranks next.pieces next.tables (from_point t (at + (s.closed + next.closed)) (zs ++ ys))) rest)
          ∙ before-before s.ranks next.ranks s.pieces next.pieces s.tables next.tables tail;
      last = subst (λ ys. OneOrNone t ys) rest next.last;
    }

-- pieces in their order

-- each piece has points
pub pieces-some : {L : Type 0} (t : Trellis L) (layers : List L) (i : ℕ) (ps : List Piece) → ArePieces t layers i ps → All (λ p. p.first ≤ p.last) ps
pieces-some t layers i [] h = λ k d lt. absurd (omega (arith, lt))
pieces-some t layers i (p ∷ ps) h = all-cons (λ q. q.first ≤ q.last) p ps h.2 (pieces-some t layers (p.last + 1) ps h.4)

-- those before a piece end before it begins
pieces-low : {L : Type 0} (t : Trellis L) (layers : List L) (i : ℕ) (ps : List Piece) (q : Piece) (rest : List Piece) → ArePieces t layers i (ps ++ q ∷ rest)
    → (i ≤ q.first) × All (λ p. p.last < q.first) ps
pieces-low t layers i [] q rest h = (h.0, λ k d lt. absurd (omega (arith, lt)))
pieces-low t layers i (p ∷ ps) q rest h =
    let on = pieces-low t layers (p.last + 1) ps q rest h.4 in
    let a = h.0 in
    let b = h.2 in
    let c = on.0 in
    (omega (arith, a, b, c), all-cons (λ x. x.last < q.first) p ps (omega (arith, c)) on.1)

pub all-left : {X : Type 0} (P : X → Type 0) (xs ys : List X) → All P (xs ++ ys) → All P xs
all-left P [] ys h = λ k d lt. absurd (omega (arith, lt))
all-left P (x ∷ xs) ys h = all-cons P x xs (h 0 x (omega arith)) (all-left P xs ys (λ k d lt. h (suc k) d (omega (arith, lt))))

-- the closed pieces lie before the open one, and have points
pub record AreBefore (at : ℕ) (p : Piece) : Type 0 where
  pub points : p.first ≤ p.last
  pub low : p.last < at

pub all-both : {X : Type 0} (P Q R : X → Type 0) (xs : List X) → ((x : X) → P x → Q x → R x) → All P xs → All Q xs → All R xs
all-both P Q R xs f h g = λ k d lt. f _ (h k d lt) (g k d lt)

low-at : {L : Type 0} (t : Trellis L) (layers : List L) (s : Splits t 0 layers) (xs : List L) → drop s.closed layers ≡ xs → All (λ p. p.last < s.closed) s.pieces
low-at t layers s [] e = λ k d lt.
    let h = s.each k d lt in
    let w = s.within in
    let z = ap length e in
    let l = length-drop s.closed layers in
    omega (arith, h, w, z, l)
low-at t layers s (l ∷ xs) e =
    let m = length (l ∷ xs) in
    let piece : IsPiece t (l ∷ xs) m = subst (λ ys. OneOrNone t ys) e s.last (omega arith) in
    let q : Piece = record { first = s.closed; last = s.closed + m - 1; cost = (best_of t (take m (l ∷ xs))).cost } in
    let rest = (from_point t (s.closed + m) (drop m (l ∷ xs))).pieces in
    let z : 0 + s.closed ≡ s.closed = omega arith in
    let is : (solution t layers).pieces ≡ s.pieces ++ q ∷ rest =
    ap (λ v. v.pieces) (solution_from t layers ∙ split_now t 0 layers s ∙ ap (λ k. before s.ranks s.pieces s.tables (from_point t k (drop s.closed layers))) z)
    ∙ ap (λ ys. s.pieces ++ (from_point t s.closed ys).pieces) e
    ∙ ap (λ v. s.pieces ++ v.pieces) (from_joins t s.closed (l ∷ xs) m (omega arith) piece) in
    let match = solution_is_a_match t layers in
    (pieces-low t layers 0 s.pieces q rest (subst (λ ps. ArePieces t layers 0 ps) is match.pieces_are)).1

pub closed-before : {L : Type 0} (t : Trellis L) (layers : List L) (s : Splits t 0 layers) → All (AreBefore s.closed) s.pieces
closed-before t layers s =
    let match = solution_is_a_match t layers in
    let all : (solution t layers).pieces ≡ s.pieces ++ (from_point t (0 + s.closed) (drop s.closed layers)).pieces = ap (λ v. v.pieces) (solution_from t layers ∙ split_now t 0 layers s) in
    let some = all-left (λ p. p.first ≤ p.last) s.pieces (from_point t (0 + s.closed) (drop s.closed layers)).pieces
    (pieces-some t layers 0 (s.pieces ++ (from_point t (0 + s.closed) (drop s.closed layers)).pieces) (subst (λ ps. ArePieces t layers 0 ps) all match.pieces_are)) in
    all-both (λ p. p.first ≤ p.last) (λ p. p.last < s.closed) (AreBefore s.closed) s.pieces (λ x a b. record { points = a; low = b }) some (low-at t layers s (drop s.closed layers) refl)

-- pieces of the points from `at` on lie there

pub record IsAfter (at : ℕ) (q : Piece) : Type 0 where
  pub first : at ≤ q.first
  pub last : at ≤ q.last

after-weaker : (at later : ℕ) (ps : List Piece) → at ≤ later → All (IsAfter later) ps → All (IsAfter at) ps
after-weaker at later ps le h = λ k d lt. let a = (h k d lt).first in let b = (h k d lt).last in record { first = omega (arith, a, le); last = omega (arith, b, le) }

after-step : {L : Type 0} (t : Trellis L) (fuel at : ℕ) (l : L) (xs : List L) (n : ℕ) → piece_length t (l ∷ xs) ≡ n → ((k : ℕ) (ys : List L) → All (IsAfter k) (solved_from t fuel k ys).pieces)
    → All (IsAfter at) (solved_from t (suc fuel) at (l ∷ xs)).pieces
after-step t fuel at l xs zero e on =
    subst (λ v. All (IsAfter at) v.pieces) (sym (value_skips t fuel at l xs e)) (after-weaker at (at + 1) (solved_from t fuel (at + 1) xs).pieces (omega arith) (on (at + 1) xs))
after-step t fuel at l xs (suc m) e on =
    let n = suc m in
    let rest = (solved_from t fuel (at + n) (drop n (l ∷ xs))).pieces in
    let q : Piece = record { first = at; last = at + n - 1; cost = (best_of t (take n (l ∷ xs))).cost } in
    subst (λ v. All (IsAfter at) v.pieces) (sym (value_joins t fuel at m (l ∷ xs) e))
    (all-cons (IsAfter at) q rest (record { first = omega arith; last = omega arith })
    (after-weaker at (at + n) rest (omega arith) (on (at + n) (drop n (l ∷ xs)))))

all-after : {L : Type 0} (t : Trellis L) (fuel at : ℕ) (xs : List L) → All (IsAfter at) (solved_from t fuel at xs).pieces
all-after t zero at xs = λ k d lt. absurd (omega (arith, lt))
all-after t (suc fuel) at [] = λ k d lt. absurd (omega (arith, lt))
all-after t (suc fuel) at (l ∷ xs) = after-step t fuel at l xs (piece_length t (l ∷ xs)) refl (λ k ys. all-after t fuel k ys)

pub from-after : {L : Type 0} (t : Trellis L) (at : ℕ) (xs : List L) → All (IsAfter at) (from_point t at xs).pieces
from-after t at xs = all-after t (length xs) at xs

pub after : {L : Type 0} (t : Trellis L) (fuel at : ℕ) (xs : List L) → All (λ (p : Piece). at ≤ p.last) (solved_from t fuel at xs).pieces
after t fuel at xs = λ k d lt. (all-after t fuel at xs k d lt).last
