-- The pieces of a match that are closed.
use Rattle.std.proofs.Common.{◌≡◌, ℕ, suc, ◌+◌, ◌-◌, ◌<◌, true, false, ltb, List, [], ◌∷◌, ◌++◌, refl, sym, ap, ◌∙◌, arith, length, take, drop}
use Rattle.std.specs.List.{All}
use Rattle.std.proofs.lemmas.List.{append-nil, drop_all, length-append, length-drop}
use Rattle.std.proofs.lemmas.Bool.Decides.{nat_tests}
use Rattle.std.proofs.lemmas.List.Elements.{filter-append}
use Rattle.matching.specs.declared.parts.Piece.{Piece}
use Rattle.matching.specs.Sequences.{Trellis}
use Rattle.matching.specs.CellValue.{tables_of}
use Rattle.matching.specs.Value.{best_of, solution, with_piece}
use Rattle.matching.specs.CommittedValue.{closed_pieces, ClosedPiecesStay}
use Rattle.matching.proofs.Splits.{from_point, from_joins, OneOrNone, Splits, split_now}
use Rattle.matching.proofs.CommittedValues.{solution_from, whole}

pub closed_all : (pieces : List Piece) (n : ℕ) → All (λ p. p.last + 1 < n) pieces → closed_pieces pieces n ≡ pieces
closed_all [] n h = refl
closed_all (p ∷ pieces) n h =
    let low = h 0 p (omega arith) in
    let e : ltb (p.last + 1) n ≡ true = grind (arith, nat_tests) in
    rw e (ap (λ ps. p ∷ ps) (closed_all pieces n (λ k d lt. h (suc k) d (omega (arith, lt)))))

-- the open piece is not closed
pub open_last : {L : Type 0} (t : Trellis L) (at : ℕ) (xs : List L) (n : ℕ) → OneOrNone t xs → at + length xs ≡ n → closed_pieces (from_point t at xs).pieces n ≡ []
open_last t at [] n h e = refl
open_last t at (l ∷ xs) n h e =
    let m = length (l ∷ xs) in
    let all : drop m (l ∷ xs) ≡ [] = drop_all m (l ∷ xs) (omega arith) in
    let high : ltb (at + m - 1 + 1) n ≡ false = grind (arith, nat_tests) in
    ap (λ s. closed_pieces s.pieces n) (from_joins t at (l ∷ xs) m (omega arith) (h (omega arith))
    ∙ ap (λ ys. with_piece at m (best_of t (take m (l ∷ xs))) (tables_of t (l ∷ xs) m) (from_point t (at + m) ys)) all)
    ∙ rw high refl

pub closed_split : {L : Type 0} (t : Trellis L) (layers : List L) (s : Splits t 0 layers) → closed_pieces (solution t layers).pieces (length layers) ≡ s.pieces
closed_split t layers s =
    let xs = drop s.closed layers in
    let w = s.within in
    let n = length layers in
    ap (λ v. closed_pieces v.pieces n) (solution_from t layers ∙ split_now t 0 layers s)
    ∙ filter-append (λ p. ltb (p.last + 1) n) s.pieces (from_point t (0 + s.closed) xs).pieces
    ∙ ap (λ ps. closed_pieces s.pieces n ++ ps) (open_last t (0 + s.closed) xs n s.last (omega (arith, w, length-drop s.closed layers)))
    ∙ append-nil (closed_pieces s.pieces n)
    ∙ closed_all s.pieces n (λ k d lt. let h = s.each k d lt in omega (arith, h))

pub closed_pieces_stay : {L : Type 0} (t : Trellis L) → ClosedPiecesStay t
closed_pieces_stay t layers more =
    let s = whole t layers in
    let rest = (from_point t (0 + s.closed) (drop s.closed layers ++ more)).pieces in
    let n = length (layers ++ more) in
    let all : (solution t (layers ++ more)).pieces ≡ s.pieces ++ rest = ap (λ v. v.pieces) (solution_from t (layers ++ more) ∙ s.goes_on more) in
    let closed = closed_split t layers s in
    record {
      rest = rest;
      stay = all ∙ ap (λ ps. ps ++ rest) (sym closed);
      grow = ap (λ ps. closed_pieces ps n) all ∙ filter-append (λ p. ltb (p.last + 1) n) s.pieces rest
          ∙ ap (λ ps. ps ++ closed_pieces rest n) (closed_all s.pieces n (λ k d lt. let h = s.each k d lt in omega (arith, h, length-append layers more)) ∙ sym closed);
    }
