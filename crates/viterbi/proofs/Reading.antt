-- What a step of a piece reads from its lists, and a match that is one point or piece longer. In this file layers and tables stand
-- in the order of the points.
use Rattle.std.proofs.Common.{◌≡◌, ℕ, zero, suc, ◌+◌, ◌-◌, ◌<◌, ◌^◌, ◌≤◌, List, [], ◌∷◌, ◌++◌, Option, Some, None, drop, map, refl, sym, ap, ◌∙◌, subst, arith, MatchOption, length, get_or}
use Rattle.std.proofs.lemmas.List.{get_or-drop, get_or_default, length-drop}
use Rattle.std.proofs.lemmas.List.Elements.{All-drop}
use Rattle.cost_model.specs.declared.params.Params.{Params}
use Rattle.road_network.specs.Net.{Net}
use Rattle.matching.specs.declared.parts.Cell.{Cell}
use Rattle.matching.specs.declared.parts.Layer.{Layer}
use Rattle.matching.specs.declared.parts.Piece.{Piece}
use Rattle.matching.specs.Layers.{AreNeighbours, HasCandidateAt, IsLayer, IsMatchable, trellis}
use Rattle.matching.specs.Match.{IsPieceFrom}
use Rattle.matching.specs.Places.{IsAt}
use Rattle.matching.specs.SoFar.{IsMatchBefore}
use Rattle.matching.proofs.Lists.{all-at}
use Rattle.matching.proofs.Matches.{match_missing, match_piece, match_same, solved_from}
use Rattle.trellis.specs.declared.parts.Solved.{Solved}
use Rattle.trellis.specs.Offers.{AreCosts}
use Rattle.matching.proofs.PieceSoFar.{IsGround, IsPieceSoFar, IsStepAt, so_far_count, so_far_small}
use Rattle.viterbi.specs.inside.Growing.{IsSolvedSoFar}

-- the layers from a point on are layers of a trace too
pub matchable_from : (n : Net) (p : Params) (layers : List Layer) (first : ℕ) → IsMatchable n p layers → IsMatchable n p (drop first layers)
matchable_from n p layers first h = record {
  options = h.options;
  are = record {
    few = omega (arith, h.are.few, length-drop first layers);
    each = All-drop (IsLayer n p) first layers h.are.each;
    narrow = All-drop (λ l. length l.candidates ≤ 2 ^ 32) first layers h.are.narrow;
  };
}

-- and a candidate of that point is one of their first
pub candidate_from : (layers : List Layer) (first : ℕ) → HasCandidateAt layers first → HasCandidateAt (drop first layers) 0
candidate_from layers first h =
    let same : first + 0 ≡ first = omega arith in
    record {
      below = omega (arith, h.below, length-drop first layers);
      some = λ l is. h.some l (is ∙ (get_or-drop first layers 0 l ∙ ap (λ (k : ℕ). get_or layers k l) same));
    }

-- what is read at place i: the layers there and before, and the cells before
pub record IsRead (layers : List Layer) (tables read : List (List Cell)) (i : ℕ) (m l : Layer) (costs : List Cell) : Type 0 where
  pub count : length tables ≡ i
  pub some : 0 < i
  pub below : i < length layers
  pub same : read ≡ tables
  pub m-is : m ≡ get_or layers (i - 1) m
  pub l-is : l ≡ get_or layers i l
  pub costs-are : costs ≡ get_or read (i - 1) costs

pub step_read : (n : Net) (p : Params) (layers : List Layer) (tables read : List (List Cell)) (i : ℕ) (m l : Layer)
    → {costs : List Cell} → IsRead layers tables read i m l costs → IsStepAt n p layers tables m l costs
step_read n p layers tables read i m l {costs} h =
    let some = h.some in
    let count = h.count in
    let lt = h.below in record {
      ends = record {
        layer = record { below = omega (arith, count, some, lt); is = subst (λ k. m ≡ get_or layers (k - 1) m) (sym count) h.m-is };
        table = record {
          below = omega (arith, count, some);
          is = subst (λ k. costs ≡ get_or tables (k - 1) costs) (sym count) (subst (λ ts. costs ≡ get_or ts (i - 1) costs) h.same h.costs-are);
        };
      };
      at = record { below = omega (arith, count, lt); is = subst (λ k. l ≡ get_or layers k l) (sym count) h.l-is };
    }

-- a piece may go from layer m, with these cells, to layer l
pub record IsNextStep (n : Net) (p : Params) (m : Layer) (costs : List Cell) (l : Layer) : Type 0 where
  pub layers : AreNeighbours n p m l
  pub cells : AreCosts m costs
  pub narrow : length l.candidates ≤ 2 ^ 32

-- so it may from a piece so far
pub may_step : (n : Net) (p : Params) (layers : List Layer) (tables : List (List Cell)) (m l : Layer) (costs : List Cell)
    → IsGround n p layers → IsPieceSoFar n p layers tables → IsStepAt n p layers tables m l costs → IsNextStep n p m costs l
may_step n p layers tables m l costs ground so_far step =
    let are = ground.trace.are in
    let count = so_far_count n p layers tables m costs so_far step.ends in
    let narrow = all-at (λ x. length x.candidates ≤ 2 ^ 32) layers (length tables - 1) m are.narrow step.ends.layer in
    record {
      layers = record {
        options = ground.trace.options;
        before = all-at (IsLayer n p) layers (length tables - 1) m are.each step.ends.layer;
        layer = all-at (IsLayer n p) layers (length tables) l are.each step.at;
      };
      cells = record {
        count = count;
        few = omega (arith, count, narrow);
        small = so_far_small n p layers tables m costs ground so_far step.ends;
      };
      narrow = all-at (λ x. length x.candidates ≤ 2 ^ 32) layers (length tables) l are.narrow step.at;
    }

pub at_none : (P : Type 0) (Q : List Cell → Type 0) (o : Option (List Cell)) → MatchOption o P Q → o ≡ None → P
at_none P Q None h e = h
at_none P Q (Some x) h e = absurd (cc)

pub at_cells : (P : Type 0) (Q : List Cell → Type 0) (o : Option (List Cell)) (x : List Cell) → MatchOption o P Q → o ≡ Some x → Q x
at_cells P Q None x h e = absurd (cc)
at_cells P Q (Some y) x h e = let s : y ≡ x = cc in subst Q s h

-- more points are matched than before
pub record IsSolvedFurther (n : Net) (p : Params) (layers : List Layer) (before s : Solved) : Type 0 where
  pub so_far : IsSolvedSoFar n p layers s
  pub further : length before.ranks < length s.ranks

-- the points that are matched are counted by their ranks
solved_further : (n : Net) (p : Params) (layers : List Layer) (old new : Solved) (at : ℕ)
    → IsMatchBefore (trellis n p) layers at new.ranks new.pieces new.tables → length old.ranks < at → IsSolvedFurther n p layers old new
solved_further n p layers old new at h lt =
    let count = h.ranks_count in record {
      so_far = subst (λ k. IsMatchBefore (trellis n p) layers k new.ranks new.pieces new.tables) (sym count) h;
      further = omega (arith, count, lt);
    }

-- with a point that has no candidate
pub missing_further : (n : Net) (p : Params) (layers : List Layer) (old new : Solved) (l : Layer)
    → IsSolvedSoFar n p layers old → IsAt layers (length old.ranks) l → length l.candidates ≡ 0
    → new.ranks ≡ old.ranks ++ None ∷ [] → new.pieces ≡ old.pieces → new.tables ≡ old.tables ++ [] ∷ [] → IsSolvedFurther n p layers old new
missing_further n p layers old new l so_far here none ranks-are pieces-are tables-are =
    let t = trellis n p in
    let at = length old.ranks in
    solved_further n p layers old new (at + 1)
    (match_same t layers (at + 1) (old.ranks ++ None ∷ []) new.ranks old.pieces new.pieces (old.tables ++ [] ∷ []) new.tables
    (match_missing t layers at l old.ranks old.pieces old.tables so_far here none) ranks-are pieces-are tables-are) (omega arith)

-- and with a piece
pub piece_further : (n : Net) (p : Params) (layers : List Layer) (old new : Solved) (piece : Piece) (ranks : List ℕ) (tables : List (List Cell))
    → IsSolvedSoFar n p layers old → IsPieceFrom (trellis n p) layers (length old.ranks) piece ranks tables
    → new.ranks ≡ old.ranks ++ map (λ r. Some r) ranks → new.pieces ≡ old.pieces ++ piece ∷ [] → new.tables ≡ old.tables ++ tables
    → IsSolvedFurther n p layers old new
piece_further n p layers old new piece ranks tables so_far from ranks-are pieces-are tables-are =
    let t = trellis n p in
    let at = length old.ranks in
    let some = from.some in
    let count = piece.last + 1 - at in
    let next : at + count ≡ piece.last + 1 = omega (arith, some) in
    solved_further n p layers old new (piece.last + 1)
    (match_same t layers (piece.last + 1) (old.ranks ++ map (λ r. Some r) ranks) new.ranks (old.pieces ++ piece ∷ []) new.pieces (old.tables ++ tables) new.tables
    (subst (λ k. IsMatchBefore t layers k (old.ranks ++ map (λ r. Some r) ranks) (old.pieces ++ piece ∷ []) (old.tables ++ tables)) next
    (match_piece t layers at count piece old.ranks old.pieces old.tables ranks tables so_far (solved_from t layers at piece ranks tables from)))
    ranks-are pieces-are tables-are) (omega (arith, some))

-- a number that is not 0
positive : (n : ℕ) → (n ≡ 0 → ⊥) → 0 < n
positive zero not = absurd (not refl)
positive (suc n) not = omega arith

-- a layer that is not empty has a candidate
pub candidate_at : (layers : List Layer) (at count : ℕ) (l : Layer) → at < length layers → count ≡ length (get_or layers at l).candidates → (count ≡ 0 → ⊥)
    → HasCandidateAt layers at
candidate_at layers at count l below count-is not = record {
  below = below;
  some = λ k is.
      let same = is ∙ get_or_default layers at k l below in
      subst (λ (j : ℕ). 0 < j) (count-is ∙ sym (ap (λ x. length x.candidates) same)) (positive count not);
}
