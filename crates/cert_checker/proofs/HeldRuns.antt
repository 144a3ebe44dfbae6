-- Where each condition holds at each point, the tables of each piece are a run, and it goes as far as it can.
use Rattle.std.proofs.Common.{◌≡◌, ◌<◌, ◌≤◌, ℕ, zero, suc, ◌+◌, ◌-◌, ◌^◌, ◌&&◌, true, List, [], ◌∷◌, ◌++◌, length, get_or, map, take, drop, Option, Some, None, MatchOption, refl, sym, ◌∙◌, ap, subst, arith, ⊎_elim, inl, inr}
use Rattle.std.specs.List.{All, range_with_len}
use Rattle.std.proofs.lemmas.Bool.{and_from, and_parts, both_ways, cases_Bool, cases_lt}
use Rattle.std.proofs.lemmas.List.{get_or-drop, length-drop, take_more}
use Rattle.std.proofs.lemmas.List.FromFn.{get_or-map-range_with_len, length-map-range_with_len}
use Rattle.matching.specs.declared.parts.Cell.{Cell}
use Rattle.matching.specs.declared.parts.Layer.{Layer}
use Rattle.matching.specs.Cells.{cell_at, empty_cell}
use Rattle.matching.specs.Layers.{IsLayer}
use Rattle.matching.specs.Local.{AreFirst, AreNext, IsLeastWay, by_way_of}
use Rattle.matching.specs.Pieces.{IsPiece}
use Rattle.matching.specs.PieceSteps.{PieceEndsBefore, PieceGoesOn}
use Rattle.matching.specs.Places.{IsAt}
use Rattle.matching.specs.Sequences.{Trellis}
use Rattle.matching.proofs.Chosen.{live_below}
use Rattle.matching.proofs.Lists.{at-get_or, drop-at}
use Rattle.matching.proofs.PieceSoFar.{IsGround, IsPieceSoFar, IsStepAt, so_far_all, so_far_ends, so_far_first, so_far_more}
use Rattle.match_text.specs.declared.matched.Routed.{Routed}
use Rattle.route_rebuild.proofs.ChosenRun.{length_between}
use Rattle.cert_checker.specs.Case.{Case, has_way, is_looked_at, layer, table, width}
use Rattle.cert_checker.specs.Pieces.{is_in_any}
use Rattle.cert_checker.proofs.PieceTests.{IsIn, IsLater, RisesFrom, begun, gone_on, in_any, one_piece, piece_filled, piece_no}
use Rattle.cert_checker.proofs.PointConditions.{HasWay, IsLookedAt, PointHolds, has_ways, looked}
use Rattle.cert_checker.proofs.RunPoints.{IsRunOf, layer_from, layers_from, table_in, tables_in, trellis_of}
use Rattle.cert_checker.proofs.MatchedCases.{IsGroundOf}

-- each condition holds at each point of the case, and there is one
pub record IsHeld (c : Case) : Type 0 where
  pub ground : IsGroundOf c
  pub some : 0 < length c.layers
  pub each : (i : ℕ) → i < length c.layers → PointHolds c i

pub held_order : (c : Case) → IsHeld c → RisesFrom 0 c.proof.pieces
held_order c h = (h.each 0 h.some).break.1.0 refl

pub held_ranks : (c : Case) → IsHeld c → length c.proof.ranks ≡ length c.layers
held_ranks c h =
    let some = h.some in
    let at = h.each (length c.layers - 1) (omega (arith, some)) in
    let low = at.candidates.0.0 in
    let high = (at.candidates.1.1.1 (omega (arith, some))).0 in
    omega (arith, low, high, some)

pub held_tables : (c : Case) → IsHeld c → length c.proof.tables ≡ length c.layers
held_tables c h =
    let some = h.some in
    let at = h.each (length c.layers - 1) (omega (arith, some)) in
    let low = at.candidates.0.1 in
    let high = (at.candidates.1.1.1 (omega (arith, some))).1 in
    omega (arith, low, high, some)

pub held_inside : (c : Case) (k : ℕ) → IsHeld c → k < length c.proof.pieces → (piece_no c.proof.pieces k).last < length c.layers
held_inside c k h lt =
    let some = h.some in
    let at = h.each (length c.layers - 1) (omega (arith, some)) in
    ⊎_elim (λ inside. inside)
    (λ past. absurd (at.break.1.1 (omega (arith, some)) (k, lt, omega (arith, past, some))))
    (cases_lt (piece_no c.proof.pieces k).last (length c.layers))

-- a point of a piece has candidates
pub held_filled : (c : Case) (k i : ℕ) → IsHeld c → k < length c.proof.pieces → IsIn i (piece_no c.proof.pieces k) → 0 < width c i
held_filled c k i h lt in_q =
    let inside = held_inside c k h lt in
    let le = in_q.1 in
    let at = h.each i (omega (arith, inside, le)) in
    ⊎_elim (λ some. some)
    (λ none. absurd (both_ways (is_in_any c.proof.pieces i) (at.break.0.missing (omega (arith, none))) ((in_any c.proof.pieces i).1 (k, lt, in_q))))
    (cases_lt 0 (width c i))

-- a later point of a piece is looked at and reached, and its cells are the least
pub record IsLaterPoint (c : Case) (i : ℕ) : Type 0 where
  pub look : IsLookedAt c i
  pub reached : HasWay c i
  pub next : AreNext (trellis_of c) (layer c (i - 1)) (table c (i - 1)) (layer c i) (table c i)

pub held_later : (c : Case) (k i : ℕ) → IsHeld c → k < length c.proof.pieces → IsLater i (piece_no c.proof.pieces k) → IsLaterPoint c i
held_later c k i h lt later =
    let pieces = c.proof.pieces in
    let inside = held_inside c k h lt in
    let le = later.0.1 in
    let low = later.1 in
    let at = h.each i (omega (arith, inside, le)) in
    let some = held_filled c k i h lt later.0 in
    let goes = is_looked_at c i && has_way c i in
    let both : goes ≡ true =
    ⊎_elim (λ e. e)
    (λ e. absurd (
    let first = at.break.0.anew some (λ look reached. both_ways goes e (and_from (is_looked_at c i) (has_way c i) ((looked c i).1 look) ((has_ways c i).1 reached))) in
    let there = (begun pieces i).0 first in
    let same = one_piece 0 pieces i there.0 k (held_order c h) there.1 lt there.2.0 later.0 in
    let begins_there : (piece_no pieces there.0).first ≡ (piece_no pieces k).first = ap (λ v. (piece_no pieces v).first) same in
    let is = there.2.1 in
    omega (arith, begins_there, is, low)))
    (cases_Bool goes) in
    let parts = and_parts (is_looked_at c i) (has_way c i) both in
    let least = at.later ((gone_on pieces i).1 (k, lt, later)) in
    record {
      look = (looked c i).0 parts.0;
      reached = (has_ways c i).0 parts.1;
      next = record { count = at.candidates.1.0; each = λ j j_in. (least j j_in).least };
    }

-- the first point of a piece
held_first : (c : Case) (k : ℕ) → IsHeld c → k < length c.proof.pieces
    → AreFirst (trellis_of c) (layer c (piece_no c.proof.pieces k).first) (table c (piece_no c.proof.pieces k).first)
held_first c k h lt =
    let q = piece_no c.proof.pieces k in
    let inside = held_inside c k h lt in
    let filled = piece_filled 0 c.proof.pieces k (held_order c h) lt in
    let at = h.each q.first (omega (arith, inside, filled)) in
    let in_q : IsIn q.first q = (omega arith, filled) in
    record { count = at.candidates.1.0; each = at.first_cost ((begun c.proof.pieces q.first).1 (k, lt, (in_q, refl))) }

-- ---- the points of a piece so far

-- the piece up to a point
abbrev front : Routed → ℕ → Routed
front q i = record q { last = i }

all_from : {X : Type 0} (P : X → Type 0) (xs : List X) (n : ℕ) → All P xs → All P (drop n xs)
all_from P xs n h k d lt = subst P (sym (get_or-drop n xs k d)) (h (n + k) d (omega (arith, lt, length-drop n xs)))

ground_from : (c : Case) (n : ℕ) → IsGroundOf c → IsGround c.net c.params (drop n c.layers)
ground_from c n ground =
    let few = ground.trace.are.few in
    record {
      lawful = ground.lawful;
      trace = record {
        options = ground.trace.options;
        are = record {
          few = omega (arith, few, length-drop n c.layers);
          each = all_from (IsLayer c.net c.params) c.layers n ground.trace.are.each;
          narrow = all_from (λ (l : Layer). length l.candidates ≤ 2 ^ 32) c.layers n ground.trace.are.narrow;
        };
      };
    }

live_from : (x : Option ℕ) (s : ℕ) → MatchOption x ⊥ (λ b. b ≤ s) → (v : ℕ) × (x ≡ Some v)
live_from None s h = absurd h
live_from (Some v) s h = (v, refl)

-- one more table
front_more : (c : Case) (q : Routed) (i : ℕ) → q.first < i → i < length c.proof.tables → tables_in c (front q i) ≡ tables_in c (front q (i - 1)) ++ table c i ∷ []
front_more c q i lt inside =
    let ts = drop q.first c.proof.tables in
    let d = i - q.first in
    let e : i + 1 - q.first ≡ d + 1 = omega (arith, lt) in
    let f : d ≡ i - 1 + 1 - q.first = omega (arith, lt) in
    let g : q.first + d ≡ i = omega (arith, lt) in
    ap (λ v. take v ts) e ∙ take_more ts d [] (omega (arith, inside, lt, length-drop q.first c.proof.tables))
    ∙ ap (λ v. take d ts ++ v ∷ []) (get_or-drop q.first c.proof.tables d [] ∙ ap (λ v. get_or c.proof.tables v []) g) ∙ ap (λ v. take v ts ++ table c i ∷ []) f

-- the step to a later point
front_step : (c : Case) (q : Routed) (i : ℕ) → IsLater i q → i < length c.layers → i < length c.proof.tables
    → IsStepAt c.net c.params (layers_from c q) (tables_in c (front q (i - 1))) (layer c (i - 1)) (layer c i) (table c (i - 1))
front_step c q i later inside inside_tables =
    let lt = later.1 in
    let b = front q (i - 1) in
    let count : length (tables_in c b) ≡ i - 1 + 1 - q.first = length_between c.proof.tables q.first (i - 1) (omega (arith, lt)) (omega (arith, inside_tables)) in
    let e : i - 1 - q.first ≡ length (tables_in c b) - 1 = omega (arith, count, lt) in
    let f : i - q.first ≡ length (tables_in c b) = omega (arith, count, lt) in
    let in_b : IsIn (i - 1) b = (omega (arith, lt), omega arith) in
    record {
      ends = record {
        layer = subst (λ v. IsAt (layers_from c q) v (layer c (i - 1))) e (layer_from c q (i - 1) (omega (arith, lt)) (omega (arith, inside)));
        table = subst (λ v. IsAt (tables_in c b) v (table c (i - 1))) e (table_in c b (i - 1) in_b (omega (arith, inside_tables)));
      };
      at = subst (λ v. IsAt (layers_from c q) v (layer c i)) f (layer_from c q i (omega (arith, lt)) inside);
    }

so_far_at : (c : Case) (k d i : ℕ) → IsHeld c → k < length c.proof.pieces → i ≡ (piece_no c.proof.pieces k).first + d → i ≤ (piece_no c.proof.pieces k).last
    → IsPieceSoFar c.net c.params (layers_from c (piece_no c.proof.pieces k)) (tables_in c (front (piece_no c.proof.pieces k) i))
so_far_at c k zero i h lt e le =
    let q = piece_no c.proof.pieces k in
    let inside = held_inside c k h lt in
    let tables = held_tables c h in
    let same : q.first ≡ i = omega (arith, e) in
    let in_q : IsIn q.first q = (omega arith, omega (arith, same, le)) in
    let z : q.first - q.first ≡ 0 = omega arith in
    let one : q.first + 1 - q.first ≡ 1 = omega arith in
    let at : IsAt (layers_from c q) 0 (layer c q.first) = subst (λ v. IsAt (layers_from c q) v (layer c q.first)) z (layer_from c q q.first (omega arith) (omega (arith, inside, same, le))) in
    let from = drop-at c.proof.tables q.first (table c q.first) (at-get_or c.proof.tables q.first [] (omega (arith, inside, same, le, tables))) in
    let alone : tables_in c (front q q.first) ≡ table c q.first ∷ [] = ap (λ v. take v (drop q.first c.proof.tables)) one ∙ ap (take 1) from in
    subst (λ v. IsPieceSoFar c.net c.params (layers_from c q) (tables_in c (front q v))) same
    (subst (λ ts. IsPieceSoFar c.net c.params (layers_from c q) ts) (sym alone)
    (so_far_first c.net c.params (layers_from c q) (layer c q.first) (table c q.first) (ground_from c q.first h.ground) at (held_filled c k q.first h lt in_q) (held_first c k h lt)))
so_far_at c k (suc d) i h lt e le =
    let q = piece_no c.proof.pieces k in
    let inside = held_inside c k h lt in
    let tables = held_tables c h in
    let later : IsLater i q = ((omega (arith, e), le), omega (arith, e)) in
    let before = so_far_at c k d (i - 1) h lt (omega (arith, e)) (omega (arith, le)) in
    let point = held_later c k i h lt later in
    let j = point.reached.0 in
    let a = point.reached.2.0 in
    let s = point.reached.2.2 in
    let live = live_from ((cell_at (table c i) j).cost) s.0 ((point.next.each j point.reached.1).relaxed a s.0 point.reached.2.1 s.1) in
    let goes : PieceGoesOn (trellis_of c) (layer c (i - 1)) (table c (i - 1)) (layer c i) (table c i) = record { near = point.look.1.1.1; next = point.next; rank = j; live = live } in
    subst (λ ts. IsPieceSoFar c.net c.params (layers_from c q) ts) (sym (front_more c q i later.1 (omega (arith, inside, le, tables))))
    (so_far_more c.net c.params (layers_from c q) (tables_in c (front q (i - 1))) (layer c (i - 1)) (layer c i) (table c (i - 1)) (table c i)
    (ground_from c q.first h.ground) before (front_step c q i later (omega (arith, inside, le)) (omega (arith, inside, le, tables))) goes)

-- ---- the end of a piece

-- where no way is there, no cell is live
abbrev empty_cells : ℕ → List Cell
empty_cells w = map (λ j. empty_cell) (range_with_len 0 w)

empty_at : (w j : ℕ) → j < w → cell_at (empty_cells w) j ≡ empty_cell
empty_at w j lt = get_or-map-range_with_len (λ j. empty_cell) 0 w j j empty_cell lt (omega arith)

empty_next : {L : Type 0} (t : Trellis L) (m : L) (before : List Cell) (l : L)
    → ((j a s : ℕ) → j < t.width l → a < t.width m → by_way_of t m before l a j ≡ Some s → ⊥) → AreNext t m before l (empty_cells (t.width l))
empty_next t m before l none = record {
  count = length-map-range_with_len (λ j. empty_cell) 0 (t.width l);
  each = λ j j_in. subst (λ (cell : Cell). IsLeastWay (λ a. by_way_of t m before l a j) (t.width m) cell) (sym (empty_at (t.width l) j j_in))
      (record { relaxed = λ a s a_in e. none j a s j_in a_in e; tight = tt; pointer = refl });
}

empty_dead : (w j v : ℕ) → (cell_at (empty_cells w) j).cost ≡ Some v → ⊥
empty_dead w j v e =
    let lt = live_below (empty_cells w) j v e in
    let none : (cell_at (empty_cells w) j).cost ≡ None = ap (λ (cell : Cell). cell.cost) (empty_at w j (omega (arith, lt, length-map-range_with_len (λ j. empty_cell) 0 w))) in
    cc

-- the next point does not go on with the piece
not_on : (c : Case) (k i : ℕ) → IsHeld c → k < length c.proof.pieces → (piece_no c.proof.pieces k).last + 1 ≡ i → i < length c.layers → 0 < width c i
    → IsLookedAt c i → HasWay c i → ⊥
not_on c k i h lt next inside some look reached =
    let pieces = c.proof.pieces in
    let q = piece_no pieces k in
    let order = held_order c h in
    let filled = piece_filled 0 pieces k order lt in
    let there = (gone_on pieces i).0 ((h.each i inside).break.0.on some look reached) in
    let low = there.2.1 in
    let high = there.2.0.1 in
    let same = one_piece 0 pieces q.last there.0 k order there.1 lt (omega (arith, low, next), omega (arith, high, next)) (filled, omega arith) in
    let ends_there : (piece_no pieces there.0).last ≡ q.last = ap (λ v. (piece_no pieces v).last) same in
    omega (arith, ends_there, high, next)

ends_before : (c : Case) (k i : ℕ) → IsHeld c → k < length c.proof.pieces → (piece_no c.proof.pieces k).last + 1 ≡ i → i < length c.layers
    → PieceEndsBefore (trellis_of c) (layer c (i - 1)) (table c (i - 1)) (layer c i)
ends_before c k i h lt next inside =
    let q = piece_no c.proof.pieces k in
    let t = trellis_of c in
    let filled = piece_filled 0 c.proof.pieces k (held_order c h) lt in
    let e : q.last ≡ i - 1 = omega (arith, next) in
    let before = subst (λ v. 0 < width c v) e (held_filled c k q.last h lt (filled, omega arith)) in
    ⊎_elim
    (λ some. ⊎_elim
    (λ look. inr (inr (
      empty_cells (width c i),
      empty_next t (layer c (i - 1)) (table c (i - 1)) (layer c i)
          (λ j a s j_in a_in way_is. not_on c k i h lt next inside some ((looked c i).0 look) (j, j_in, (a, a_in, (s, way_is)))),
      empty_dead (width c i),
    )))
    (λ none. inr (inl (λ near. both_ways (is_looked_at c i) none ((looked c i).1 (omega (arith, next), (before, (some, near)))))))
    (cases_Bool (is_looked_at c i)))
    (λ few. inl (omega (arith, few)))
    (cases_lt 0 (width c i))

-- each piece is a run that goes as far as it can
pub held_run : (c : Case) (k : ℕ) → IsHeld c → k < length c.proof.pieces → IsRunOf c (piece_no c.proof.pieces k)
held_run c k h lt =
    let q = piece_no c.proof.pieces k in
    let t = trellis_of c in
    let inside = held_inside c k h lt in
    let tables = held_tables c h in
    let filled = piece_filled 0 c.proof.pieces k (held_order c h) lt in
    let so_far = so_far_at c k (q.last - q.first) q.last h lt (omega (arith, filled)) (omega arith) in
    let count = length_between c.proof.tables q.first q.last filled (omega (arith, inside, tables)) in
    let piece : IsPiece t (layers_from c q) (length (tables_in c q)) =
    ⊎_elim
    (λ more.
    let i = q.last + 1 in
    let e : i - 1 ≡ q.last = omega arith in
    let b = front q i in
    let step : IsStepAt c.net c.params (layers_from c q) (tables_in c q) (layer c q.last) (layer c i) (table c q.last) = record {
      ends = record {
        layer = subst (λ v. IsAt (layers_from c q) v (layer c q.last)) (omega (arith, count, filled)) (layer_from c q q.last filled inside);
        table = subst (λ v. IsAt (tables_in c q) v (table c q.last)) (omega (arith, count, filled)) (table_in c q q.last (filled, omega arith) (omega (arith, inside, tables)));
      };
      at = subst (λ v. IsAt (layers_from c q) v (layer c i)) (omega (arith, count, filled)) (layer_from c q i (omega (arith, filled)) more);
    } in
    so_far_ends c.net c.params (layers_from c q) (tables_in c q) (layer c q.last) (layer c i) (table c q.last) so_far step
    (subst (λ v. PieceEndsBefore t (layer c v) (table c v) (layer c i)) e (ends_before c k i h lt refl more)))
    (λ whole. so_far_all c.net c.params (layers_from c q) (tables_in c q) so_far (omega (arith, whole, count, filled, length-drop q.first c.layers)))
    (cases_lt (q.last + 1) (length c.layers)) in
    record {
      some = filled;
      inside = inside;
      tables = tables;
      piece = subst (λ v. IsPiece t (layers_from c q) v) count piece;
      run = so_far.run;
    }
