-- At each point of a case whose proof is that of the match, each condition holds.
use Rattle.std.proofs.Common.{◌≡◌, ◌<◌, ◌≤◌, ℕ, zero, suc, ◌+◌, ◌-◌, ◌*◌, ◌^◌, true, List, [], ◌∷◌, length, get_or, take, reverse, Option, Some, None, refl, sym, ◌∙◌, ap, subst, arith, ⊎_elim}
use Rattle.std.proofs.lemmas.Bool.{cases_lt, false_from_ne_true}
use Rattle.std.proofs.lemmas.List.{get_or-map, get_or_default, length-map}
use Rattle.matching.specs.declared.parts.Cell.{Cell}
use Rattle.matching.specs.Cells.{cell_at}
use Rattle.matching.specs.Growth.{CostAtMost}
use Rattle.matching.specs.Layers.{AreNeighbours, IsLayer, end_of}
use Rattle.matching.specs.Local.{by_pointers}
use Rattle.matching.specs.Match.{from_to}
use Rattle.matching.specs.PieceSteps.{AsksIn, AsksTrace}
use Rattle.matching.specs.Places.{IsAt}
use Rattle.matching.specs.Sequences.{IsBest}
use Rattle.matching.proofs.Costs.{added-parts}
use Rattle.matching.proofs.Growth.{emission_le, first_le, next_le, transition_le}
use Rattle.matching.proofs.Lists.{all-at, at-get_or, reverse-all, reverse-take}
use Rattle.matching.proofs.WholePiece.{asked_in}
use Rattle.match_text.specs.declared.matched.Routed.{Routed}
use Rattle.route_rebuild.specs.Routes.{no_layer}
use Rattle.route_rebuild.proofs.ChosenRun.{length_between}
use Rattle.cert_checker.specs.Case.{Case, layer, rank, table, width}
use Rattle.cert_checker.specs.Cells.{pointer_of}
use Rattle.cert_checker.specs.Pieces.{begins, goes_on, is_in_any}
use Rattle.cert_checker.specs.Verdicts.{piece_without_route}
use Rattle.cert_checker.proofs.ListTests.{IsThere}
use Rattle.cert_checker.proofs.PieceTests.{IsIn, IsLater, begun, gone_on, in_any, no_piece, one_piece, piece_no}
use Rattle.cert_checker.proofs.PointConditions.{AreCandidates, AreFirstCells, AreLeast, AtBreak, BreaksRight, HasRows, IsLookedAt, IsRankOf, PointHolds}
use Rattle.cert_checker.proofs.PieceConditions.{IsChosenFor}
use Rattle.cert_checker.proofs.BestRanks.{LeadsBack, best_is, rank_before}
use Rattle.cert_checker.proofs.RunPoints.{IsRunOf, ends_of, filled_of, first_of, later_of, layer_at, layer_from, layers_from, linked_of, looked_of, reached_of, table_at, tables_in, trellis_of, width_of}
use Rattle.cert_checker.proofs.MatchedCases.{IsGroundOf, IsMatchOf, chosen_count, matched_piece, pieces_of, point_in, rank_below, rank_in, rises_from, run_of}

-- ---- Candidates

candidates_hold : (c : Case) (i : ℕ) → IsGroundOf c → IsMatchOf c → i < length c.layers → AreCandidates c i
candidates_hold c i ground h lt =
    let ranks = h.matched.ranks_count in
    let tables = h.matched.tables_count in
    let parts : (length (table c i) ≡ width c i) × IsRankOf (width c i) (rank c i) =
    ⊎_elim
    (λ some.
    let there = point_in c i h lt some in
    let run = run_of c there.0 h there.1 in
    let e = rank_in c there.0 i h there.1 there.2 in
    let r = get_or (matched_piece c there.0 h there.1).chosen (i - (piece_no c.proof.pieces there.0).first) 0 in
    (width_of c (piece_no c.proof.pieces there.0) i run there.2, subst (λ o. IsRankOf (width c i) o) (sym e) (rank_below c i r ground h lt e)))
    (λ few.
    let none : width c i ≡ 0 = omega (arith, few) in
    let m = h.matched.missing i (layer c i) lt (at-get_or c.layers i no_layer lt).is none in
    let e : rank c i ≡ None = get_or_default c.proof.ranks i None (Some 0) (omega (arith, lt, ranks)) ∙ m.0 in
    (ap length m.1 ∙ sym none, subst (λ o. IsRankOf (width c i) o) (sym e) none))
    (cases_lt 0 (width c i)) in
    ((omega (arith, lt, ranks), omega (arith, lt, tables)), (parts.0, (parts.1, λ end. (omega (arith, end, ranks), omega (arith, end, tables)))))

-- ---- Row

-- the last node of a live cell is asked for where transitions are looked at
asked_there : (c : Case) (i a : ℕ) → IsMatchOf c → i < length c.layers → IsLookedAt c i → IsThere ((cell_at (table c (i - 1)) a).cost)
    → AsksTrace c.net c.params c.layers (pieces_of c.proof.pieces) (end_of c.net (layer c (i - 1)) a)
asked_there c i a h lt look live =
    let some = look.0 in
    let there = point_in c (i - 1) h (omega (arith, lt)) look.1.0 in
    let q = piece_no c.proof.pieces there.0 in
    let run = run_of c there.0 h there.1 in
    let in_q = there.2 in
    let ge = in_q.0 in
    let filled = run.some in
    let inside = run.inside in
    let tables = run.tables in
    let count = length_between c.proof.tables q.first q.last run.some (omega (arith, inside, tables)) in
    let e : i - q.first ≡ i - 1 - q.first + 1 = omega (arith, ge, some) in
    let v = end_of c.net (layer c (i - 1)) a in
    let asks : AsksIn c.net c.params (layers_from c q) (tables_in c q) v = (
      i - 1 - q.first,
      record {
        here = layer c (i - 1);
        next = layer c i;
        cells = table c (i - 1);
        here_is = layer_at c q (i - 1) run in_q;
        next_is = subst (λ k. IsAt (layers_from c q) k (layer c i)) e (layer_from c q i (omega (arith, ge, some)) lt);
        cells_are = table_at c q (i - 1) run in_q;
        asks = record { some = look.1.1.0; near = look.1.1.1; asks = (a, (refl, live)) };
      },
    ) in (
      piece_without_route q,
      (there.0, omega (arith, there.1, length-map c.proof.pieces piece_without_route), get_or-map piece_without_route c.proof.pieces there.0 no_piece (piece_without_route q) there.1),
      asked_in c.net c.params c.layers q.first (tables_in c q) (piece_without_route q) v run.run refl (omega (arith, count, filled)) asks,
    )

rows_hold : (c : Case) (i : ℕ) → IsMatchOf c → i < length c.layers → HasRows c i
rows_hold c i h lt look a a_in live = h.asked (end_of c.net (layer c (i - 1)) a) (asked_there c i a h lt look live)

-- ---- Break

breaks_hold : (c : Case) (i : ℕ) → IsMatchOf c → i < length c.layers → BreaksRight c i
breaks_hold c i h lt =
    let pieces = c.proof.pieces in
    let order = rises_from (trellis_of c) c.layers 0 pieces h.matched.pieces_are in
    record {
      missing = λ none. false_from_ne_true (is_in_any pieces i)
          (λ e. let there = (in_any pieces i).0 e in
          let some = filled_of c (piece_no pieces there.0) i (run_of c there.0 h there.1) there.2 in
          omega (arith, none, some));
      on = λ some look way_there.
          let there = point_in c i h lt some in
          let q = piece_no pieces there.0 in
          ⊎_elim (λ later. (gone_on pieces i).1 (there.0, there.1, (there.2, later)))
          (λ le.
          let ge = there.2.0 in
          let zero_less = look.0 in
          let before = point_in c (i - 1) h (omega (arith, lt)) look.1.0 in
          let b = piece_no pieces before.0 in
          let low = before.2.0 in
          let high = before.2.1 in
          let past : b.last + 1 ≡ i =
          ⊎_elim (λ short. omega (arith, short, high, zero_less))
          (λ reaches. absurd (
          let same = one_piece 0 pieces i before.0 there.0 order before.1 there.1 (omega (arith, low), reaches) there.2 in
          let first : b.first ≡ q.first = ap (λ k. (piece_no pieces k).first) same in
          omega (arith, first, low, ge, le, zero_less)))
          (cases_lt b.last i) in
          absurd (ends_of c b i (run_of c before.0 h before.1) past lt look way_there))
          (cases_lt q.first i);
      anew = λ some no.
          let there = point_in c i h lt some in
          let q = piece_no pieces there.0 in
          let ge = there.2.0 in
          let run = run_of c there.0 h there.1 in
          ⊎_elim (λ later. absurd (no (looked_of c q i run (there.2, later)) (reached_of c q i run (there.2, later))))
          (λ le. (begun pieces i).1 (there.0, there.1, (there.2, omega (arith, ge, le))))
          (cases_lt q.first i);
    }

break_holds : (c : Case) (i : ℕ) → IsMatchOf c → i < length c.layers → AtBreak c i
break_holds c i h lt = (
  breaks_hold c i h lt,
  (
    λ e. rises_from (trellis_of c) c.layers 0 c.proof.pieces h.matched.pieces_are,
    λ e later. let inside = (run_of c later.0 h later.1).inside in let past = later.2 in omega (arith, e, inside, past),
  ),
)

-- ---- the cells

layer_of_case : (c : Case) (i : ℕ) → IsGroundOf c → i < length c.layers → IsLayer c.net c.params (layer c i)
layer_of_case c i ground lt = all-at (IsLayer c.net c.params) c.layers i (layer c i) ground.trace.are.each (at-get_or c.layers i no_layer lt)

first_holds : (c : Case) (i : ℕ) → IsMatchOf c → begins c.proof.pieces i ≡ true → AreFirstCells c i
first_holds c i h e =
    let there = (begun c.proof.pieces i).0 e in
    subst (λ k. AreFirstCells c k) there.2.1 (first_of c (piece_no c.proof.pieces there.0) (run_of c there.0 h there.1)).each

pair_of : (c : Case) (i : ℕ) → IsGroundOf c → i < length c.layers → AreNeighbours c.net c.params (layer c (i - 1)) (layer c i)
pair_of c i ground lt = record {
  options = ground.trace.options;
  before = layer_of_case c (i - 1) ground (omega (arith, lt));
  layer = layer_of_case c i ground lt;
}

-- no cost of a point of a piece is above 2^43 for each point so far
pub small_in : (c : Case) (q : Routed) (d i : ℕ) → IsGroundOf c → IsRunOf c q → i ≡ q.first + d → i ≤ q.last → CostAtMost ((d + 1) * 2 ^ 43) (table c i)
small_in c q zero i ground run e le =
    let inside = run.inside in
    let same : q.first ≡ i = omega (arith, e) in
    subst (λ k. CostAtMost ((0 + 1) * 2 ^ 43) (table c k)) same
    (λ j b is. let small = first_le c.net c.params (layer c q.first) (table c q.first) ground.trace.options (layer_of_case c q.first ground (omega (arith, inside, le, e))) (first_of c q run) j b is in
    omega (arith, small))
small_in c q (suc d) i ground run e le =
    let inside = run.inside in
    let before = small_in c q d (i - 1) ground run (omega (arith, e)) (omega (arith, le)) in
    let later : IsLater i q = ((omega (arith, e), le), omega (arith, e)) in
    λ j b is.
    let small = next_le c.net c.params (layer c (i - 1)) (layer c i) (table c (i - 1)) (table c i) ((d + 1) * 2 ^ 43) ground.lawful (pair_of c i ground (omega (arith, inside, le)))
    (later_of c q i run later) before j b is in
    omega (arith, small)

later_holds : (c : Case) (i : ℕ) → IsGroundOf c → IsMatchOf c → goes_on c.proof.pieces i ≡ true → AreLeast c i
later_holds c i ground h e j j_in =
    let there = (gone_on c.proof.pieces i).0 e in
    let q = piece_no c.proof.pieces there.0 in
    let run = run_of c there.0 h there.1 in
    let later = there.2 in
    let low = later.1 in
    let high = later.0.1 in
    let inside = run.inside in
    let few = ground.trace.are.few in
    let pair = pair_of c i ground (omega (arith, high, inside)) in
    record {
      least = (later_of c q i run later).each j j_in;
      fits = λ a s a_in way_is.
          let t = trellis_of c in
          let parts = added-parts ((cell_at (table c (i - 1)) a).cost) (t.transition (layer c (i - 1)) a (layer c i) j) (t.emission (layer c i) j) s way_is in
          let first = small_in c q (i - 1 - q.first) (i - 1) ground run (omega (arith, low)) (omega (arith, high)) a parts.first parts.first_is in
          let second = transition_le c.net c.params (layer c (i - 1)) (layer c i) a j parts.second ground.lawful pair a_in j_in parts.second-is in
          let third = emission_le c.net c.params (layer c i) j ground.trace.options pair.layer j_in in
          omega (arith, parts.sum-is, first, second, third, high, inside, few);
    }

-- ---- the ends of pieces

-- the cells and the rank of a point of a piece
point_at : (c : Case) (k j : ℕ) (h : IsMatchOf c) (lt : k < length c.proof.pieces) → j ≤ (piece_no c.proof.pieces k).last - (piece_no c.proof.pieces k).first
    → (table c ((piece_no c.proof.pieces k).first + j) ≡ get_or (tables_in c (piece_no c.proof.pieces k)) j [])
    × (rank c ((piece_no c.proof.pieces k).first + j) ≡ Some (get_or (matched_piece c k h lt).chosen j 0))
point_at c k j h lt le =
    let q = piece_no c.proof.pieces k in
    let m = matched_piece c k h lt in
    let run = run_of c k h lt in
    let ts = tables_in c q in
    let some = run.some in
    let in_q : IsIn (q.first + j) q = (omega arith, omega (arith, le, some)) in
    let e : q.first + j - q.first ≡ j = omega arith in
    let there = table_at c q (q.first + j) run in_q in
    let below = there.below in (
      there.is ∙ get_or_default ts (q.first + j - q.first) (table c (q.first + j)) [] below ∙ ap (λ v. get_or ts v []) e,
      rank_in c k (q.first + j) h lt in_q ∙ ap (λ v. let o : Option ℕ = Some (get_or m.chosen v 0) in o) e,
    )

chosen_holds : (c : Case) (k : ℕ) → IsMatchOf c → k < length c.proof.pieces → IsChosenFor c (piece_no c.proof.pieces k)
chosen_holds c k h lt =
    let t = trellis_of c in
    let q = piece_no c.proof.pieces k in
    let m = matched_piece c k h lt in
    let run = run_of c k h lt in
    let some = run.some in
    let n = q.last - q.first in
    let xs = layers_from c q in
    let ts = tables_in c q in
    let inside = run.inside in
    let tables = run.tables in
    let whole : q.last + 1 - q.first ≡ n + 1 = omega (arith, some) in
    let chosen-len : length m.chosen ≡ n + 1 = chosen_count c k h lt ∙ whole in
    let tables-len : length ts ≡ n + 1 = length_between c.proof.tables q.first q.last some (omega (arith, inside, tables)) ∙ whole in
    let at_last : IsIn q.last q = (some, omega arith) in
    let r = get_or m.chosen n 0 in
    let last-layers : reverse (from_to q.first q.last c.layers) ≡ layer c q.last ∷ reverse (take n xs) =
    ap (λ v. reverse (take v xs)) whole ∙ reverse-take xs n (layer c q.last) (layer_at c q q.last run at_last) in
    let last-ranks : reverse m.chosen ≡ r ∷ reverse (take n m.chosen) = reverse-all m.chosen n r chosen-len (at-get_or m.chosen n 0 (omega (arith, chosen-len))) in
    let best : IsBest t (layer c q.last ∷ reverse (take n xs)) q.cost (r ∷ reverse (take n m.chosen)) =
    subst (λ rs. IsBest t (layer c q.last ∷ reverse (take n xs)) q.cost rs) last-ranks (subst (λ ys. IsBest t ys q.cost (reverse m.chosen)) last-layers m.best) in
    let is = best_is t (layer c q.last) (reverse (take n xs)) (table c q.last) (reverse (take n ts)) r q.cost (reverse (take n m.chosen)) (linked_of c q q.last run at_last) best in
    let top : q.first + n ≡ q.last = omega (arith, some) in
    let lasts = point_at c k n h lt (omega arith) in
    let back : LeadsBack m.chosen ts n =
    subst (λ (cells : List Cell). reverse (take n m.chosen) ≡ by_pointers (reverse (take n ts)) (pointer_of cells (Some r)))
    (ap (λ v. table c v) (sym top) ∙ lasts.0) is.1 in
    record {
      chosen = r;
      chosen-is = ap (λ v. rank c v) (sym top) ∙ lasts.1;
      least = is.0;
      follows = λ j low.
          let here = point_at c k j h lt (omega (arith, low)) in
          let e : q.first + j + 1 ≡ q.first + (j + 1) = omega arith in
          let next = point_at c k (j + 1) h lt (omega (arith, low)) in
          let stands : pointer_of (table c (q.first + j + 1)) (rank c (q.first + j + 1)) ≡ pointer_of (get_or ts (j + 1) []) (Some (get_or m.chosen (j + 1) 0)) =
          ap (λ v. pointer_of (table c v) (rank c v)) e ∙ ap (λ (cells : List Cell). pointer_of cells (rank c (q.first + (j + 1)))) next.0 ∙ ap (pointer_of (get_or ts (j + 1) [])) next.1 in
          here.1 ∙ sym (stands ∙ rank_before m.chosen ts n j low (omega (arith, chosen-len)) (omega (arith, tables-len)) back);
    }

pub match_holds : (c : Case) (i : ℕ) → IsGroundOf c → IsMatchOf c → i < length c.layers → PointHolds c i
match_holds c i ground h lt = record {
  candidates = candidates_hold c i ground h lt;
  row = rows_hold c i h lt;
  break = break_holds c i h lt;
  first_cost = first_holds c i h;
  later = later_holds c i ground h;
  chosen = λ k k_in e. chosen_holds c k h k_in;
  route = λ k k_in e. h.routes k k_in;
}
