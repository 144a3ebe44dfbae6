-- Where each condition holds at each point, the proof is that of the match.
use Rattle.std.proofs.Common.{◌≡◌, ◌<◌, ◌≤◌, ℕ, suc, ◌+◌, ◌-◌, true, List, [], ◌∷◌, length, get_or, map, take, reverse, Option, Some, None, refl, sym, ◌∙◌, ap, subst, arith}
use Rattle.std.specs.Prelude.{unwrap_or}
use Rattle.std.proofs.lemmas.List.{get_or_default, length-drop, length-map}
use Rattle.std.proofs.lemmas.List.Elements.{All-map}
use Rattle.std.proofs.Math.Seq.{take-length}
use Rattle.matching.specs.declared.parts.Cell.{Cell}
use Rattle.matching.specs.declared.parts.Layer.{Layer}
use Rattle.matching.specs.declared.parts.Piece.{Piece}
use Rattle.matching.specs.Cells.{cell_at}
use Rattle.matching.specs.Layers.{end_of}
use Rattle.matching.specs.Local.{IsLeastCell, by_pointers}
use Rattle.matching.specs.Match.{IsMatch, IsMatchedPiece, from_to}
use Rattle.matching.specs.PieceSteps.{AsksIn, AsksTrace}
use Rattle.matching.specs.Places.{IsAt}
use Rattle.matching.specs.Sequences.{IsBest}
use Rattle.matching.proofs.Chosen.{live_below}
use Rattle.matching.proofs.Runs.{EndsWith, cells_of_linked, run_best}
use Rattle.matching.proofs.WholePiece.{in_asked}
use Rattle.match_text.specs.declared.matched.Routed.{Routed}
use Rattle.route_rebuild.proofs.ChosenRun.{length_between, point_chosen}
use Rattle.cert_checker.specs.Case.{Case, has_row, layer, rank, table, width}
use Rattle.cert_checker.specs.Cells.{pointer_of}
use Rattle.cert_checker.specs.Verdicts.{piece_without_route}
use Rattle.cert_checker.proofs.PieceTests.{IsIn, no_piece, piece_filled, piece_no}
use Rattle.cert_checker.proofs.PointConditions.{IsLookedAt, IsRankOf}
use Rattle.cert_checker.proofs.CellTests.{IsLeastRank}
use Rattle.cert_checker.proofs.BestRanks.{Follows, leads_back}
use Rattle.cert_checker.proofs.RunPoints.{from_to_at, layer_at, layer_from, layers_from, table_at, tables_in, trellis_of}
use Rattle.cert_checker.proofs.MatchedCases.{IsMatchOf, piece_there, pieces_of}
use Rattle.cert_checker.proofs.HeldRuns.{IsHeld, held_filled, held_inside, held_order, held_ranks, held_run, held_tables}
use Rattle.cert_checker.proofs.HeldPieces.{layer_is, held_pieces}

-- ---- the ranks of a piece

all_some : (xs : List (Option ℕ)) → ((k : ℕ) → k < length xs → (r : ℕ) × (get_or xs k None ≡ Some r))
    → xs ≡ map (λ r. Some r) (map (λ o. unwrap_or o 0) xs)
all_some [] h = refl
all_some (None ∷ xs) h = absurd (let e = (h 0 (omega arith)).1 in cc)
all_some (Some r ∷ xs) h = ap (λ ys. Some r ∷ ys) (all_some xs (λ k lt. h (suc k) (omega (arith, lt))))

some_rank : (w : ℕ) (o : Option ℕ) → 0 < w → IsRankOf w o → (r : ℕ) × (o ≡ Some r)
some_rank w None lt h = absurd (omega (arith, lt, h))
some_rank w (Some r) lt h = (r, refl)

abbrev chosen_in : Case → Routed → List ℕ
chosen_in c q = map (λ o. unwrap_or o 0) (from_to q.first q.last c.proof.ranks)

same_rank : (x y : Option ℕ) → x ≡ y → (r : ℕ) × (y ≡ Some r) → (r : ℕ) × (x ≡ Some r)
same_rank x y same (r, is) = (r, same ∙ is)

ranks_are : (c : Case) (k : ℕ) → IsHeld c → k < length c.proof.pieces
    → from_to (piece_no c.proof.pieces k).first (piece_no c.proof.pieces k).last c.proof.ranks ≡ map (λ r. Some r) (chosen_in c (piece_no c.proof.pieces k))
ranks_are c k h lt =
    let q = piece_no c.proof.pieces k in
    let inside = held_inside c k h lt in
    let ranks = held_ranks c h in
    let filled = piece_filled 0 c.proof.pieces k (held_order c h) lt in
    let count = length_between c.proof.ranks q.first q.last filled (omega (arith, inside, ranks)) in
    all_some (from_to q.first q.last c.proof.ranks)
    (λ j j_in.
    let low : j < q.last + 1 - q.first = omega (arith, j_in, count) in
    let at = (h.each (q.first + j) (omega (arith, low, inside, filled))).candidates in
    same_rank (get_or (from_to q.first q.last c.proof.ranks) j None) (rank c (q.first + j)) (from_to_at q.first q.last j c.proof.ranks None low)
    (some_rank (width c (q.first + j)) (rank c (q.first + j)) (held_filled c k (q.first + j) h lt (omega arith, omega (arith, low, filled))) at.1.1.0))

chosen_at : (c : Case) (k j : ℕ) → IsHeld c → k < length c.proof.pieces → j ≤ (piece_no c.proof.pieces k).last - (piece_no c.proof.pieces k).first
    → (length (chosen_in c (piece_no c.proof.pieces k)) ≡ (piece_no c.proof.pieces k).last + 1 - (piece_no c.proof.pieces k).first)
    × (rank c ((piece_no c.proof.pieces k).first + j) ≡ Some (get_or (chosen_in c (piece_no c.proof.pieces k)) j 0))
chosen_at c k j h lt le =
    let q = piece_no c.proof.pieces k in
    let inside = held_inside c k h lt in
    let ranks = held_ranks c h in
    let filled = piece_filled 0 c.proof.pieces k (held_order c h) lt in
    let e : q.first + j - q.first ≡ j = omega arith in
    let at = point_chosen c.proof.ranks (chosen_in c q) q.first q.last (q.first + j) (ranks_are c k h lt)
    (record { from_first = omega arith; to_last = omega (arith, le, filled); inside = omega (arith, inside, ranks) }) in
    (at.0, at.1 ∙ ap (λ v. let o : Option ℕ = Some (get_or (chosen_in c q) v 0) in o) e)

least_cell : (cells : List Cell) (r v : ℕ) → IsLeastRank cells r v → IsLeastCell cells (record { cost = Some v; «from» = Some r })
least_cell cells r v h = record {
  relaxed = λ a d a_in e. h.least a d e;
  tight = (live_below cells r v h.cost-is, h.cost-is);
  pointer = h.first;
}

same_some : (a b : ℕ) → ◌≡◌ {A = Option ℕ} (Some a) (Some b) → a ≡ b
same_some a b e = cc

held_matched : (c : Case) (k : ℕ) → IsHeld c → k < length c.proof.pieces → IsMatchedPiece (trellis_of c) c.layers c.proof.ranks c.proof.tables (piece_without_route (piece_no c.proof.pieces k))
held_matched c k h lt =
    let t = trellis_of c in
    let q = piece_no c.proof.pieces k in
    let run = held_run c k h lt in
    let inside = run.inside in
    let tables = run.tables in
    let some = run.some in
    let n = q.last - q.first in
    let xs = layers_from c q in
    let ts = tables_in c q in
    let chosen = chosen_in c q in
    let whole : q.last + 1 - q.first ≡ n + 1 = omega (arith, some) in
    let count : length ts ≡ n + 1 = length_between c.proof.tables q.first q.last some (omega (arith, inside, tables)) ∙ whole in
    let top = chosen_at c k n h lt (omega arith) in
    let chosen-len : length chosen ≡ n + 1 = top.0 ∙ whole in
    let end = (h.each q.last inside).chosen k lt refl in
    let at_last : IsIn q.last q = (some, omega arith) in
    let to_last : q.first + n ≡ q.last = omega (arith, some) in
    let r : end.chosen ≡ get_or chosen n 0 = same_some end.chosen (get_or chosen n 0) (sym end.chosen-is ∙ ap (λ v. rank c v) (sym to_last) ∙ top.1) in
    let follow : Follows chosen ts n = λ j low.
    let e : q.first + j + 1 ≡ q.first + (j + 1) = omega arith in
    let here = chosen_at c k j h lt (omega (arith, low)) in
    let next = chosen_at c k (j + 1) h lt (omega (arith, low)) in
    let in_q : IsIn (q.first + (j + 1)) q = (omega arith, omega (arith, low, some)) in
    let f : q.first + (j + 1) - q.first ≡ j + 1 = omega arith in
    let stands = table_at c q (q.first + (j + 1)) run in_q in
    let below = stands.below in
    let table-is : table c (q.first + (j + 1)) ≡ get_or ts (j + 1) [] =
    stands.is ∙ get_or_default ts (q.first + (j + 1) - q.first) (table c (q.first + (j + 1))) [] below ∙ ap (λ v. get_or ts v []) f in
    ap (pointer_of (get_or ts (j + 1) [])) (sym next.1)
    ∙ ap (λ (cells : List Cell). pointer_of cells (rank c (q.first + (j + 1)))) (sym table-is)
    ∙ ap (λ v. pointer_of (table c v) (rank c v)) (sym e) ∙ sym (end.follows j low) ∙ here.1 in
    let ends : EndsWith xs ts (layer c q.last) (table c q.last) = record {
      layer = subst (λ v. IsAt xs v (layer c q.last)) (omega (arith, count)) (layer_at c q q.last run at_last);
      table = subst (λ v. IsAt ts v (table c q.last)) (omega (arith, count)) (table_at c q q.last run at_last);
    } in
    let best = run_best t xs ts (layer c q.last) (table c q.last) (record { cost = Some q.cost; «from» = Some end.chosen }) q.cost run.run ends
    (least_cell (table c q.last) end.chosen q.cost end.least) refl in
    let leads : by_pointers (reverse ts) (Some end.chosen) ≡ reverse chosen =
    ap (λ v. by_pointers (reverse ts) (Some v)) r ∙ ap (λ ys. by_pointers (reverse ys) (Some (get_or chosen n 0))) (sym (take-length ts) ∙ ap (λ v. take v ts) count)
    ∙ leads_back chosen ts n (omega (arith, chosen-len)) (omega (arith, count)) follow ∙ ap reverse (ap (λ v. take v chosen) (sym chosen-len) ∙ take-length chosen) in
    record {
      chosen = chosen;
      ranks_are = ranks_are c k h lt;
      best = subst (λ rs. IsBest t (reverse (from_to q.first q.last c.layers)) q.cost rs) leads
          (subst (λ v. IsBest t (reverse (take v xs)) q.cost (by_pointers (reverse ts) (Some end.chosen))) (count ∙ sym whole) best);
      cells = cells_of_linked t xs ts run.run.within run.run.linked;
    }

-- ---- points without candidates

no_cells : (cells : List Cell) → length cells ≡ 0 → cells ≡ []
no_cells [] e = refl
no_cells (cell ∷ cells) e = absurd (omega (arith, e))

no_rank : (w : ℕ) (o : Option ℕ) → w ≡ 0 → IsRankOf w o → o ≡ None
no_rank w None e h = refl
no_rank w (Some r) e h = absurd (omega (arith, e, h))

held_is_match : (c : Case) → IsHeld c → IsMatch (trellis_of c) c.layers c.proof.ranks (pieces_of c.proof.pieces) c.proof.tables
held_is_match c h =
    let ranks = held_ranks c h in
    record {
      ranks_count = ranks;
      tables_count = held_tables c h;
      pieces_are = held_pieces c h;
      each = All-map (λ (p : Piece). IsMatchedPiece (trellis_of c) c.layers c.proof.ranks c.proof.tables p) piece_without_route c.proof.pieces
          (λ k d lt. subst (λ (q : Routed). IsMatchedPiece (trellis_of c) c.layers c.proof.ranks c.proof.tables (piece_without_route q)) (get_or_default c.proof.pieces k no_piece d lt) (held_matched c k h lt));
      missing = λ i l lt l-is none.
          let at = (h.each i lt).candidates in
          let few : width c i ≡ 0 = ap (trellis_of c).width (sym (l-is ∙ layer_is c i l lt)) ∙ none in (
            get_or_default c.proof.ranks i (Some 0) None (omega (arith, lt, ranks)) ∙ no_rank (width c i) (rank c i) few at.1.1.0,
            no_cells (table c i) (at.1.0 ∙ few),
          );
    }

-- ---- the rows

same_at : {X : Type 0} (xs : List X) (i : ℕ) (x y : X) → IsAt xs i x → IsAt xs i y → x ≡ y
same_at xs i x y p q = p.is ∙ get_or_default xs i x y p.below ∙ sym q.is

held_asked : (c : Case) → IsHeld c → (v : ℕ) → AsksTrace c.net c.params c.layers (pieces_of c.proof.pieces) v → has_row c.rows v ≡ true
held_asked c h v (p, among, asked) =
    let k = among.0 in
    let long = length-map c.proof.pieces piece_without_route in
    let k_in : k < length c.proof.pieces = omega (arith, among.1, long) in
    let q = piece_no c.proof.pieces k in
    let same : p ≡ piece_without_route q = sym among.2 ∙ get_or_default (pieces_of c.proof.pieces) k p (piece_without_route no_piece) among.1 ∙ piece_there c.proof.pieces k k_in in
    let run = held_run c k h k_in in
    let tables = run.tables in
    let inside = run.inside in
    let some = run.some in
    let count = length_between c.proof.tables q.first q.last some (omega (arith, inside, tables)) in
    let first_is : p.first ≡ q.first = ap (λ (x : Piece). x.first) same in
    let last-is : p.last ≡ q.last = ap (λ (x : Piece). x.last) same in
    let asks : AsksIn c.net c.params (layers_from c q) (tables_in c q) v =
    in_asked c.net c.params c.layers q.first (tables_in c q) p v run.run first_is (omega (arith, last-is, count, some)) asked in
    let m = asks.0 in
    let at = asks.1 in
    let cells-below = at.cells_are.below in
    let next-below = at.next_is.below in
    let left = length-drop q.first c.layers in
    let i = q.first + m in
    let in_q : IsIn i q = (omega arith, omega (arith, cells-below, count, some)) in
    let next_in : i + 1 < length c.layers = omega (arith, next-below, left) in
    let e : i - q.first ≡ m = omega arith in
    let f : i + 1 - q.first ≡ m + 1 = omega arith in
    let z : i + 1 - 1 ≡ i = omega arith in
    let here_is : at.here ≡ layer c i = same_at (layers_from c q) m at.here (layer c i) at.here_is (subst (λ x. IsAt (layers_from c q) x (layer c i)) e (layer_at c q i run in_q)) in
    let next_is : at.next ≡ layer c (i + 1) = same_at (layers_from c q) (m + 1) at.next (layer c (i + 1)) at.next_is (subst (λ x. IsAt (layers_from c q) x (layer c (i + 1))) f (layer_from c q (i + 1) (omega arith) next_in)) in
    let cells_are : at.cells ≡ table c i = same_at (tables_in c q) m at.cells (table c i) at.cells_are (subst (λ x. IsAt (tables_in c q) x (table c i)) e (table_at c q i run in_q)) in
    let a = at.asks.asks.0 in
    let live : (s : ℕ) × ((cell_at (table c i) a).cost ≡ Some s) = subst (λ (cells : List Cell). (s : ℕ) × ((cell_at cells a).cost ≡ Some s)) cells_are at.asks.asks.1.1 in
    let node : end_of c.net (layer c i) a ≡ v = subst (λ (l : Layer). end_of c.net l a ≡ v) here_is at.asks.asks.1.0 in
    let next_some : 0 < width c (i + 1) = subst (λ (l : Layer). 0 < length l.candidates) next_is at.asks.some in
    let near : (trellis_of c).near (layer c i) (layer c (i + 1)) ≡ true =
    subst (λ (l : Layer). (trellis_of c).near l (layer c (i + 1)) ≡ true) here_is (subst (λ (l : Layer). (trellis_of c).near at.here l ≡ true) next_is at.asks.near) in
    let a_below = live_below (table c i) a live.0 live.1 in
    let width-is = (h.each i (omega (arith, next_in))).candidates.1.0 in
    let a_in : a < width c i = omega (arith, a_below, width-is) in
    let look : IsLookedAt c (i + 1) = subst (λ x. (0 < i + 1) × ((0 < width c x) × ((0 < width c (i + 1)) × ((trellis_of c).near (layer c x) (layer c (i + 1)) ≡ true)))) (sym z)
    (omega arith, (held_filled c k i h k_in in_q, (next_some, near))) in
    let row = (h.each (i + 1) next_in).row look a (subst (λ x. a < width c x) (sym z) a_in) (subst (λ x. (s : ℕ) × ((cell_at (table c x) a).cost ≡ Some s)) (sym z) live) in
    subst (λ x. has_row c.rows x ≡ true) (ap (λ x. end_of c.net (layer c x) a) z ∙ node) row

-- the proof is that of the match
pub held_matches : (c : Case) → IsHeld c → IsMatchOf c
held_matches c h = record {
  matched = held_is_match c h;
  routes = λ k lt. (h.each (piece_no c.proof.pieces k).last (held_inside c k h lt)).route k lt refl;
  asked = held_asked c h;
}
