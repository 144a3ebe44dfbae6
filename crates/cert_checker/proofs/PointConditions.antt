-- What the conditions say of a point.
use Rattle.std.proofs.Common.{◌≡◌, ◌<◌, ◌≤◌, ℕ, ◌+◌, ◌-◌, ◌==◌, ◌&&◌, ◌^◌, Bool, true, false, cond, leb, ltb, length, Option, Some, None, MatchOption, refl, arith, ⊎_elim}
use Rattle.std.specs.Prelude.{◌||◌, not}
use Rattle.std.specs.Bool.{Decides}
use Rattle.std.specs.Option.{is_some}
use Rattle.std.specs.List.{list_all, list_any, range_with_len}
use Rattle.std.proofs.lemmas.Bool.{and_from, and_parts, both_ways, cases_lt, eq-eqb, eqb-false, eqb-true, false_from_ne_true, false≢true, ne_eqb, not-true, not_from_false, true≢false}
use Rattle.std.proofs.lemmas.Bool.Decides.{Decides-and, Decides-eqb, Decides-ltb, Decides-not}
use Rattle.cost_model.specs.Costs.{emission}
use Rattle.matching.specs.Cells.{cell_at}
use Rattle.matching.specs.Layers.{candidate_of_rank, end_of, trellis}
use Rattle.matching.specs.Local.{IsLeastWay, IsTightCost}
use Rattle.match_text.specs.declared.matched.Routed.{Routed}
use Rattle.cert_checker.specs.Case.{Case, has_row, has_way, is_looked_at, layer, rank, table, way, ways, width}
use Rattle.cert_checker.specs.Cells.{is_first_cell, is_first_pointer, is_relaxed, is_tight}
use Rattle.cert_checker.specs.Pieces.{begins, goes_on, is_in_any, rise_from}
use Rattle.cert_checker.specs.Verdicts.{breaks_right, has_breaks, has_candidates, has_first_costs, has_route, has_rows, holds, is_chosen, is_last, is_rank_of, each_later}
use Rattle.cert_checker.proofs.ListTests.{IsThere, at_most, each_below_n, implied, itself, some_below_n, some_element, some_way, there}
use Rattle.cert_checker.proofs.CellTests.{IsBound, first_cell, pointer, relaxed, tight}
use Rattle.cert_checker.proofs.PieceTests.{RisesFrom, no_piece, piece_no, rises}
use Rattle.cert_checker.proofs.EachPoint.{AllPass}
use Rattle.cert_checker.proofs.PieceConditions.{IsChosenFor, chosen, HasItsRoute, routed, EachEnded, ended}

-- ---- transitions

abbrev pub IsLookedAt : Case → ℕ → Type 0
IsLookedAt c i =
    (0 < i) × ((0 < width c (i - 1)) × ((0 < width c i) × ((trellis c.net c.params).near (layer c (i - 1)) (layer c i) ≡ true)))

pub looked : (c : Case) (i : ℕ) → Decides (is_looked_at c i) (IsLookedAt c i)
looked c i =
    let near = (trellis c.net c.params).near (layer c (i - 1)) (layer c i) in
    Decides-and (ltb 0 i) (ltb 0 (width c (i - 1)) && (ltb 0 (width c i) && near)) (Decides-ltb 0 i)
    (Decides-and (ltb 0 (width c (i - 1))) (ltb 0 (width c i) && near) (Decides-ltb 0 (width c (i - 1)))
    (Decides-and (ltb 0 (width c i)) near (Decides-ltb 0 (width c i)) (itself near)))

abbrev pub IsReached : Case → ℕ → ℕ → Type 0
IsReached c i j = (a : ℕ) × (a < width c (i - 1)) × IsThere (way c i a j)

abbrev pub HasWay : Case → ℕ → Type 0
HasWay c i = (j : ℕ) × (j < width c i) × IsReached c i j

pub has_ways : (c : Case) (i : ℕ) → Decides (has_way c i) (HasWay c i)
has_ways c i =
    some_below_n (IsReached c i) (λ j. list_any is_some (ways c i j)) (width c i) (λ j. some_way (λ a. way c i a j) (width c (i - 1)))

-- ---- Candidates

abbrev pub IsRankOf : ℕ → Option ℕ → Type 0
IsRankOf w None = w ≡ 0
IsRankOf w (Some r) = r < w

rank_of : (w : ℕ) (o : Option ℕ) → Decides (is_rank_of w o) (IsRankOf w o)
rank_of w None = Decides-eqb w 0
rank_of w (Some r) = Decides-ltb r w

-- nothing stands beyond the last point
abbrev pub EndsAt : Case → ℕ → Type 0
EndsAt c i = (length c.proof.ranks ≤ i + 1) × (length c.proof.tables ≤ i + 1)

abbrev pub AreCandidates : Case → ℕ → Type 0
AreCandidates c i =
    ((i < length c.proof.ranks) × (i < length c.proof.tables))
    × ((length (table c i) ≡ width c i) × (IsRankOf (width c i) (rank c i) × (i + 1 ≡ length c.layers → EndsAt c i)))

candidates : (c : Case) (i : ℕ) → Decides (has_candidates c i) (AreCandidates c i)
candidates c i =
    let ranks = length c.proof.ranks in
    let tables = length c.proof.tables in
    let ends = implied (is_last c i) (leb ranks (i + 1) && leb tables (i + 1)) (Decides-eqb (i + 1) (length c.layers))
    (Decides-and (leb ranks (i + 1)) (leb tables (i + 1)) (at_most ranks (i + 1)) (at_most tables (i + 1))) in
    let end = not (is_last c i) || (leb ranks (i + 1) && leb tables (i + 1)) in
    Decides-and (ltb i ranks && ltb i tables) ((length (table c i) == width c i) && (is_rank_of (width c i) (rank c i) && end))
    (Decides-and (ltb i ranks) (ltb i tables) (Decides-ltb i ranks) (Decides-ltb i tables))
    (Decides-and (length (table c i) == width c i) (is_rank_of (width c i) (rank c i) && end) (Decides-eqb (length (table c i)) (width c i))
    (Decides-and (is_rank_of (width c i) (rank c i)) end (rank_of (width c i) (rank c i)) ends))

-- ---- Row

-- where cell a of the point before is live, the end of its edge has its row
abbrev pub HasRowOf : Case → ℕ → ℕ → Type 0
HasRowOf c i a = IsThere ((cell_at (table c (i - 1)) a).cost) → has_row c.rows (end_of c.net (layer c (i - 1)) a) ≡ true

abbrev pub HasRows : Case → ℕ → Type 0
HasRows c i = IsLookedAt c i → (a : ℕ) → a < width c (i - 1) → HasRowOf c i a

rows_there : (c : Case) (i : ℕ) → Decides (has_rows c i) (HasRows c i)
rows_there c i =
    let live = λ (a : ℕ). (cell_at (table c (i - 1)) a).cost in
    let row = λ (a : ℕ). has_row c.rows (end_of c.net (layer c (i - 1)) a) in
    implied (is_looked_at c i) (list_all (λ a. not (is_some (live a)) || row a) (range_with_len 0 (width c (i - 1)))) (looked c i)
    (each_below_n (HasRowOf c i) (λ a. not (is_some (live a)) || row a) (width c (i - 1)) (λ a. implied (is_some (live a)) (row a) (there (live a)) (itself (row a))))

-- ---- Break

pick : (a b g s x : Bool) → Decides (cond a (not x) (cond b g s))
    ((a ≡ true → x ≡ false) × ((a ≡ false → b ≡ true → g ≡ true) × (a ≡ false → b ≡ false → s ≡ true)))
pick true b g s x = (λ e. (λ f. not-true x e, (λ f. absurd (true≢false f), λ f. absurd (true≢false f))), λ h. not_from_false x (h.0 refl))
pick false true g s x = (λ e. (λ f. absurd (false≢true f), (λ f k. e, λ f k. absurd (true≢false k))), λ h. h.1.0 refl refl)
pick false false g s x = (λ e. (λ f. absurd (false≢true f), (λ f k. absurd (false≢true k), λ f k. e)), λ h. h.1.1 refl refl)

-- a piece begins, goes on or is missing at the point, as its transitions tell
pub record BreaksRight (c : Case) (i : ℕ) : Type 0 where
  pub missing : width c i ≡ 0 → is_in_any c.proof.pieces i ≡ false
  pub on : 0 < width c i → IsLookedAt c i → HasWay c i → goes_on c.proof.pieces i ≡ true
  pub anew : 0 < width c i → (IsLookedAt c i → HasWay c i → ⊥) → begins c.proof.pieces i ≡ true

some_width : (w : ℕ) → (w == 0) ≡ false → 0 < w
some_width w e = ⊎_elim (λ lt. lt) (λ le. absurd (eqb-false w 0 e (omega (arith, le)))) (cases_lt 0 w)

no_zero : (w : ℕ) → 0 < w → (w == 0) ≡ false
no_zero w lt = ne_eqb w 0 (λ e. omega (arith, lt, e))

breaks_told : (c : Case) (i : ℕ) → breaks_right c i ≡ true → BreaksRight c i
breaks_told c i e =
    let w = width c i in
    let looks = is_looked_at c i in
    let goes = has_way c i in
    let h = (pick (w == 0) (looks && goes) (goes_on c.proof.pieces i) (begins c.proof.pieces i) (is_in_any c.proof.pieces i)).0 e in
    record {
      missing = λ z. h.0 (eq-eqb w 0 z);
      on = λ some look goes_there. h.1.0 (no_zero w some) (and_from looks goes ((looked c i).1 look) ((has_ways c i).1 goes_there));
      anew = λ some no. h.1.1 (no_zero w some)
          (false_from_ne_true (looks && goes) (λ b. let p = and_parts looks goes b in no ((looked c i).0 p.0) ((has_ways c i).0 p.1)));
    }

breaks_tested : (c : Case) (i : ℕ) → BreaksRight c i → breaks_right c i ≡ true
breaks_tested c i h =
    let w = width c i in
    let looks = is_looked_at c i in
    let goes = has_way c i in
    (pick (w == 0) (looks && goes) (goes_on c.proof.pieces i) (begins c.proof.pieces i) (is_in_any c.proof.pieces i)).1 (
      λ e. h.missing (eqb-true w 0 e),
      (
        λ e b. let p = and_parts looks goes b in h.on (some_width w e) ((looked c i).0 p.0) ((has_ways c i).0 p.1),
        λ e b. h.anew (some_width w e) (λ look goes_there. both_ways (looks && goes) b (and_from looks goes ((looked c i).1 look) ((has_ways c i).1 goes_there))),
      ),
    )

-- some piece ends after point i
abbrev pub EndsLater : Case → ℕ → Type 0
EndsLater c i = (k : ℕ) × (k < length c.proof.pieces) × (i < (piece_no c.proof.pieces k).last)

abbrev pub AtBreak : Case → ℕ → Type 0
AtBreak c i =
    BreaksRight c i × ((i ≡ 0 → RisesFrom 0 c.proof.pieces) × (i + 1 ≡ length c.layers → EndsLater c i → ⊥))

breaks : (c : Case) (i : ℕ) → Decides (has_breaks c i) (AtBreak c i)
breaks c i =
    let later = list_any (λ (q : Routed). ltb i q.last) c.proof.pieces in
    let in_order = not (i == 0) || rise_from 0 c.proof.pieces in
    let within = not (is_last c i) || not later in
    Decides-and (breaks_right c i) (in_order && within) (breaks_told c i, breaks_tested c i)
    (Decides-and in_order within (implied (i == 0) (rise_from 0 c.proof.pieces) (Decides-eqb i 0) (rises 0 c.proof.pieces))
    (implied (is_last c i) (not later) (Decides-eqb (i + 1) (length c.layers))
    (Decides-not later (some_element (λ q. i < q.last) (λ q. ltb i q.last) no_piece c.proof.pieces (λ q. Decides-ltb i q.last)))))

-- ---- the cells

abbrev pub AreFirstCells : Case → ℕ → Type 0
AreFirstCells c i =
    (j : ℕ) → j < width c i
    → cell_at (table c i) j ≡ record { cost = Some (emission c.params (candidate_of_rank (layer c i) j).d2); «from» = None }

first_cells : (c : Case) (i : ℕ) → Decides (has_first_costs c i) (begins c.proof.pieces i ≡ true → AreFirstCells c i)
first_cells c i =
    let costs = λ (j : ℕ). emission c.params (candidate_of_rank (layer c i) j).d2 in
    let test = λ (j : ℕ). is_first_cell (costs j) (cell_at (table c i) j) in
    implied (begins c.proof.pieces i) (list_all test (range_with_len 0 (width c i))) (itself (begins c.proof.pieces i))
    (each_below_n (λ j. cell_at (table c i) j ≡ record { cost = Some (costs j); «from» = None }) test (width c i) (λ j. first_cell (costs j) (cell_at (table c i) j)))

-- the cell has the least way to its candidate, and no way is too long for 64 bits
pub record IsLeastFitting (c : Case) (i j : ℕ) : Type 0 where
  pub least : IsLeastWay (λ a. way c i a j) (width c (i - 1)) (cell_at (table c i) j)
  pub fits : (a s : ℕ) → a < width c (i - 1) → way c i a j ≡ Some s → s < 2 ^ 64

abbrev pub AreLeast : Case → ℕ → Type 0
AreLeast c i = (j : ℕ) → j < width c i → IsLeastFitting c i j

relaxed_cells : (c : Case) (i : ℕ) → Decides (each_later is_relaxed c i)
    (goes_on c.proof.pieces i ≡ true → (j : ℕ) → j < width c i → (a : ℕ) → a < width c (i - 1) → (s : ℕ) → way c i a j ≡ Some s → IsBound ((cell_at (table c i) j).cost) s)
relaxed_cells c i =
    let test = λ (j : ℕ). is_relaxed (ways c i j) (cell_at (table c i) j) in
    implied (goes_on c.proof.pieces i) (list_all test (range_with_len 0 (width c i))) (itself (goes_on c.proof.pieces i))
    (each_below_n (λ j. (a : ℕ) → a < width c (i - 1) → (s : ℕ) → way c i a j ≡ Some s → IsBound ((cell_at (table c i) j).cost) s) test (width c i)
    (λ j. relaxed (λ a. way c i a j) (width c (i - 1)) (cell_at (table c i) j)))

abbrev IsTightAt : Case → ℕ → ℕ → Type 0
IsTightAt c i j = IsTightCost (λ a. way c i a j) (width c (i - 1)) ((cell_at (table c i) j).cost) ((cell_at (table c i) j).«from»)

tight_cells : (c : Case) (i : ℕ) → Decides (each_later is_tight c i) (goes_on c.proof.pieces i ≡ true → (j : ℕ) → j < width c i → IsTightAt c i j)
tight_cells c i =
    let test = λ (j : ℕ). is_tight (ways c i j) (cell_at (table c i) j) in
    implied (goes_on c.proof.pieces i) (list_all test (range_with_len 0 (width c i))) (itself (goes_on c.proof.pieces i))
    (each_below_n (IsTightAt c i) test (width c i) (λ j. tight (λ a. way c i a j) (width c (i - 1)) (cell_at (table c i) j)))

abbrev IsFirstPointerAt : Case → ℕ → ℕ → Type 0
IsFirstPointerAt c i j = is_first_pointer (ways c i j) (cell_at (table c i) j) ≡ true

pointer_cells : (c : Case) (i : ℕ) → Decides (each_later is_first_pointer c i) (goes_on c.proof.pieces i ≡ true → (j : ℕ) → j < width c i → IsFirstPointerAt c i j)
pointer_cells c i =
    let test = λ (j : ℕ). is_first_pointer (ways c i j) (cell_at (table c i) j) in
    implied (goes_on c.proof.pieces i) (list_all test (range_with_len 0 (width c i))) (itself (goes_on c.proof.pieces i))
    (each_below_n (IsFirstPointerAt c i) test (width c i) (λ j. itself (test j)))

least_cells : (c : Case) (i : ℕ) → each_later is_relaxed c i ≡ true → each_later is_tight c i ≡ true → each_later is_first_pointer c i ≡ true
    → goes_on c.proof.pieces i ≡ true → AreLeast c i
least_cells c i r t p on j j_in =
    let bound = (relaxed_cells c i).0 r on j j_in in
    let is_tight_at = (tight_cells c i).0 t on j j_in in
    record {
      least = record {
        relaxed = λ a s a_in e. (bound a a_in s e).1;
        tight = is_tight_at;
        pointer = (pointer (λ a. way c i a j) (width c (i - 1)) (cell_at (table c i) j) is_tight_at).0 ((pointer_cells c i).0 p on j j_in);
      };
      fits = λ a s a_in e. (bound a a_in s e).0;
    }

-- ---- all of them

pub record PointHolds (c : Case) (i : ℕ) : Type 0 where
  pub candidates : AreCandidates c i
  pub row : HasRows c i
  pub break : AtBreak c i
  pub first_cost : begins c.proof.pieces i ≡ true → AreFirstCells c i
  pub later : goes_on c.proof.pieces i ≡ true → AreLeast c i
  pub chosen : EachEnded (IsChosenFor c) c i
  pub route : EachEnded (HasItsRoute c) c i

pub point_told : (c : Case) (i : ℕ) → AllPass (holds c i) → PointHolds c i
point_told c i h = record {
  candidates = (candidates c i).0 h.candidates;
  row = (rows_there c i).0 h.row;
  break = (breaks c i).0 h.break;
  first_cost = (first_cells c i).0 h.first_cost;
  later = least_cells c i h.relaxed h.tight h.pointer;
  chosen = (ended (IsChosenFor c) (is_chosen c) c i (chosen c)).0 h.chosen;
  route = (ended (HasItsRoute c) (has_route c) c i (routed c)).0 h.route;
}

bound_of : (x : Option ℕ) (s : ℕ) → s < 2 ^ 64 → MatchOption x ⊥ (λ b. b ≤ s) → IsBound x s
bound_of x s fits le = (fits, le)

pub point_holds : (c : Case) (i : ℕ) → PointHolds c i → AllPass (holds c i)
point_holds c i h = record {
  candidates = (candidates c i).1 h.candidates;
  row = (rows_there c i).1 h.row;
  break = (breaks c i).1 h.break;
  first_cost = (first_cells c i).1 h.first_cost;
  relaxed = (relaxed_cells c i).1 (λ on j j_in a a_in s e. let k = h.later on j j_in in bound_of ((cell_at (table c i) j).cost) s (k.fits a s a_in e) (k.least.relaxed a s a_in e));
  tight = (tight_cells c i).1 (λ on j j_in. (h.later on j j_in).least.tight);
  pointer = (pointer_cells c i).1 (λ on j j_in. let k = h.later on j j_in in (pointer (λ a. way c i a j) (width c (i - 1)) (cell_at (table c i) j) k.least.tight).1 k.least.pointer);
  chosen = (ended (IsChosenFor c) (is_chosen c) c i (chosen c)).1 h.chosen;
  route = (ended (HasItsRoute c) (has_route c) c i (routed c)).1 h.route;
}
