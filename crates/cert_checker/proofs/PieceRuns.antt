-- A piece whose points have met their conditions is a run of chosen candidates with routes and rows.
use Rattle.std.proofs.Common.{◌≡◌, ◌<◌, ◌≤◌, ◌==◌, ℕ, zero, suc, ◌+◌, ◌-◌, Bool, true, false, true≢false, cond, List, length, get_or, Option, Some, None, refl, sym, ◌∙◌, ap, subst, arith, ⊎_elim}
use Rattle.std.specs.Prelude.{◌&&◌, ◌||◌, not, nat_lt, unwrap_or, slice_index_or}
use Rattle.std.specs.Option.{option_eq, option_map}
use Rattle.std.specs.List.{range_with_len}
use Rattle.std.proofs.lemmas.Option.{same_Some}
use Rattle.std.proofs.lemmas.Bool.{and_parts, cases_lt, eqb-true, lt-ltb, ltb-true, ne_eqb}
use Rattle.std.proofs.lemmas.List.{get_or-map, get_or_past, length-map}
use Rattle.std.proofs.lemmas.List.FromFn.{get_or-range_with_len, length-range_with_len}
use Rattle.cost_model.specs.Costs.{transition}
use Rattle.road_network.specs.Net.{IsLawful, target}
use Rattle.road_network.specs.declared.Candidate.{Candidate}
use Rattle.polyline_geometry.specs.Plane.{straight}
use Rattle.matching.specs.declared.parts.Cell.{Cell}
use Rattle.matching.specs.Cells.{cell_at}
use Rattle.matching.specs.Layers.{IsCandidate, candidate_of_rank, end_of, no_candidate, trellis}
use Rattle.matching.specs.RouteLength.{length_of_route}
use Rattle.matching.specs.Routes.{HasNoRoute}
use Rattle.matching.proofs.Costs.{added-parts}
use Rattle.matching.proofs.RouteLengths.{length_of_route-none}
use Rattle.match_text.specs.declared.matched.Routed.{Routed}
use Rattle.route_rebuild.specs.inside.ChosenRuns.{IsChosenPoint}
use Rattle.cert_checker.specs.Case.{Case, has_row, has_way, is_looked_at, layer, rank, table, way, ways, width}
use Rattle.cert_checker.specs.inside.CaseSeen.{IsCheckable, IsPositionReady}
use Rattle.cert_checker.specs.Cells.{is_cost, is_least_rank, is_tight, is_tight_by, pointer_of}
use Rattle.cert_checker.specs.inside.Checked.{HasCells, IsAtEnd}
use Rattle.cert_checker.specs.inside.InHand.{HasPoint, IsEnding}
use Rattle.cert_checker.specs.inside.Legs.{IsRoutable, chosen_in_case}
use Rattle.cert_checker.specs.Pieces.{begins, goes_on, is_in_any}
use Rattle.cert_checker.specs.Verdicts.{breaks_right, each_below, has_candidates, is_chosen, is_rank_of}
use Rattle.cert_checker.proofs.EachBelow.{each_at}
use Rattle.cert_checker.proofs.PointersBack.{is_pointed_in, is_pointed_to, pointed_at}
use Rattle.cert_checker.proofs.ReadyPoints.{point_layer, row_there}
use Rattle.cert_checker.proofs.RisingPieces.{among, begins_is, goes_on_is, in_any_is}

or_from : (a b : Bool) → (not a || b) ≡ true → a ≡ true → b ≡ true
or_from true b h e = h
or_from false b h e = absurd (true≢false (sym e))

-- the breaks of a point that goes on with a piece: its transitions are looked at
looked_by : (empty looked way inside on first : Bool) → cond empty (not inside) (cond (looked && way) on first) ≡ true → inside ≡ true → first ≡ false → looked ≡ true
looked_by true looked way true on first h i f = absurd (true≢false (sym h))
looked_by true looked way false on first h i f = absurd (true≢false (sym i))
looked_by false true way inside on first h i f = refl
looked_by false false way inside on true h i f = absurd (true≢false f)
looked_by false false way inside on false h i f = absurd (true≢false (sym h))

is_looked : (c : Case) (i k : ℕ) (q : Routed) → HasPoint c.proof.pieces i q → q.first < k → k ≤ q.last → HasCells c k → is_looked_at c k ≡ true
is_looked c i k q has lt le cells =
    let stands : breaks_right c k ≡ true = (and_parts (breaks_right c k) _ cells.breaks).0 in
    looked_by (width c k == 0) (is_looked_at c k) (has_way c k) (is_in_any c.proof.pieces k) (goes_on c.proof.pieces k) (begins c.proof.pieces k) stands
    (in_any_is c.proof.pieces i k q has (omega (arith, lt)) le)
    (begins_is c.proof.pieces i k q has (omega (arith, lt)) le ∙ ne_eqb q.first k (λ e. omega (arith, lt, e)))

-- the chosen cell of a point is live
pub record IsLiveAt (c : Case) (i : ℕ) : Type 0 where
  pub rank : ℕ
  pub rank-is : slice_index_or c.proof.ranks i None ≡ Some rank
  pub among : rank < width c i
  pub cost : ℕ
  pub live : (cell_at (table c i) rank).cost ≡ Some cost

ranked : (w r : ℕ) (x : Option ℕ) → is_rank_of w x ≡ true → x ≡ Some r → r < w
ranked w r None h e = absurd (cc)
ranked w r (Some s) h e = let same : s ≡ r = same_Some s r e in subst (λ k. k < w) same (ltb-true s w h)

rank_among : (c : Case) (i r : ℕ) → has_candidates c i ≡ true → rank c i ≡ Some r → r < width c i
rank_among c i r has e =
    let sized = (and_parts (nat_lt i (length c.proof.ranks) && nat_lt i (length c.proof.tables)) _ has).1 in
    let chosen = (and_parts (is_rank_of (width c i) (rank c i)) _ (and_parts (length (table c i) == width c i) _ sized).1).0 in
    ranked (width c i) r (rank c i) chosen e

ranks_long : (c : Case) (i : ℕ) → has_candidates c i ≡ true → i < length c.proof.ranks
ranks_long c i has =
    let long = (and_parts (nat_lt i (length c.proof.ranks) && nat_lt i (length c.proof.tables)) _ has).0 in
    ltb-true i (length c.proof.ranks) (and_parts (nat_lt i (length c.proof.ranks)) _ long).0

cost_there : (c : ℕ) (x : Option ℕ) → is_cost c x ≡ true → x ≡ Some c
cost_there c None h = absurd (true≢false (sym h))
cost_there c (Some s) h = ap (λ k. Some k) (eqb-true s c h)

record IsCostly (cells : List Cell) (x : Option ℕ) (cost : ℕ) : Type 0 where
  pub rank : ℕ
  pub rank-is : x ≡ Some rank
  pub live : (cell_at cells rank).cost ≡ Some cost

least_live : (cells : List Cell) (x : Option ℕ) (cost : ℕ) → is_least_rank cells x cost ≡ true → IsCostly cells x cost
least_live cells None cost h = absurd (true≢false (sym h))
least_live cells (Some r) cost h = record { rank = r; rank-is = refl; live = cost_there cost ((cell_at cells r).cost) (and_parts (is_cost cost ((cell_at cells r).cost)) _ h).0 }

live_last : (c : Case) (q : Routed) → is_chosen c q ≡ true → has_candidates c q.last ≡ true → IsLiveAt c q.last
live_last c q chosen has =
    let least = least_live (table c q.last) (rank c q.last) q.cost (and_parts (is_least_rank (table c q.last) (rank c q.last) q.cost) _ chosen).0 in
    record { rank = least.rank; rank-is = least.rank-is; among = rank_among c q.last least.rank has least.rank-is; cost = q.cost; live = least.live }

same_option : (x y : Option ℕ) → option_eq (λ a b. a == b) x y ≡ true → x ≡ y
same_option None None h = refl
same_option None (Some b) h = absurd (true≢false (sym h))
same_option (Some a) None h = absurd (true≢false (sym h))
same_option (Some a) (Some b) h = ap (λ k. Some k) (eqb-true a b h)

record IsTightly (ways : List (Option ℕ)) (y : Option ℕ) : Type 0 where
  pub rank : ℕ
  pub rank-is : y ≡ Some rank
  pub cost : ℕ
  pub is : get_or ways rank None ≡ Some cost

tightly : (ways : List (Option ℕ)) (x y : Option ℕ) (c : ℕ) → is_tight_by ways x y ≡ true → x ≡ Some c → IsTightly ways y
tightly ways None y c h e = absurd (cc)
tightly ways (Some d) None c h e = absurd (true≢false (sym h))
tightly ways (Some d) (Some a) c h e = record { rank = a; rank-is = refl; cost = d; is = cost_there d (get_or ways a None) h }

record IsWayAt (c : Case) (i a j s : ℕ) : Type 0 where
  pub below : a < width c (i - 1)
  pub is : way c i a j ≡ Some s

way_at : (c : Case) (i a j s : ℕ) → get_or (ways c i j) a None ≡ Some s → IsWayAt c i a j s
way_at c i a j s is =
    let range = range_with_len 0 (width c (i - 1)) in
    let long : length range ≡ width c (i - 1) = length-range_with_len 0 (width c (i - 1)) in
    ⊎_elim
    (λ lt. let at : get_or range a 0 ≡ a = let e = get_or-range_with_len 0 (width c (i - 1)) a 0 lt in omega (arith, e) in
    record { below = lt; is = ap (λ k. way c i k j) (sym at) ∙ sym (get_or-map (λ k. way c i k j) range a 0 None (omega (arith, long, lt))) ∙ is })
    (λ ge. absurd (let none = get_or_past (ways c i j) a None (omega (arith, ge, long, length-map range (λ k. way c i k j))) in cc))
    (cases_lt a (width c (i - 1)))

-- the chosen candidate of a point by its rank
chosen_by : (c : Case) (i : ℕ) (h : IsLiveAt c i) → chosen_in_case c i ≡ candidate_of_rank (layer c i) h.rank
chosen_by c i h = ap (λ o. candidate_of_rank (layer c i) (unwrap_or o 0)) h.rank-is

not_none : (o : Option ℕ) (f : ℕ → ℕ) (w : ℕ) → option_map f o ≡ Some w → o ≡ None → ⊥
not_none None f w h e = cc
not_none (Some x) f w h e = cc

-- the point before, where the chosen cell of this one points
record IsLiveBefore (c : Case) (i : ℕ) : Type 0 where
  pub live : IsLiveAt c (i - 1)
  pub routed : HasNoRoute c.net c.params.bound c.params.back (chosen_in_case c (i - 1)) (chosen_in_case c i) → ⊥

live_before : (c : Case) (i0 i : ℕ) (q : Routed) → IsLawful c.net → HasPoint c.proof.pieces i0 q → q.first < i → i ≤ q.last
    → HasCells c i → is_pointed_to c (i - 1) ≡ true → IsLiveAt c i → IsLiveBefore c i
live_before c i0 i q lawful has lt le cells points here =
    let j = here.rank in
    let on : goes_on c.proof.pieces i ≡ true = goes_on_is c.proof.pieces i0 i q has (omega (arith, lt)) le ∙ lt-ltb q.first i lt in
    let all : each_below (width c i) (λ k. is_tight (ways c i k) (cell_at (table c i) k)) ≡ true = or_from (goes_on c.proof.pieces i) _ cells.tight on in
    let one : is_tight (ways c i j) (cell_at (table c i) j) ≡ true = each_at (λ k. is_tight (ways c i k) (cell_at (table c i) k)) (width c i) j all here.among in
    let tight = tightly (ways c i j) ((cell_at (table c i) j).cost) ((cell_at (table c i) j).«from») here.cost one here.live in
    let a = tight.rank in
    let step = way_at c i a j tight.cost tight.is in
    let parts = added-parts ((cell_at (table c (i - 1)) a).cost) ((trellis c.net c.params).transition (layer c (i - 1)) a (layer c i) j) ((trellis c.net c.params).emission (layer c i) j) tight.cost step.is in
    let next : i - 1 + 1 ≡ i = omega (arith, lt) in
    let pointer : rank c (i - 1) ≡ pointer_of (table c i) (rank c i) =
    subst (λ k. rank c (i - 1) ≡ pointer_of (table c k) (rank c k)) next (same_option (rank c (i - 1)) (pointer_of (table c (i - 1 + 1)) (rank c (i - 1 + 1))) points) in
    let rank-is : rank c (i - 1) ≡ Some a = pointer ∙ ap (pointer_of (table c i)) here.rank-is ∙ tight.rank-is in
    let live : IsLiveAt c (i - 1) = record { rank = a; rank-is = rank-is; among = step.below; cost = parts.first; live = parts.first_is } in
    let from : Candidate = candidate_of_rank (layer c (i - 1)) a in
    let to : Candidate = candidate_of_rank (layer c i) j in
    let move : ℕ → ℕ = λ route. transition c.params route (straight (layer c (i - 1)).point (layer c i).point) in
    record {
      live = live;
      routed = λ none.
          let other : HasNoRoute c.net c.params.bound c.params.back from to = subst (λ x. HasNoRoute c.net c.params.bound c.params.back x to) (chosen_by c (i - 1) live)
          (subst (λ x. HasNoRoute c.net c.params.bound c.params.back (chosen_in_case c (i - 1)) x) (chosen_by c i here) none) in
          not_none (length_of_route c.net c.params.bound c.params.back from to) move parts.second parts.second-is (length_of_route-none c.net c.params.bound c.params.back from to lawful other);
    }

-- all that is known of a piece that ends with its last point checked
pub record IsCheckedPiece (c : Case) (q : Routed) : Type 0 where
  pub lawful : IsLawful c.net
  pub checkable : IsCheckable c
  pub has : HasPoint c.proof.pieces q.last q
  pub below : q.last < length c.layers
  pub points : (k : ℕ) → k ≤ q.last → HasCells c k
  pub chosen : is_chosen c q ≡ true

pointed : (c : Case) (q : Routed) (i : ℕ) → is_chosen c q ≡ true → q.first ≤ i → i < q.last → is_pointed_to c i ≡ true
pointed c q i chosen ge lt =
    let all : each_below (q.last - q.first) (is_pointed_in c q) ≡ true = (and_parts (is_least_rank (table c q.last) (rank c q.last) q.cost) _ chosen).1 in
    sym (pointed_at c q i ge) ∙ each_at (is_pointed_in c q) (q.last - q.first) (i - q.first) all (omega (arith, ge, lt))

-- from the last point back to the first
live_back : (c : Case) (q : Routed) (d : ℕ) → IsCheckedPiece c q → q.first + d ≤ q.last → IsLiveAt c (q.last - d)
live_back c q zero h le =
    let e : q.last ≡ q.last - 0 = omega arith in
    subst (IsLiveAt c) e (live_last c q h.chosen (h.points q.last (omega arith)).candidates)
live_back c q (suc d) h le =
    let i = q.last - d in
    let e : i - 1 ≡ q.last - suc d = omega (arith, le) in
    let lt : q.first < i = omega (arith, le) in
    let here = live_back c q d h (omega (arith, le)) in
    let points : is_pointed_to c (i - 1) ≡ true = pointed c q (i - 1) h.chosen (omega (arith, lt)) (omega (arith, lt)) in
    subst (IsLiveAt c) e (live_before c q.last i q h.lawful h.has lt (omega arith) (h.points i (omega arith)) points here).live

live_in : (c : Case) (q : Routed) (i : ℕ) → IsCheckedPiece c q → q.first ≤ i → i ≤ q.last → IsLiveAt c i
live_in c q i h ge le =
    let e : q.last - (q.last - i) ≡ i = omega (arith, le) in
    subst (IsLiveAt c) e (live_back c q (q.last - i) h (omega (arith, ge, le)))

chosen_is_point : (c : Case) (i : ℕ) → i < length c.layers → has_candidates c i ≡ true → IsLiveAt c i → IsChosenPoint c.layers c.proof.ranks i
chosen_is_point c i below has live = record {
  layer = below;
  rank = ranks_long c i has;
  among = subst (λ o. unwrap_or o 0 < width c i) (sym live.rank-is) live.among;
}

chosen_is_candidate : (c : Case) (i : ℕ) → IsCheckable c → i < length c.layers → IsLiveAt c i → IsCandidate c.net c.params (chosen_in_case c i)
chosen_is_candidate c i checkable below live =
    subst (IsCandidate c.net c.params) (sym (chosen_by c i live)) ((point_layer c i checkable below).candidates live.rank no_candidate live.among)

-- from point i to the next there is a route
routed_on : (c : Case) (q : Routed) (i : ℕ) → IsCheckedPiece c q → q.first ≤ i → i < q.last → HasNoRoute c.net c.params.bound c.params.back (chosen_in_case c i) (chosen_in_case c (i + 1)) → ⊥
routed_on c q i h ge lt none =
    let e : i + 1 - 1 ≡ i = omega arith in
    let here = live_in c q (i + 1) h (omega (arith, ge)) (omega (arith, lt)) in
    let points : is_pointed_to c (i + 1 - 1) ≡ true = ap (is_pointed_to c) e ∙ pointed c q i h.chosen ge lt in
    let before = live_before c q.last (i + 1) q h.lawful h.has (omega (arith, ge)) (omega (arith, lt)) (h.points (i + 1) (omega (arith, lt))) points here in
    before.routed (subst (λ k. HasNoRoute c.net c.params.bound c.params.back (chosen_in_case c k) (chosen_in_case c (i + 1))) (sym e) none)

-- and the row of the node at the end of its chosen edge is there
row_on : (c : Case) (q : Routed) (i : ℕ) → IsCheckedPiece c q → q.first ≤ i → i < q.last → has_row c.rows (target c.net (chosen_in_case c i).edge.0) ≡ true
row_on c q i h ge lt =
    let e : i + 1 - 1 ≡ i = omega arith in
    let live : IsLiveAt c (i + 1 - 1) = subst (IsLiveAt c) (sym e) (live_in c q i h ge (omega (arith, lt))) in
    let below = h.below in
    let ready : IsPositionReady c (i + 1) = record {
      checkable = h.checkable;
      below = omega (arith, lt, below);
      looked = is_looked c q.last (i + 1) q h.has (omega (arith, ge)) (omega (arith, lt)) (h.points (i + 1) (omega (arith, lt)));
      before = (h.points (i + 1 - 1) (omega (arith, lt))).candidates;
      here = (h.points (i + 1) (omega (arith, lt))).candidates;
      rows = (h.points (i + 1) (omega (arith, lt))).rows;
    } in
    let there : has_row c.rows (end_of c.net (layer c (i + 1 - 1)) live.rank) ≡ true = row_there c (i + 1) ready live.rank live.cost live.among live.live in
    subst (λ k. has_row c.rows (target c.net (chosen_in_case c k).edge.0) ≡ true) e
    (ap (λ (x : Candidate). has_row c.rows (target c.net x.edge.0)) (chosen_by c (i + 1 - 1) live) ∙ there)

pub piece_routable : (c : Case) (q : Routed) → IsCheckedPiece c q → IsRoutable c q
piece_routable c q h =
    let below = h.below in
    let ends = among c.proof.pieces q.last q h.has in
    let some = ends.from_first in
    record {
      checkable = h.checkable;
      run = record {
        options = h.checkable.options;
        some = some;
        points = λ i ge le. chosen_is_point c i (omega (arith, le, below)) (h.points i le).candidates (live_in c q i h ge le);
        candidates = λ i ge le. chosen_is_candidate c i h.checkable (omega (arith, le, below)) (live_in c q i h ge le);
        routes = λ i ge lt. routed_on c q i h ge lt;
      };
      rows = λ i ge lt. row_on c q i h ge lt;
    }

-- the piece that ends with a checked point
pub ending_routable : (c : Case) (i : ℕ) (left : List Routed) (q : Routed) → IsLawful c.net → IsAtEnd c i left → IsEnding c.proof.pieces i q → is_chosen c q ≡ true → IsRoutable c q
ending_routable c i left q lawful at ending chosen =
    let ends = ending.ends in
    let below = at.below in
    piece_routable c q (record {
      lawful = lawful;
      checkable = at.checkable;
      has = subst (λ k. HasPoint c.proof.pieces k q) (sym ends) ending.has;
      below = omega (arith, ends, below);
      points = λ k le. at.points k (omega (arith, le, ends));
      chosen = chosen;
    })
