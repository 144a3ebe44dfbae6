-- A trace of one fix is matched to its first candidate, and asks for no row.
use Rattle.std.proofs.Common.{◌≡◌, ℕ, zero, suc, ◌+◌, ◌*◌, ◌/◌, ◌<◌, ◌≤◌, true, List, [], ◌∷◌, length, get_or, All, Option, Some, None, unwrap_or, refl, sym, ap, ◌∙◌, subst, inl, inr, arith, ⊎_elim, mul-le-mul, div-mul-le_self, le_trans}
use Rattle.std.specs.Prelude.{slice_get}
use Rattle.std.proofs.lemmas.Bool.{cases_lt}
use Rattle.std.proofs.lemmas.Nat.{le-div}
use Rattle.std.proofs.lemmas.List.Elements.{All-cons, All-nil}
use Rattle.std.proofs.lemmas.Option.{slice_get_past}
use Rattle.bounded_table.specs.Rows.{AsksAll, RowsState}
use Rattle.bounded_table.proofs.Asking.{asks_known}
use Rattle.cost_model.specs.declared.params.Params.{Params}
use Rattle.cost_model.specs.Costs.{emission}
use Rattle.cost_model.specs.Options.{IsAccepted}
use Rattle.matching.specs.declared.parts.Layer.{Layer}
use Rattle.matching.specs.Best.{Priced}
use Rattle.matching.specs.CellValue.{tables_of}
use Rattle.matching.specs.Layers.{end_of, no_candidate, trellis}
use Rattle.matching.specs.Order.{AtMost}
use Rattle.matching.specs.PieceSteps.{AsksTrace}
use Rattle.matching.specs.Pieces.{IsPiece}
use Rattle.matching.specs.Sequences.{IsBest, Trellis, cost}
use Rattle.matching.specs.Value.{no_points, solution, with_piece}
use Rattle.matching.proofs.Asking.{is_asked_node-tells}
use Rattle.matching.proofs.BestValue.{best-value}
use Rattle.matching.proofs.Costs.{cost-in_range, one-cost, one-parts}
use Rattle.matching.proofs.Greatest.{piece_length-is}
use Rattle.matching.proofs.Values.{value_joins}
use Rattle.road_network.specs.declared.Candidate.{Candidate}
use Rattle.road_network.specs.Net.{Net}
use Rattle.road_network.specs.Near.{candidates}
use Rattle.road_network.specs.NearLaws.{IsWithin}
use Rattle.road_network.proofs.NearOrder.{are_nearest, is_before_of}
use Rattle.route_rebuild.specs.Routes.{route_of}
use Rattle.trace_match.specs.Match.{asks, layer_of, match_of, matched_of, solution_of}
use Rattle.trace_reader.specs.declared.trace.Fix.{Fix}
use Rattle.trace_reader.specs.declared.trace.Trace.{Trace}
use Rattle.trace_reader.specs.Trace.{IsLawfulTrace, point_of_fix}
use Rattle.match_pool.specs.inside.OneFix.{nearest_edge, on_edge}
use Rattle.match_pool.specs.inside.Unmatched.{LiesFar, unmatched}
use Rattle.match_pool.proofs.Unmatched.{unmatched_is}

-- a lesser distance costs no more
emission_rises : (p : Params) (a b : ℕ) → IsAccepted p → a ≤ b → emission p a ≤ emission p b
emission_rises p a b accepted le =
    let k = 2 * (p.sigma * p.sigma) in
    let some : 1 * 1 ≤ p.sigma * p.sigma = mul-le-mul accepted.sigma.0 accepted.sigma.0 in
    let more : a * 1000 ≤ b * 1000 = omega (arith, le) in
    le-div (a * 1000 / k) (b * 1000) k (omega (arith, some)) (le_trans (div-mul-le_self (a * 1000) k) more)

first_is : (xs : List Candidate) (c d : Candidate) → slice_get xs 0 ≡ Some c → get_or xs 0 d ≡ c
first_is [] c d is = absurd (cc)
first_is (x ∷ xs) c d is = cc

first_inside : (xs : List Candidate) (c : Candidate) → slice_get xs 0 ≡ Some c → 0 < length xs
first_inside [] c is = absurd (cc)
first_inside (x ∷ xs) c is = omega arith

first_none : (xs : List Candidate) → slice_get xs 0 ≡ None → xs ≡ []
first_none [] is = refl
first_none (x ∷ xs) is = absurd (cc)

-- of the sequences over one layer that of rank 0 is the best, where no rank costs less
least_of : {L : Type 0} (t : Trellis L) (l : L) (d : ℕ) (other : List ℕ) → ((j : ℕ) → j < t.width l → t.emission l 0 ≤ t.emission l j)
    → cost t (l ∷ []) other ≡ Some d → AtMost (t.emission l 0) (0 ∷ []) d other
least_of t l d [] least is = absurd (cc)
least_of t l d (j ∷ ranks) least is =
    let parts = one-parts t l j ranks d is in
    let le = least j (cost-in_range t l [] j ranks d is) in
    ⊎_elim
    (λ less. inl less)
    (λ no. inr (omega (arith, no, le, parts.1), ⊎_elim (λ later. inl later) (λ here. inr (omega (arith, here), tt)) (cases_lt 0 j)))
    (cases_lt (t.emission l 0) d)

-- the one piece, where the first rank costs least
least_first : {L : Type 0} (t : Trellis L) (l : L) → 0 < t.width l → ((j : ℕ) → j < t.width l → t.emission l 0 ≤ t.emission l j) → IsBest t (l ∷ []) (t.emission l 0) (0 ∷ [])
least_first t l some least = record { costs = one-cost t l 0 some; least = λ d other is. least_of t l d other least is }

one_piece : {L : Type 0} (t : Trellis L) (l : L) → 0 < t.width l → IsPiece t (l ∷ []) 1
one_piece t l some = record {
  within = omega arith;
  can = record { near = tt; sequence = (t.emission l 0, 0 ∷ [], one-cost t l 0 some) };
  greatest = λ k above le can. omega (arith, above, le);
}

solution_one : {L : Type 0} (t : Trellis L) (l : L) → 0 < t.width l → ((j : ℕ) → j < t.width l → t.emission l 0 ≤ t.emission l j)
    → solution t (l ∷ []) ≡ with_piece 0 1 (record { cost = t.emission l 0; ranks = 0 ∷ [] }) (tables_of t (l ∷ []) 1) no_points
unfolding solution
solution_one t l some least =
    value_joins t 0 0 0 (l ∷ []) (piece_length-is t (l ∷ []) 1 (omega arith) (one_piece t l some))
    ∙ ap (λ (b : Option Priced). with_piece 0 1 (unwrap_or b (record { cost = 0; ranks = [] })) (tables_of t (l ∷ []) 1) no_points) (best-value t (l ∷ []) (t.emission l 0) (0 ∷ []) (least_first t l some least))

-- the candidates of a fix do not cost less, the later they stand
costs_rise : (n : Net) (p : Params) (fix : Fix) (j : ℕ) → IsAccepted p → j < length (candidates n p.k p.radius (point_of_fix fix))
    → (trellis n p).emission (layer_of n p fix) 0 ≤ (trellis n p).emission (layer_of n p fix) j
costs_rise n p fix zero accepted inside = omega arith
costs_rise n p fix (suc j) accepted inside =
    let list = candidates n p.k p.radius (point_of_fix fix) in
    let before = is_before_of (get_or list 0 no_candidate) (get_or list (suc j) no_candidate) ((are_nearest n p.k p.radius (point_of_fix fix)).rises 0 (suc j) no_candidate (omega arith) inside) in
    emission_rises p (get_or list 0 no_candidate).d2 (get_or list (suc j) no_candidate).d2 accepted
    (⊎_elim (λ less. omega (arith, less)) (λ tie. omega (arith, tie.0)) before)

one_matched : (n : Net) (p : Params) (id : ℕ) (fix : Fix) → IsAccepted p → 0 < length (candidates n p.k p.radius (point_of_fix fix))
    → match_of n p (record { id = id; fixes = fix ∷ [] }) ≡ on_edge n p id (get_or (candidates n p.k p.radius (point_of_fix fix)) 0 no_candidate)
unfolding match_of route_of
one_matched n p id fix accepted some =
    ap (matched_of n p id (layer_of n p fix ∷ [])) (solution_one (trellis n p) (layer_of n p fix) some (λ j inside. costs_rise n p fix j accepted inside))

alone : (fixes : List Fix) (d : Fix) → length fixes ≡ 1 → fixes ≡ get_or fixes 0 d ∷ []
alone [] d one = absurd (omega (arith, one))
alone (x ∷ []) d one = refl
alone (x ∷ y ∷ fixes) d one = absurd (omega (arith, one))

-- the match of a trace of one fix that has candidates
pub matched_one : (n : Net) (p : Params) (trace : Trace) (fixes : List Fix) (d : Fix) (c : Candidate) → IsAccepted p → fixes ≡ trace.fixes → length trace.fixes ≡ 1
    → nearest_edge n p (get_or fixes 0 d) ≡ Some c → on_edge n p trace.id c ≡ match_of n p trace
matched_one n p trace fixes d c accepted same one first =
    let fix = get_or fixes 0 d in
    let list = candidates n p.k p.radius (point_of_fix fix) in
    let is : fix ∷ [] ≡ trace.fixes = sym (alone fixes d (ap length same ∙ one)) ∙ same in
    ap (on_edge n p trace.id) (sym (first_is list c no_candidate first))
    ∙ sym (one_matched n p trace.id fix accepted (first_inside list c first))
    ∙ ap (λ (all : List Fix). match_of n p (record { id = trace.id; fixes = all })) is

-- and of one that has none
none_all : (n : Net) (p : Params) (fixes : List Fix) (d : Fix) → length fixes ≡ 1 → nearest_edge n p (get_or fixes 0 d) ≡ None → All (LiesFar n p) fixes
none_all n p [] d one none = absurd (omega (arith, one))
none_all n p (fix ∷ []) d one none = All-cons (LiesFar n p) fix [] (first_none (candidates n p.k p.radius (point_of_fix fix)) none) (All-nil (LiesFar n p))
none_all n p (fix ∷ next ∷ fixes) d one none = absurd (omega (arith, one))

pub missing_one : (n : Net) (p : Params) (trace : Trace) (fixes : List Fix) (d : Fix) → IsAccepted p → IsLawfulTrace trace → fixes ≡ trace.fixes → length trace.fixes ≡ 1
    → nearest_edge n p (get_or fixes 0 d) ≡ None → unmatched trace ≡ match_of n p trace
missing_one n p trace fixes d accepted lawful same one none =
    unmatched_is n p trace accepted lawful (subst (All (LiesFar n p)) same (none_all n p fixes d (ap length same ∙ one) none))

-- the first candidate is an edge within the radius
pub nearest_within : (n : Net) (p : Params) (fixes : List Fix) (d : Fix) (c : Candidate) → nearest_edge n p (get_or fixes 0 d) ≡ Some c → IsWithin n p.radius (point_of_fix (get_or fixes 0 d)) c
nearest_within n p fixes d c first =
    let at = point_of_fix (get_or fixes 0 d) in
    let list = candidates n p.k p.radius at in
    subst (IsWithin n p.radius at) (first_is list c no_candidate first) ((are_nearest n p.k p.radius at).each 0 no_candidate (first_inside list c first))

none_next : (n : Net) (p : Params) (layer : Layer) (v : ℕ) (trace : Trace) → AsksTrace n p (layer ∷ []) (solution_of n p trace).pieces v → ⊥
none_next n p layer v trace h =
    let no = slice_get_past (layer ∷ []) (h.2.0 + 1) (omega arith) in
    let yes = h.2.1.next_is in
    absurd (cc)

one_fix-asks_none : (n : Net) (p : Params) (id : ℕ) (fix : Fix) (v : ℕ) → asks n p (record { id = id; fixes = fix ∷ [] }) v ≡ true → ⊥
unfolding asks
one_fix-asks_none n p id fix v is =
    let trace : Trace = record { id = id; fixes = fix ∷ [] } in
    none_next n p (layer_of n p fix) v trace ((is_asked_node-tells (trellis n p) (end_of n) (layer_of n p fix ∷ []) (solution_of n p trace).pieces v).1 is)

asks_none : (n : Net) (p : Params) (id : ℕ) (fixes : List Fix) (v : ℕ) → length fixes ≡ 1 → asks n p (record { id = id; fixes = fixes }) v ≡ true → ⊥
asks_none n p id [] v one is = absurd (omega (arith, one))
asks_none n p id (fix ∷ []) v one is = one_fix-asks_none n p id fix v is
asks_none n p id (fix ∷ next ∷ fixes) v one is = absurd (omega (arith, one))

pub one_asks : (n : Net) (p : Params) (trace : Trace) (state : RowsState) → length trace.fixes ≡ 1 → AsksAll state state (λ v. asks n p trace v ≡ true)
one_asks n p trace state one = asks_known (λ v is. absurd (asks_none n p trace.id trace.fixes v one is))
