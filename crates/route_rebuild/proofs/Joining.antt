-- The edges of a route join, and their lengths add up.
use Rattle.std.proofs.Common.{◌≡◌, ℕ, zero, suc, ◌+◌, ◌-◌, ◌≤◌, ◌++◌, List, [], ◌∷◌, reverse, Option, refl, sym, ap, subst, ◌∙◌, arith, append_assoc}
use mathlib.Core.List.{reverse-cons}
use Rattle.cost_model.specs.declared.params.Params.{Params}
use Rattle.matching.specs.declared.parts.Layer.{Layer}
use Rattle.matching.specs.declared.parts.Piece.{Piece}
use Rattle.matching.specs.Layers.{IsCandidate}
use Rattle.matching.specs.Routes.{Route, Direct, Over, IsRoute, route_length}
use Rattle.road_network.specs.Net.{Net, HasEdge, source, span, target}
use Rattle.road_network.specs.Walk.{Leads, walk_length}
use Rattle.road_network.specs.declared.Candidate.{Candidate}
use Rattle.road_network.proofs.Travel.{leads_from_walk}
use Rattle.route_rebuild.specs.inside.ChosenRuns.{IsChosenRun}
use Rattle.route_rebuild.specs.Laws.{AddsUp, AreTotals, IsJoinedRoute, RoutesAreJoined, edges_length, move_back}
use Rattle.route_rebuild.specs.Routes.{AreLegs, IsRouteOf, chosen_at, edges_of, piece_at}
use Rattle.route_rebuild.proofs.ChosenRun.{chosen_run}

lead_on : (n : Net) (u m v : ℕ) (x y : List ℕ) → Leads n u x m → Leads n m y v → Leads n u (x ++ y) v
lead_on n u m v [] y hx hy = subst (λ (k : ℕ). Leads n k y v) (sym hx) hy
lead_on n u m v (e ∷ x) y hx hy = (hx.0, hx.1, lead_on n (target n e) m v x y hx.2 hy)

step_leads : (n : Net) (bound back : ℕ) (a b : Candidate) (r : Route) (rest : List ℕ) (v : ℕ) → IsRoute n bound back a b r → HasEdge n b.edge.0 → Leads n (target n b.edge.0) rest v → Leads n (target n a.edge.0) (edges_of b r ++ rest) v
step_leads n bound back a b Direct rest v is has on = subst (λ (e : ℕ). Leads n (target n e) rest v) (sym is.0) on
step_leads n bound back a b (Over w) rest v is has on =
    subst (λ (k : List ℕ). Leads n (target n a.edge.0) k v) (sym (append_assoc (reverse w) (b.edge.0 ∷ []) rest))
    (lead_on n (target n a.edge.0) (source n b.edge.0) v (reverse w) (b.edge.0 ∷ rest) (leads_from_walk n (target n a.edge.0) (source n b.edge.0) w is.0) (has, refl, on))

-- the candidates of the next k points
abbrev Known : Net → Params → (ℕ → Candidate) → ℕ → ℕ → Type 0
Known n p chosen i k = (j : ℕ) → i ≤ j → j ≤ i + k → IsCandidate n p (chosen j)

known_run : (n : Net) (p : Params) (layers : List Layer) (ranks : List (Option ℕ)) (piece : Piece) → IsChosenRun n p layers ranks piece → Known n p (chosen_at layers ranks) piece.first (piece.last - piece.first)
known_run n p layers ranks piece run j ge le = let some = run.some in run.candidates j ge (omega (arith, some, le))

known_rest : (n : Net) (p : Params) (chosen : ℕ → Candidate) (i k : ℕ) → Known n p chosen i (suc k) → Known n p chosen (i + 1) k
known_rest n p chosen i k are j ge le = are j (omega (arith, ge)) (omega (arith, le))

joins : (n : Net) (p : Params) (chosen : ℕ → Candidate) (i k : ℕ) (es : List ℕ) → Known n p chosen i k → AreLegs n p.bound p.back chosen i k es → Leads n (target n (chosen i).edge.0) es (target n (chosen (i + k)).edge.0)
joins n p chosen i zero es are h =
    let end : i ≡ i + 0 = omega arith in
    subst (λ (k : List ℕ). Leads n (target n (chosen i).edge.0) k (target n (chosen (i + 0)).edge.0)) (sym h) (ap (λ (k : ℕ). target n (chosen k).edge.0) end)
joins n p chosen i (suc k) es are (r, rest, is, eq, more) =
    let end : (i + 1) + k ≡ i + suc k = omega arith in
    let on : Leads n (target n (chosen (i + 1)).edge.0) rest (target n (chosen ((i + 1) + k)).edge.0) = joins n p chosen (i + 1) k rest (known_rest n p chosen i k are) more in
    let far : Leads n (target n (chosen (i + 1)).edge.0) rest (target n (chosen (i + suc k)).edge.0) = subst (λ (q : ℕ). Leads n (target n (chosen (i + 1)).edge.0) rest (target n (chosen q).edge.0)) end on in
    subst (λ (q : List ℕ). Leads n (target n (chosen i).edge.0) q (target n (chosen (i + suc k)).edge.0)) (sym eq)
    (step_leads n p.bound p.back (chosen i) (chosen (i + 1)) r rest (target n (chosen (i + suc k)).edge.0) is.route (are (i + 1) (omega arith) (omega arith)).edge far)

-- neighbouring edges of a route join
joined : (n : Net) (p : Params) (layers : List Layer) (ranks : List (Option ℕ)) (piece : Piece) (es : List ℕ) → IsChosenRun n p layers ranks piece → IsRouteOf n p layers ranks piece es
    → Leads n (source n (chosen_at layers ranks piece.first).edge.0) es (target n (chosen_at layers ranks piece.last).edge.0)
joined n p layers ranks piece es run is =
    let chosen : ℕ → Candidate = chosen_at layers ranks in
    let some = run.some in
    let end : piece.first + (piece.last - piece.first) ≡ piece.last = omega (arith, some) in
    let on = joins n p chosen piece.first (piece.last - piece.first) is.rest (known_run n p layers ranks piece run) is.legs_are in
    let far : Leads n (target n (chosen piece.first).edge.0) is.rest (target n (chosen piece.last).edge.0) = subst (λ (q : ℕ). Leads n (target n (chosen piece.first).edge.0) is.rest (target n (chosen q).edge.0)) end on in
    subst (λ (q : List ℕ). Leads n (source n (chosen piece.first).edge.0) q (target n (chosen piece.last).edge.0)) (sym is.begins)
    ((run.candidates piece.first (omega arith) some).edge, refl, far)

length_append : (n : Net) (xs ys : List ℕ) → edges_length n (xs ++ ys) ≡ edges_length n xs + edges_length n ys
length_append n [] ys = omega arith
length_append n (x ∷ xs) ys = omega (arith, length_append n xs ys)

length_walk : (n : Net) (w : List ℕ) → edges_length n (reverse w) ≡ walk_length n w
length_walk n [] = refl
length_walk n (e ∷ w) = ap (edges_length n) (reverse-cons e w) ∙ (length_append n (reverse w) (e ∷ []) ∙ omega (arith, length_walk n w))

-- one route's part of the law
step_length : (n : Net) (bound back : ℕ) (a b : Candidate) (r : Route) → IsRoute n bound back a b r → a.offset ≤ span n a.edge.0
    → route_length n a b r + a.offset + span n b.edge.0 ≡ span n a.edge.0 + edges_length n (edges_of b r) + move_back a b r + b.offset
step_length n bound back a b Direct is along = let same : span n a.edge.0 ≡ span n b.edge.0 = ap (span n) is.0 in omega (arith, same)
step_length n bound back a b (Over w) is along =
    let sum : edges_length n (reverse w ++ b.edge.0 ∷ []) ≡ walk_length n w + (span n b.edge.0 + 0) = length_append n (reverse w) (b.edge.0 ∷ []) ∙ ap (λ (k : ℕ). k + (span n b.edge.0 + 0)) (length_walk n w) in
    omega (arith, sum, along)

-- the sums over the next k points
record Totals (n : Net) (p : Params) (chosen : ℕ → Candidate) (i k : ℕ) (es : List ℕ) : Type 0 where
  lengths : ℕ
  moves : ℕ
  add_up : AreTotals n p.bound p.back chosen i k lengths moves
  law : lengths + (chosen i).offset + (span n (chosen (i + k)).edge.0 - (chosen (i + k)).offset) ≡ span n (chosen i).edge.0 + edges_length n es + moves

totals : (n : Net) (p : Params) (chosen : ℕ → Candidate) (i k : ℕ) (es : List ℕ) → Known n p chosen i k → AreLegs n p.bound p.back chosen i k es → Totals n p chosen i k es
totals n p chosen i zero es are h =
    let end : chosen (i + 0) ≡ chosen i = ap chosen (let e : i + 0 ≡ i = omega arith in e) in
    let along : (chosen i).offset ≤ span n (chosen i).edge.0 = (are i (omega arith) (omega arith)).offset in
    let none : edges_length n es ≡ 0 = ap (edges_length n) h in
    let spans : span n (chosen (i + 0)).edge.0 ≡ span n (chosen i).edge.0 = ap (λ (c : Candidate). span n c.edge.0) end in
    let offsets : (chosen (i + 0)).offset ≡ (chosen i).offset = ap (λ (c : Candidate). c.offset) end in
    record { lengths = 0; moves = 0; add_up = (refl, refl); law = omega (arith, along, none, spans, offsets) }
totals n p chosen i (suc k) es are (r, rest, is, eq, more) =
    let t : Totals n p chosen (i + 1) k rest = totals n p chosen (i + 1) k rest (known_rest n p chosen i k are) more in
    let a : Candidate = chosen i in
    let b : Candidate = chosen (i + 1) in
    let along : a.offset ≤ span n a.edge.0 = (are i (omega arith) (omega arith)).offset in
    let step = step_length n p.bound p.back a b r is.route along in
    let end : chosen ((i + 1) + k) ≡ chosen (i + suc k) = ap chosen (let e : (i + 1) + k ≡ i + suc k = omega arith in e) in
    let spans : span n (chosen ((i + 1) + k)).edge.0 ≡ span n (chosen (i + suc k)).edge.0 = ap (λ (c : Candidate). span n c.edge.0) end in
    let offsets : (chosen ((i + 1) + k)).offset ≡ (chosen (i + suc k)).offset = ap (λ (c : Candidate). c.offset) end in
    let all : edges_length n es ≡ edges_length n (edges_of b r) + edges_length n rest = ap (edges_length n) eq ∙ length_append n (edges_of b r) rest in
    record {
      lengths = route_length n a b r + t.lengths;
      moves = move_back a b r + t.moves;
      add_up = (r, t.lengths, t.moves, is, refl, refl, t.add_up);
      law = omega (arith, t.law, step, spans, offsets, all);
    }

-- the lengths of the routes of a piece add up
added_up : (n : Net) (p : Params) (layers : List Layer) (ranks : List (Option ℕ)) (piece : Piece) (es : List ℕ) → IsChosenRun n p layers ranks piece → IsRouteOf n p layers ranks piece es
    → AddsUp n p (chosen_at layers ranks) piece es
added_up n p layers ranks piece es run is =
    let chosen : ℕ → Candidate = chosen_at layers ranks in
    let some = run.some in
    let t : Totals n p chosen piece.first (piece.last - piece.first) is.rest = totals n p chosen piece.first (piece.last - piece.first) is.rest (known_run n p layers ranks piece run) is.legs_are in
    let end : chosen (piece.first + (piece.last - piece.first)) ≡ chosen piece.last = ap chosen (let e : piece.first + (piece.last - piece.first) ≡ piece.last = omega (arith, some) in e) in
    let spans : span n (chosen (piece.first + (piece.last - piece.first))).edge.0 ≡ span n (chosen piece.last).edge.0 = ap (λ (c : Candidate). span n c.edge.0) end in
    let offsets : (chosen (piece.first + (piece.last - piece.first))).offset ≡ (chosen piece.last).offset = ap (λ (c : Candidate). c.offset) end in
    let all : edges_length n es ≡ span n (chosen piece.first).edge.0 + edges_length n is.rest = ap (edges_length n) is.begins in
    record { lengths = t.lengths; moves = t.moves; totals = t.add_up; law = omega (arith, t.law, spans, offsets, all) }

-- both, of a run
pub joined_route : (n : Net) (p : Params) (layers : List Layer) (ranks : List (Option ℕ)) (piece : Piece) (es : List ℕ) → IsChosenRun n p layers ranks piece → IsRouteOf n p layers ranks piece es
    → IsJoinedRoute n p layers ranks piece es
joined_route n p layers ranks piece es run is = record {
  route = is;
  joins = joined n p layers ranks piece es run is;
  adds_up = added_up n p layers ranks piece es run is;
}

pub routes_joined : RoutesAreJoined
routes_joined n p layers s k es lawful is lt route = joined_route n p layers s.ranks (piece_at s.pieces k) es (chosen_run n p layers s k lawful is lt) route
