-- The route of a piece is the value, and nothing else is.
use Rattle.std.proofs.Common.{◌≡◌, ℕ, zero, suc, ◌+◌, ◌-◌, ◌<◌, ◌≤◌, List, ◌∷◌, ◌++◌, Option, Some, None, MatchOption, refl, sym, ap, subst, ◌∙◌, arith}
use Rattle.matching.specs.Routes.{Route, HasNoRoute, IsTheRoute}
use Rattle.matching.specs.RouteBetween.{route_between}
use Rattle.matching.proofs.RouteBetweens.{route_between-is, routes_least}
use Rattle.cost_model.specs.declared.params.Params.{Params}
use Rattle.matching.specs.declared.parts.Layer.{Layer}
use Rattle.matching.specs.declared.parts.Piece.{Piece}
use Rattle.road_network.specs.declared.Candidate.{Candidate}
use Rattle.road_network.specs.Net.{Net, IsLawful}
use Rattle.route_rebuild.specs.inside.ChosenRuns.{IsChosenRun}
use Rattle.route_rebuild.specs.Laws.{RoutesAreTheValue}
use Rattle.route_rebuild.specs.Routes.{AreLegs, IsRouteOf, chosen_at, edges_to, legs, piece_at, route_of}
use Rattle.route_rebuild.proofs.ChosenRun.{chosen_run}

legs-is : (n : Net) (bound back : ℕ) (chosen : ℕ → Candidate) (i k : ℕ) (es : List ℕ) → IsLawful n
    → AreLegs n bound back chosen i k es → es ≡ legs n bound back chosen i k
legs-is n bound back chosen i zero es lawful h = h
legs-is n bound back chosen i (suc k) es lawful (r, rest, is, whole, on) =
    let a = chosen i in
    let b = chosen (i + 1) in
    whole ∙ ap (λ (x : Option Route). edges_to b x ++ rest) (sym (route_between-is n bound back a b r lawful is))
    ∙ ap (λ (x : List ℕ). edges_to b (route_between n bound back a b) ++ x) (legs-is n bound back chosen (i + 1) k rest lawful on)

-- whatever is the route is the value
pub route_of-is : (n : Net) (p : Params) (layers : List Layer) (ranks : List (Option ℕ)) (piece : Piece) (es : List ℕ)
    → IsLawful n → IsRouteOf n p layers ranks piece es → es ≡ route_of n p layers ranks piece
unfolding route_of
route_of-is n p layers ranks piece es lawful h =
    h.begins ∙ ap (λ (x : List ℕ). (chosen_at layers ranks piece.first).edge.0 ∷ x)
    (legs-is n p.bound p.back (chosen_at layers ranks) piece.first (piece.last - piece.first) h.rest lawful h.legs_are)

some_between : (n : Net) (bound back : ℕ) (a b : Candidate) (o : Option Route) → MatchOption o (HasNoRoute n bound back a b) (IsTheRoute n bound back a b)
    → (HasNoRoute n bound back a b → ⊥) → (q : Route) × (o ≡ Some q) × IsTheRoute n bound back a b q
some_between n bound back a b None none some = absurd (some none)
some_between n bound back a b (Some q) the some = (q, refl, the)

-- where there is some route, the value is the route
pub route_found : (n : Net) (bound back : ℕ) (a b : Candidate) → IsLawful n → (HasNoRoute n bound back a b → ⊥)
    → (q : Route) × (route_between n bound back a b ≡ Some q) × IsTheRoute n bound back a b q
route_found n bound back a b lawful some = some_between n bound back a b (route_between n bound back a b) (routes_least n bound back a b lawful) some

-- the next k pairs have routes
abbrev HaveRoutes : Net → ℕ → ℕ → (ℕ → Candidate) → ℕ → ℕ → Type 0
HaveRoutes n bound back chosen i k = (j : ℕ) → i ≤ j → j < i + k → HasNoRoute n bound back (chosen j) (chosen (j + 1)) → ⊥

legs_are : (n : Net) (bound back : ℕ) (chosen : ℕ → Candidate) (i k : ℕ) → IsLawful n → HaveRoutes n bound back chosen i k → AreLegs n bound back chosen i k (legs n bound back chosen i k)
legs_are n bound back chosen i zero lawful routes = refl
legs_are n bound back chosen i (suc k) lawful routes =
    let a = chosen i in
    let b = chosen (i + 1) in
    let found = route_found n bound back a b lawful (routes i (omega arith) (omega arith)) in
    let rest = legs n bound back chosen (i + 1) k in (
      found.0,
      rest,
      found.2,
      ap (λ (x : Option Route). edges_to b x ++ rest) found.1,
      legs_are n bound back chosen (i + 1) k lawful (λ j ge lt. routes j (omega (arith, ge)) (omega (arith, lt))),
    )

-- the value is the route
route_of-route : (n : Net) (p : Params) (layers : List Layer) (ranks : List (Option ℕ)) (piece : Piece)
    → IsLawful n → IsChosenRun n p layers ranks piece → IsRouteOf n p layers ranks piece (route_of n p layers ranks piece)
unfolding route_of
route_of-route n p layers ranks piece lawful run =
    let some = run.some in
    record {
      rest = legs n p.bound p.back (chosen_at layers ranks) piece.first (piece.last - piece.first);
      begins = refl;
      legs_are = legs_are n p.bound p.back (chosen_at layers ranks) piece.first (piece.last - piece.first) lawful
          (λ j ge lt. run.routes j ge (omega (arith, lt, some)));
    }

pub routes_value : RoutesAreTheValue
routes_value n p layers s k es lawful is lt =
    let piece = piece_at s.pieces k in (
      route_of-is n p layers s.ranks piece es lawful,
      (λ e. subst (IsRouteOf n p layers s.ranks piece) (sym e) (route_of-route n p layers s.ranks piece lawful (chosen_run n p layers s k lawful is lt))),
    )
