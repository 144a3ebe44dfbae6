-- The row and the walk of a leg of a piece.
use Rattle.std.proofs.Common.{◌≡◌, ℕ, ◌+◌, List, [], ◌∷◌, ◌++◌, get_or, reverse, Option, Some, None, refl, sym, subst}
use Rattle.road_network.specs.Net.{IsLawful, source, target}
use Rattle.road_network.specs.Walk.{IsLeastWalk}
use Rattle.road_network.specs.declared.EdgeId.{EdgeId}
use Rattle.bounded_table.specs.Table.{IsRow, TableRow}
use Rattle.matching.specs.Routes.{Direct, IsRoute}
use Rattle.route_rebuild.specs.Numbers.{numbers}
use Rattle.cert_checker.specs.Case.{Case}
use Rattle.cert_checker.specs.inside.Legs.{IsLeftAfter, IsLeg, chosen_in_case, leg}
use Rattle.cert_checker.specs.inside.RowPlaces.{IsRowPlace}
use Rattle.cert_checker.proofs.Legs.{HasWalkWithin, after_more, after_none, direct_leg, leg_walk, walked_leg}
use Rattle.cert_checker.proofs.RowsAtPlaces.{row_at_place}

-- there is a direct route from point i to the next
abbrev pub IsDirectLeg : Case → ℕ → Type 0
IsDirectLeg k i = IsRoute k.net k.params.bound k.params.back (chosen_in_case k i) (chosen_in_case k (i + 1)) Direct

pub leg_row : (k : Case) (i place v : ℕ) (d : TableRow) → IsLawful k.net → IsLeg k i → v ≡ target k.net (chosen_in_case k i).edge.0 → IsRowPlace k.rows v place
    → IsRow k.net k.params.bound (target k.net (chosen_in_case k i).edge.0) (get_or k.rows place d)
leg_row k i place v d lawful is same at =
    subst (λ s. IsRow k.net k.params.bound s (get_or k.rows place d)) same (row_at_place k.net k.params.bound k.rows v place d lawful is.of.checkable.rows at)

pub leg_found : (k : Case) (i : ℕ) → IsLawful k.net → IsLeg k i → (IsDirectLeg k i → ⊥)
    → HasWalkWithin k.net k.params.bound (target k.net (chosen_in_case k i).edge.0) (source k.net (chosen_in_case k (i + 1)).edge.0)
leg_found k i lawful is none =
    leg_walk k.net k.params.bound k.params.back (chosen_in_case k i) (chosen_in_case k (i + 1)) lawful (is.of.run.routes i is.from_first is.before_last) none

pub stays_direct : (k : Case) (i : ℕ) (names : List ℕ) → IsLawful k.net → IsDirectLeg k i → IsLeftAfter k.net names (leg k i) (Some names)
stays_direct k i names lawful direct =
    subst (λ es. IsLeftAfter k.net names es (Some names)) (sym (direct_leg k.net k.params.bound k.params.back (chosen_in_case k i) (chosen_in_case k (i + 1)) lawful direct)) (λ rest. refl)

-- the walk of the leg is the least
abbrev IsWalkOfLeg : Case → ℕ → List EdgeId → Type 0
IsWalkOfLeg k i es = IsLeastWalk k.net (target k.net (chosen_in_case k i).edge.0) (reverse (numbers es)) (source k.net (chosen_in_case k (i + 1)).edge.0)

leg_edges : (k : Case) (i : ℕ) (es : List EdgeId) → IsLawful k.net → IsLeg k i → (IsDirectLeg k i → ⊥) → IsWalkOfLeg k i es → leg k i ≡ numbers es ++ (chosen_in_case k (i + 1)).edge.0 ∷ []
leg_edges k i es lawful is none least =
    walked_leg k.net k.params.bound k.params.back (chosen_in_case k i) (chosen_in_case k (i + 1)) (numbers es) lawful none (leg_found k i lawful is none) least

pub differs_walk : (k : Case) (i : ℕ) (names : List ℕ) (es : List EdgeId) → IsLawful k.net → IsLeg k i → (IsDirectLeg k i → ⊥) → IsWalkOfLeg k i es
    → IsLeftAfter k.net names (numbers es) None → IsLeftAfter k.net names (leg k i) None
differs_walk k i names es lawful is none least first =
    subst (λ x. IsLeftAfter k.net names x None) (sym (leg_edges k i es lawful is none least)) (after_none k.net names (numbers es) ((chosen_in_case k (i + 1)).edge.0 ∷ []) first)

pub follows_walk : (k : Case) (i : ℕ) (names left : List ℕ) (es : List EdgeId) (o : Option (List ℕ)) → IsLawful k.net → IsLeg k i → (IsDirectLeg k i → ⊥) → IsWalkOfLeg k i es
    → IsLeftAfter k.net names (numbers es) (Some left) → IsLeftAfter k.net left ((chosen_in_case k (i + 1)).edge.0 ∷ []) o → IsLeftAfter k.net names (leg k i) o
follows_walk k i names left es o lawful is none least first last =
    subst (λ x. IsLeftAfter k.net names x o) (sym (leg_edges k i es lawful is none least)) (after_more k.net names left (numbers es) ((chosen_in_case k (i + 1)).edge.0 ∷ []) o first last)
