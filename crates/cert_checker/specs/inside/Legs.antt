-- The route of a piece, compared leg by leg.
use Rattle.std.specs.Prelude.{ℕ, ◌≡◌, ◌+◌, ◌==◌, ◌<◌, ◌≤◌, Bool, true, false, List, ◌++◌, map, Option, Some, None}
use Rattle.std.specs.Cmp.Lexicographic.{pointwise}
use Rattle.road_network.specs.Net.{Net, edge_name, target}
use Rattle.road_network.specs.declared.Candidate.{Candidate}
use Rattle.matching.specs.RouteBetween.{route_between}
use Rattle.match_text.specs.declared.matched.Routed.{Routed}
use Rattle.route_rebuild.specs.inside.ChosenRuns.{IsChosenRun}
use Rattle.route_rebuild.specs.Routes.{chosen_at, edges_to}
use Rattle.cert_checker.specs.Case.{Case, has_row}
use Rattle.cert_checker.specs.inside.CaseSeen.{IsCheckable}
use Rattle.cert_checker.specs.Verdicts.{piece_without_route}

-- these are the ids of the edges
abbrev pub are_names : Net → List ℕ → List ℕ → Bool
are_names n names es = pointwise (λ a b. a == b) names (map (edge_name n) es)

-- there are ids left, and they are those of the edges
abbrev pub are_left_names : Net → Option (List ℕ) → List ℕ → Bool
are_left_names n None es = false
are_left_names n (Some names) es = are_names n names es

-- the ids that are left after those of the first edges
abbrev pub IsLeftAfter : Net → List ℕ → List ℕ → Option (List ℕ) → Type 0
IsLeftAfter n names es left = (rest : List ℕ) → are_names n names (es ++ rest) ≡ are_left_names n left rest

-- the chosen candidate of position i
abbrev pub chosen_in_case : Case → ℕ → Candidate
chosen_in_case c i = chosen_at c.layers c.proof.ranks i

-- the edges by which the route goes on from position i to the next
abbrev pub leg : Case → ℕ → List ℕ
leg c i =
    edges_to (chosen_in_case c (i + 1))
    (route_between c.net c.params.bound c.params.back (chosen_in_case c i) (chosen_in_case c (i + 1)))

-- what the route of a piece rests on: chosen candidates with routes between them, and the rows of the
-- nodes at their ends
pub record IsRoutable (c : Case) (q : Routed) : Type 0 where
  pub checkable : IsCheckable c
  pub run : IsChosenRun c.net c.params c.layers c.proof.ranks (piece_without_route q)
  pub rows : (k : ℕ) → q.first ≤ k → k < q.last
      → has_row c.rows (target c.net (chosen_in_case c k).edge.0) ≡ true

-- the leg from position i to the next is one of such a piece
pub record IsLeg (c : Case) (i : ℕ) : Type 0 where
  pub piece : Routed
  pub of : IsRoutable c piece
  pub from_first : piece.first ≤ i
  pub before_last : i < piece.last
