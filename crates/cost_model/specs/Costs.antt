-- What a candidate and a move cost. Costs are scaled by 1000 and rounded towards minus infinity.
use Rattle.std.specs.Prelude.{ℕ, ◌+◌, ◌-◌, ◌*◌, ◌/◌, ◌≤◌}
use Rattle.cost_model.specs.declared.params.Params.{Params}
use Rattle.cost_model.specs.Options.{IsAccepted}

-- |a - b|
abbrev pub difference : ℕ → ℕ → ℕ
difference a b = (a - b) + (b - a)

-- the cost of a candidate whose squared distance from its position is d2
abbrev pub emission : Params → ℕ → ℕ
emission p d2 = d2 * 1000 / (2 * (p.sigma * p.sigma))

-- the cost of a route of this length between two positions at this straight distance
abbrev pub transition : Params → ℕ → ℕ → ℕ
transition p route straight = difference route straight * 1000 / p.beta

-- one position, its emission and the transition before it, adds at most 7,900,000,000,000
abbrev pub PointCostIsBounded : Type 0
PointCostIsBounded =
    (p : Params) (d2 route straight : ℕ) → IsAccepted p → d2 ≤ p.radius * p.radius
    → route ≤ 210_000_000 → straight ≤ 2_828_427_124
    → emission p d2 + transition p route straight ≤ 7_900_000_000_000
