-- How large one cost can be.
use Rattle.std.proofs.Common.{ℕ, ◌*◌, ◌≤◌, arith, mul-le-mul}
use Rattle.std.proofs.Math.Nat.{div-le_of_le-mul}
use Rattle.cost_model.specs.declared.params.Params.{Params}
use Rattle.cost_model.specs.Options.{IsAccepted}
use Rattle.cost_model.specs.Costs.{PointCostIsBounded, emission, transition, difference}

pub emission_small : (p : Params) (d2 : ℕ) → IsAccepted p → d2 ≤ p.radius * p.radius → emission p d2 ≤ 5_000_000_000_000
emission_small p d2 accepted within =
    let square = p.sigma * p.sigma in
    let radius : p.radius * p.radius ≤ 100_000 * 100_000 = mul-le-mul accepted.radius.1 accepted.radius.1 in
    let some : 1 * 1 ≤ p.sigma * p.sigma = mul-le-mul accepted.sigma.0 accepted.sigma.0 in
    let enough : 2 * 1 * 5_000_000_000_000 ≤ 2 * square * 5_000_000_000_000 = omega (arith, some) in
    div-le_of_le-mul (2 * square) (omega (arith, enough, radius, within))

pub transition_small : (p : Params) (route straight : ℕ) → IsAccepted p → route ≤ 210_000_000 → straight ≤ 2_828_427_124 → transition p route straight ≤ 2_828_427_124_000
transition_small p route straight accepted route_small straight_small =
    let apart : difference route straight ≤ 2_828_427_124 = omega (arith, route_small, straight_small) in
    let enough : 1 * 2_828_427_124_000 ≤ p.beta * 2_828_427_124_000 = omega (arith, accepted.beta.0) in
    div-le_of_le-mul p.beta (omega (arith, enough, apart))

pub point_cost_bounded : PointCostIsBounded
point_cost_bounded p d2 route straight accepted within route_small straight_small =
    omega (arith, emission_small p d2 accepted within, transition_small p route straight accepted route_small straight_small)
