use Rattle.std.proofs.Common.{ℕ, ◌≡◌, ◌+◌, ◌-◌, ◌*◌, ◌/◌, ◌≤◌, min, max, subst, arith, mul-le-mul, ◌∙◌}
use Rattle.grid_index.specs.Cells.{shifted}
use Rattle.grid_index.proofs.NearestCells.{gaps_least}
use Rattle.grid_index.proofs.Coordinates.{shifted_back}
use Rattle.grid_index.proofs.nearest_cell.cell_distance2.Goals as goal

pub overflow_mul-result : goal.overflow_mul-result
overflow_mul-result c =
    let x : c.gap-x.result * c.gap-x.result ≤ 2_147_483_648 * 2_147_483_648 = mul-le-mul c.gap-x.ensures.small c.gap-x.ensures.small in
    omega (arith, x)

pub overflow_mul-result-2 : goal.overflow_mul-result-2
overflow_mul-result-2 c =
    let y : c.gap-y.result * c.gap-y.result ≤ 2_147_483_648 * 2_147_483_648 = mul-le-mul c.gap-y.ensures.small c.gap-y.ensures.small in
    omega (arith, y)

pub overflow_add-result : goal.overflow_add-result
overflow_add-result c =
    let x : c.gap-x.result * c.gap-x.result ≤ 2_147_483_648 * 2_147_483_648 = mul-le-mul c.gap-x.ensures.small c.gap-x.ensures.small in
    let y : c.gap-y.result * c.gap-y.result ≤ 2_147_483_648 * 2_147_483_648 = mul-le-mul c.gap-y.ensures.small c.gap-y.ensures.small in
    omega (arith, x, y)

pub returns : goal.returns
returns c = λ net r q is cell inside.
    let p = c.args.p in
    let x = c.gap-x.result in
    let y = c.gap-y.result in
    let sx : c.shifted.result ≡ shifted p.x = c.shifted.ensures.value ∙ shifted_back p.x c.requires.p_in.x_abs in
    let sy : c.shifted-2.result ≡ shifted p.y = c.shifted-2.ensures.value ∙ shifted_back p.y c.requires.p_in.y_abs in
    let gx = subst (λ s. (low high z : ℕ) → max low (min s high) / c.args.side ≡ c.args.column → low ≤ z → z ≤ high → x ≤ s - z + (z - s)) sx c.gap-x.ensures.least in
    let gy = subst (λ s. (low high z : ℕ) → max low (min s high) / c.args.side ≡ c.args.row → low ≤ z → z ≤ high → y ≤ s - z + (z - s)) sy c.gap-y.ensures.least in
    gaps_least net c.args.side p q r c.args.column c.args.row x y c.requires.p_in is cell inside gx gy
