use Rattle.std.proofs.Common.{◌≡◌, ◌+◌, ◌-◌, ◌*◌, ◌≤◌, arith, mul-le-mul, rules}
use Rattle.grid_index.proofs.nearest_cell.apart2.Goals as goal

pub returns-clause-small : goal.returns-clause-small
returns-clause-small c =
    let is : c.from-apart.result ≡ c.args.a - c.args.b + (c.args.b - c.args.a) = search rules in
    let small : c.from-apart.result ≤ 2_001_000_000 = omega (arith, is, c.requires.a_small, c.requires.b_small) in
    let squares : c.from-apart.result * c.from-apart.result ≤ 2_001_000_000 * 2_001_000_000 = mul-le-mul small small in
    omega (arith, squares)
