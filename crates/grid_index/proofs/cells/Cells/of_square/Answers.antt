use Rattle.std.proofs.Common.{◌≡◌, ◌+◌, ◌-◌, arith, ◌∙◌}
use Rattle.grid_index.specs.Cells.{shifted}
use Rattle.grid_index.proofs.Places.{around, cell_within}
use Rattle.grid_index.proofs.Coordinates.{shifted_back, small_back}
use Rattle.grid_index.proofs.cells.Cells.of_square.Goals as goal

pub returns : goal.returns
returns c = λ q inside.
    let side = c.args.side in
    let reach = c.args.reach in
    let sx : c.shifted-x.result ≡ shifted c.args.p.x = c.shifted-x.ensures.value ∙ shifted_back c.args.p.x c.requires.p_in.x_abs in
    let sy : c.shifted-y.result ≡ shifted c.args.p.y = c.shifted-y.ensures.value ∙ shifted_back c.args.p.y c.requires.p_in.y_abs in
    let x = around c.args.p.x q.x reach c.requires.p_in.x_abs c.requires.reach inside.x in
    let y = around c.args.p.y q.y reach c.requires.p_in.y_abs c.requires.reach inside.y in
    let h = cell_within side (c.shifted-x.result - reach) (c.shifted-x.result + reach) q.x c.requires.side (omega (arith, x.0, sx)) (omega (arith, x.1, sx)) in
    let k = cell_within side (c.shifted-y.result - reach) (c.shifted-y.result + reach) q.y c.requires.side (omega (arith, y.0, sy)) (omega (arith, y.1, sy)) in
    record { left = h.0; right = h.1; bottom = k.0; top = k.1 }

pub shifted-x-requires : goal.shifted-x-requires
shifted-x-requires c = small_back c.args.p.x c.requires.p_in.x_abs

pub shifted-y-requires : goal.shifted-y-requires
shifted-y-requires c = small_back c.args.p.y c.requires.p_in.y_abs
