use Rattle.std.proofs.Common.{◌≡◌, ◌≤◌, arith, ◌∙◌}
use Rattle.grid_index.specs.Cells.{shifted}
use Rattle.std.proofs.Math.Nat.{div-le_self}
use Rattle.grid_index.proofs.Places.{between, cell_within, div_rises}
use Rattle.grid_index.proofs.Coordinates.{shifted_back, small_back}
use Rattle.grid_index.proofs.cells.Cells.of_box.Goals as goal

pub returns-clause-covers : goal.returns-clause-covers
returns-clause-covers c = λ q inside.
    let side = c.args.side in
    let ax : c.shifted-ax.result ≡ shifted c.args.a.x = c.shifted-ax.ensures.value ∙ shifted_back c.args.a.x c.requires.a_in.x_abs in
    let bx : c.shifted-bx.result ≡ shifted c.args.b.x = c.shifted-bx.ensures.value ∙ shifted_back c.args.b.x c.requires.b_in.x_abs in
    let ay : c.shifted-ay.result ≡ shifted c.args.a.y = c.shifted-ay.ensures.value ∙ shifted_back c.args.a.y c.requires.a_in.y_abs in
    let by : c.shifted-by.result ≡ shifted c.args.b.y = c.shifted-by.ensures.value ∙ shifted_back c.args.b.y c.requires.b_in.y_abs in
    let x = between c.args.a.x c.args.b.x q.x c.requires.a_in.x_abs c.requires.b_in.x_abs inside.x in
    let y = between c.args.a.y c.args.b.y q.y c.requires.a_in.y_abs c.requires.b_in.y_abs inside.y in
    let xl : c.min.result ≤ shifted q.x = omega (arith, x.0, c.min.ensures, ax, bx) in
    let xh : shifted q.x ≤ c.max.result = omega (arith, x.1, c.max.ensures, ax, bx) in
    let yl : c.min-2.result ≤ shifted q.y = omega (arith, y.0, c.min-2.ensures, ay, by) in
    let yh : shifted q.y ≤ c.max-2.result = omega (arith, y.1, c.max-2.ensures, ay, by) in
    let h = cell_within side c.min.result c.max.result q.x c.requires.side xl xh in
    let k = cell_within side c.min-2.result c.max-2.result q.y c.requires.side yl yh in
    record { left = h.0; right = h.1; bottom = k.0; top = k.1 }

pub overflow_add-result : goal.overflow_add-result
overflow_add-result c =
    let less = div-le_self c.max.result c.args.side in
    omega (arith, less, c.max.ensures, c.shifted-ax.ensures.high, c.shifted-bx.ensures.high)

pub overflow_add-result-2 : goal.overflow_add-result-2
overflow_add-result-2 c =
    let less = div-le_self c.max-2.result c.args.side in
    omega (arith, less, c.max-2.ensures, c.shifted-ay.ensures.high, c.shifted-by.ensures.high)

pub returns-clause-ordered : goal.returns-clause-ordered
returns-clause-ordered c =
    let side = c.args.side in
    let x = div_rises c.min.result c.max.result side c.requires.side (omega (arith, c.min.ensures, c.max.ensures)) in
    let y = div_rises c.min-2.result c.max-2.result side c.requires.side (omega (arith, c.min-2.ensures, c.max-2.ensures)) in
    record { columns = omega (arith, x); rows = omega (arith, y) }

pub shifted-ax-requires : goal.shifted-ax-requires
shifted-ax-requires c = small_back c.args.a.x c.requires.a_in.x_abs

pub shifted-bx-requires : goal.shifted-bx-requires
shifted-bx-requires c = small_back c.args.b.x c.requires.b_in.x_abs

pub shifted-ay-requires : goal.shifted-ay-requires
shifted-ay-requires c = small_back c.args.a.y c.requires.a_in.y_abs

pub shifted-by-requires : goal.shifted-by-requires
shifted-by-requires c = small_back c.args.b.y c.requires.b_in.y_abs
