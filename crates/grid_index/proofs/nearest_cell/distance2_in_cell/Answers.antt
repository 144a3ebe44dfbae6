use Rattle.std.proofs.Common.{◌≡◌, ◌+◌, ◌/◌, ◌∙◌, ap, sym, arith}
use Rattle.grid_index.specs.Cells.{shifted}
use Rattle.grid_index.specs.NearestCell.{apart2, nearest_between}
use Rattle.grid_index.proofs.NearestCells.{box_distance}
use Rattle.grid_index.proofs.Coordinates.{nearest_back, shifted_back, small_back}
use Rattle.grid_index.proofs.nearest_cell.distance2_in_cell.Goals as goal

pub returns-then-max-from : goal.returns-then-max-from
returns-then-max-from c =
    let p = c.args.p in
    let r = c.args.run.now in
    let x = c.nearest_between-x.result in
    let y = c.nearest_between-y.result in
    let xs : x ≡ nearest_between r.low.x r.high.x p.x = c.nearest_between-x.ensures.value ∙ nearest_back r.low.x r.high.x p.x c.requires.corners.0.low_in.x_abs c.requires.corners.0.high_in.x_abs c.requires.p_in.x_abs in
    let ys : y ≡ nearest_between r.low.y r.high.y p.y = c.nearest_between-y.ensures.value ∙ nearest_back r.low.y r.high.y p.y c.requires.corners.0.low_in.y_abs c.requires.corners.0.high_in.y_abs c.requires.p_in.y_abs in
    let px : c.shifted.result ≡ shifted p.x = c.shifted.ensures.value ∙ shifted_back p.x c.requires.p_in.x_abs in
    let py : c.shifted-then-max-from.result ≡ shifted p.y = c.shifted-then-max-from.ensures.value ∙ shifted_back p.y c.requires.p_in.y_abs in
    let across = c.apart2.ensures.value ∙ ap (apart2 x) px in
    let up = c.apart2-then-max-from.ensures.value ∙ ap (apart2 y) py in
    let value = ap (λ v. v + c.apart2-then-max-from.result) across ∙ ap (λ v. apart2 x (shifted p.x) + v) up in (
      record {
        column_is = sym (ap (λ v. v / c.args.side) xs) ∙ c.past.ensures.0 (omega (arith, c.max.ensures, c.if-max-from.true));
        row_is = sym (ap (λ v. v / c.args.side) ys) ∙ c.past-2.ensures.0 (omega (arith, c.max.ensures, c.if-max-from.true));
      },
      box_distance r p x y (c.apart2.result + c.apart2-then-max-from.result) c.requires.corners.0 c.requires.corners.1 c.requires.p_in xs ys value,
    )

pub returns-else-max-from : goal.returns-else-max-from
returns-else-max-from c = λ cell.
    let p = c.args.p in
    let r = c.args.run.now in
    let xs : c.nearest_between-x.result ≡ nearest_between r.low.x r.high.x p.x = c.nearest_between-x.ensures.value ∙ nearest_back r.low.x r.high.x p.x c.requires.corners.0.low_in.x_abs c.requires.corners.0.high_in.x_abs c.requires.p_in.x_abs in
    let ys : c.nearest_between-y.result ≡ nearest_between r.low.y r.high.y p.y = c.nearest_between-y.ensures.value ∙ nearest_back r.low.y r.high.y p.y c.requires.corners.0.low_in.y_abs c.requires.corners.0.high_in.y_abs c.requires.p_in.y_abs in
    let across = c.past.ensures.1 (ap (λ v. v / c.args.side) xs ∙ cell.column_is) in
    let up = c.past-2.ensures.1 (ap (λ v. v / c.args.side) ys ∙ cell.row_is) in
    absurd (omega (arith, across, up, c.max.ensures, c.if-max-from.false))

pub past-requires-clause-some : goal.past-requires-clause-some
past-requires-clause-some c = c.requires.some

pub past-requires-clause-few : goal.past-requires-clause-few
past-requires-clause-few c = c.requires.few

pub past-requires-2-clause-some : goal.past-requires-2-clause-some
past-requires-2-clause-some c = c.requires.some

pub past-requires-2-clause-few : goal.past-requires-2-clause-few
past-requires-2-clause-few c = c.requires.few

pub apart2-requires-clause-a_small : goal.apart2-requires-clause-a_small
apart2-requires-clause-a_small c = c.nearest_between-x.ensures.small

pub apart2-requires-clause-b_small : goal.apart2-requires-clause-b_small
apart2-requires-clause-b_small c = c.shifted.ensures.high

pub apart2-requires-then-max-from-clause-a_small : goal.apart2-requires-then-max-from-clause-a_small
apart2-requires-then-max-from-clause-a_small c = c.nearest_between-y.ensures.small

pub apart2-requires-then-max-from-clause-b_small : goal.apart2-requires-then-max-from-clause-b_small
apart2-requires-then-max-from-clause-b_small c = c.shifted-then-max-from.ensures.high

pub overflow_add-result : goal.overflow_add-result
overflow_add-result c = omega (arith, c.apart2.ensures.small, c.apart2-then-max-from.ensures.small)

pub nearest_between-x-requires-clause-low_in : goal.nearest_between-x-requires-clause-low_in
nearest_between-x-requires-clause-low_in c = small_back c.args.run.now.low.x c.requires.corners.0.low_in.x_abs

pub nearest_between-x-requires-clause-high_in : goal.nearest_between-x-requires-clause-high_in
nearest_between-x-requires-clause-high_in c = small_back c.args.run.now.high.x c.requires.corners.0.high_in.x_abs

pub nearest_between-x-requires-clause-z_in : goal.nearest_between-x-requires-clause-z_in
nearest_between-x-requires-clause-z_in c = small_back c.args.p.x c.requires.p_in.x_abs

pub nearest_between-y-requires-clause-low_in : goal.nearest_between-y-requires-clause-low_in
nearest_between-y-requires-clause-low_in c = small_back c.args.run.now.low.y c.requires.corners.0.low_in.y_abs

pub nearest_between-y-requires-clause-high_in : goal.nearest_between-y-requires-clause-high_in
nearest_between-y-requires-clause-high_in c = small_back c.args.run.now.high.y c.requires.corners.0.high_in.y_abs

pub nearest_between-y-requires-clause-z_in : goal.nearest_between-y-requires-clause-z_in
nearest_between-y-requires-clause-z_in c = small_back c.args.p.y c.requires.p_in.y_abs

pub shifted-requires : goal.shifted-requires
shifted-requires c = small_back c.args.p.x c.requires.p_in.x_abs

pub shifted-requires-then-max-from : goal.shifted-requires-then-max-from
shifted-requires-then-max-from c = small_back c.args.p.y c.requires.p_in.y_abs
