use Rattle.std.proofs.Common.{◌≡◌, ◌∙◌}
use Rattle.grid_index.specs.Cells.{shifted}
use Rattle.grid_index.proofs.Extents.{coordinate_far}
use Rattle.grid_index.proofs.Coordinates.{shifted_back, small_back}
use Rattle.grid_index.proofs.extent.Extent.is_apart.Goals as goal

pub returns-then-is_beside : goal.returns-then-is_beside
returns-then-is_beside c = λ t q inside square.
    let x = c.args.self in
    let p_is : c.shifted.result ≡ shifted c.args.p.x = c.shifted.ensures.value ∙ shifted_back c.args.p.x c.requires.p_in.x_abs in
    let low_is : c.shifted-left.result ≡ shifted x.low.x = c.shifted-left.ensures.value ∙ shifted_back x.low.x c.requires.corners.low_in.x_abs in
    let high_is : c.shifted-right.result ≡ shifted x.high.x = c.shifted-right.ensures.value ∙ shifted_back x.high.x c.requires.corners.high_in.x_abs in
    coordinate_far x.low.x x.high.x c.args.p.x q.x c.args.reach c.shifted.result c.shifted-left.result c.shifted-right.result c.requires.corners.low_in.x_abs c.requires.p_in.x_abs c.requires.reach
    p_is low_is high_is (c.is_beside.ensures c.if-is_beside.true) inside.above_low.x inside.below_high.x square.x

pub returns-else-is_beside : goal.returns-else-is_beside
returns-else-is_beside c = λ t q inside square.
    let x = c.args.self in
    let y = c.shifted-else-is_beside in
    let p_is : y.result ≡ shifted c.args.p.y = y.ensures.value ∙ shifted_back c.args.p.y c.requires.p_in.y_abs in
    let low_is : c.shifted-bottom.result ≡ shifted x.low.y = c.shifted-bottom.ensures.value ∙ shifted_back x.low.y c.requires.corners.low_in.y_abs in
    let high_is : c.shifted-top.result ≡ shifted x.high.y = c.shifted-top.ensures.value ∙ shifted_back x.high.y c.requires.corners.high_in.y_abs in
    coordinate_far x.low.y x.high.y c.args.p.y q.y c.args.reach y.result c.shifted-bottom.result c.shifted-top.result c.requires.corners.low_in.y_abs c.requires.p_in.y_abs c.requires.reach
    p_is low_is high_is (c.is_beside-else-is_beside.ensures t) inside.above_low.y inside.below_high.y square.y

pub is_beside-requires-clause-high_in : goal.is_beside-requires-clause-high_in
is_beside-requires-clause-high_in c = c.shifted-right.ensures.high

pub is_beside-requires-clause-z_in : goal.is_beside-requires-clause-z_in
is_beside-requires-clause-z_in c = c.shifted.ensures.high

pub is_beside-requires-clause-reach : goal.is_beside-requires-clause-reach
is_beside-requires-clause-reach c = c.requires.reach

pub is_beside-requires-else-is_beside-clause-high_in : goal.is_beside-requires-else-is_beside-clause-high_in
is_beside-requires-else-is_beside-clause-high_in c = c.shifted-top.ensures.high

pub is_beside-requires-else-is_beside-clause-z_in : goal.is_beside-requires-else-is_beside-clause-z_in
is_beside-requires-else-is_beside-clause-z_in c = c.shifted-else-is_beside.ensures.high

pub is_beside-requires-else-is_beside-clause-reach : goal.is_beside-requires-else-is_beside-clause-reach
is_beside-requires-else-is_beside-clause-reach c = c.requires.reach

pub shifted-left-requires : goal.shifted-left-requires
shifted-left-requires c = small_back c.args.self.low.x c.requires.corners.low_in.x_abs

pub shifted-right-requires : goal.shifted-right-requires
shifted-right-requires c = small_back c.args.self.high.x c.requires.corners.high_in.x_abs

pub shifted-bottom-requires : goal.shifted-bottom-requires
shifted-bottom-requires c = small_back c.args.self.low.y c.requires.corners.low_in.y_abs

pub shifted-top-requires : goal.shifted-top-requires
shifted-top-requires c = small_back c.args.self.high.y c.requires.corners.high_in.y_abs

pub shifted-requires : goal.shifted-requires
shifted-requires c = small_back c.args.p.x c.requires.p_in.x_abs

pub shifted-requires-else-is_beside : goal.shifted-requires-else-is_beside
shifted-requires-else-is_beside c = small_back c.args.p.y c.requires.p_in.y_abs
