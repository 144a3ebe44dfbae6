use Rattle.std.proofs.Common.{arith}
use Rattle.polyline_geometry.proofs.Distances.{squares_small}
use Rattle.polyline_geometry.proofs.plane.distance2.Goals as goal

pub overflow_mul-result : goal.overflow_mul-result
overflow_mul-result c = omega (arith, squares_small c.gap-x.result c.gap-y.result c.gap-x.ensures.small c.gap-y.ensures.small)

pub overflow_mul-result-2 : goal.overflow_mul-result-2
overflow_mul-result-2 c = omega (arith, squares_small c.gap-x.result c.gap-y.result c.gap-x.ensures.small c.gap-y.ensures.small)

pub overflow_add-result : goal.overflow_add-result
overflow_add-result c = omega (arith, squares_small c.gap-x.result c.gap-y.result c.gap-x.ensures.small c.gap-y.ensures.small)

pub returns-clause-small : goal.returns-clause-small
returns-clause-small c = omega (arith, squares_small c.gap-x.result c.gap-y.result c.gap-x.ensures.small c.gap-y.ensures.small)
