use Rattle.std.proofs.Common.{arith}
use Rattle.std.proofs.lemmas.Int.{ints}
use Rattle.candidate_search.proofs.boxes.middle.Goals as goal

pub overflow_sub-width : goal.overflow_sub-width
overflow_sub-width c = omega (arith, ints)

pub overflow_sub-height : goal.overflow_sub-height
overflow_sub-height c = omega (arith, ints)

pub overflow_add-result : goal.overflow_add-result
overflow_add-result c = omega (arith, ints)

pub overflow_add-result-else-width-height : goal.overflow_add-result-else-width-height
overflow_add-result-else-width-height c = omega (arith, ints)

pub nonzero_div-result : goal.nonzero_div-result
nonzero_div-result c = (omega arith, omega (arith, ints))

pub nonzero_div-result-else-width-height : goal.nonzero_div-result-else-width-height
nonzero_div-result-else-width-height c = (omega arith, omega (arith, ints))
