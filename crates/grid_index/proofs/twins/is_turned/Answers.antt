use Rattle.std.proofs.Common.{arith}
use Rattle.grid_index.proofs.twins.is_turned.Goals as goal

pub loop-place-init : goal.loop-place-init
loop-place-init c = λ i j lt e. absurd (omega (arith, lt))
