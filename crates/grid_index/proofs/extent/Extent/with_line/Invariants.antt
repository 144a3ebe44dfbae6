use Rattle.std.proofs.Common.{take}
use Rattle.grid_index.specs.Extent.{Widens}
use Rattle.grid_index.proofs.extent.Extent.with_line.Given as goal

abbrev pub invariant-loop-point : goal.invariant-loop-point
invariant-loop-point l = Widens l.fn.self l.extent (take l.point-index l.line)
