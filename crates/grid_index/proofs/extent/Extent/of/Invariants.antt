use Rattle.grid_index.specs.Extent.{IsExtentOf}
use Rattle.grid_index.proofs.extent.Extent.of.Given as goal

abbrev pub invariant-loop-number : goal.invariant-loop-number
invariant-loop-number l = IsExtentOf l.net l.number l.extent
