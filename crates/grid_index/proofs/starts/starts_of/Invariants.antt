use Rattle.std.proofs.Common.{◌+◌}
use Rattle.grid_index.specs.inside.Starts.{AreStarts, IsStart}
use Rattle.grid_index.proofs.starts.starts_of.Given as goal

abbrev pub invariant-loop-slot : goal.invariant-loop-slot
invariant-loop-slot l = record {
  starts_are : AreStarts l.entries l.starts.items (l.slot + 1);
  place_is : IsStart l.entries l.slot l.place;
}
