use Rattle.std.proofs.Common.{◌-◌, ◌≤◌, length}
use Rattle.grid_index.specs.inside.Starts.{AreBefore}
use Rattle.grid_index.proofs.starts.first_from.Given as goal

abbrev pub invariant-loop-place : goal.invariant-loop-place
invariant-loop-place l = record {
  within : l.place ≤ length l.entries;
  before : AreBefore l.entries l.place l.slot;
}

abbrev pub decreases-loop-place : goal.decreases-loop-place
decreases-loop-place l = length l.entries - l.place
