use Rattle.std.proofs.Common.{◌≡◌, flat_map, take}
use Rattle.grid_index.specs.Runs.{edges_of_run}
use Rattle.grid_index.proofs.grid.edges_of.Given as goal

abbrev pub invariant-loop-run : goal.invariant-loop-run
invariant-loop-run l = l.edges.items ≡ flat_map edges_of_run (take l.run-index l.runs)
