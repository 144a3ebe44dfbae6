use Rattle.std.proofs.Common.{◌≡◌, ◌+◌}
use Rattle.grid_index.specs.Runs.{IsRunFrom}
use Rattle.grid_index.proofs.runs.Run.from.Given as goal

abbrev pub invariant-loop-next : goal.invariant-loop-next
invariant-loop-next l = record {
  run : IsRunFrom l.line l.fn.edge l.fn.twin l.fn.first l.run;
  next : l.next ≡ l.run.end + 1;
}
