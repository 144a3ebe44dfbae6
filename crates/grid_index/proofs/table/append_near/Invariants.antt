use Rattle.grid_index.specs.inside.Table.{Appends}
use Rattle.grid_index.proofs.table.append_near.Given as goal

abbrev pub invariant-loop-run : goal.invariant-loop-run
invariant-loop-run l = Appends l.fn.p l.fn.far2 l.fn.found.items l.found.items l.runs l.run-index
