use Rattle.std.proofs.Common.{◌≡◌, ◌++◌, length, map, reverse}
use Rattle.grid_index.specs.declared.entries.Entry.{Entry}
use Rattle.grid_index.proofs.table.runs_of.Given as goal

-- the runs, and those of the entries that are left, which are in reverse order
abbrev pub invariant-loop-entry : goal.invariant-loop-entry
invariant-loop-entry l = l.runs.items ++ map (λ (x : Entry). x.run) (reverse l.left.items) ≡ map (λ (x : Entry). x.run) l.fn.entries.items

abbrev pub decreases-loop-entry : goal.decreases-loop-entry
decreases-loop-entry l = length l.left.items
