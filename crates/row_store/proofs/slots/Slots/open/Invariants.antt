use Rattle.std.proofs.Common.{◌≡◌, length}
use Rattle.row_store.proofs.slots.Slots.open.Given as goal

abbrev pub invariant-loop : goal.invariant-loop
invariant-loop l = length l.cells.items ≡ l.counter
