use Rattle.std.proofs.Common.{◌≡◌, ◌<◌, ◌≤◌, ℕ, Some}
use Rattle.matching.specs.Cells.{cell_at}
use Rattle.cert_checker.proofs.step_ways.are_small.Given as goal

abbrev pub invariant-loop-cell : goal.invariant-loop-cell
invariant-loop-cell l = (k cost : ℕ) → k < l.cell-index → (cell_at l.cells k).cost ≡ Some cost → cost ≤ 18_446_735_277_616_529_408
