use Rattle.std.proofs.Common.{◌≡◌}
use Rattle.trellis.specs.Steps.{AreOfferedBelow}
use Rattle.cert_checker.proofs.step_ways.cells_by_rows.Given as goal

abbrev pub invariant-loop-rank : goal.invariant-loop-rank
invariant-loop-rank l = record {
  offered : AreOfferedBelow l.step l.rank l.cells;
  pairs : l.pairs ≡ l.fn.pairs;
}
