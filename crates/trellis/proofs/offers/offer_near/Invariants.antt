use Rattle.std.proofs.Common.{◌≡◌}
use Rattle.trellis.specs.Steps.{AreOfferedUpTo}
use Rattle.trellis.proofs.offers.offer_near.Given as goal

abbrev pub invariant-loop-j : goal.invariant-loop-j
invariant-loop-j l = record {
  cells : AreOfferedUpTo l.from.step.now l.from.rank l.j l.cells;
  same : l.pairs ≡ l.fn.pairs;
}
