use Rattle.std.proofs.Common.{arith}
use Rattle.matching.proofs.Chosen.{live_below}
use Rattle.cert_checker.proofs.step_ways.are_small.Goals as goal

pub returns : goal.returns
returns c j cost e = c.loop-cell.invariant j cost (omega (arith, live_below c.args.cells.now j cost e, c.loop-cell-test.false)) e
