use Rattle.trellis.specs.Steps.{arrival_by_rank}
use Rattle.trellis.proofs.Ways.{stays}
use Rattle.trellis.proofs.offers.cannot_win.Goals as goal

pub returns : goal.returns
returns c = λ test.
    let from = c.args.from.now in
    let step = from.step.now in
    let shorter = rw c.candidate-to.ensures at c.length_at_least.ensures in
    stays c.args.cell from.rank c.in-Some.least (arrival_by_rank step from.rank c.args.j) c.in-Some.is (λ k way. c.none_costs_less.ensures test c.args.j k shorter way)
