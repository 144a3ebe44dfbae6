use Rattle.std.proofs.Common.{refl, arith, ◌+◌}
use Rattle.grid_index.specs.Runs.{IsBelow}
use Rattle.grid_index.proofs.RunBoxes.{of_both, origin, twin_made}
use Rattle.grid_index.proofs.runs.Run.of_segment.Goals as goal

pub returns : goal.returns
returns c =
    let line = c.args.line.now in (
      record {
        run = record {
          some = omega arith;
          within = omega (arith, c.requires.first);
          corners = record { low_in = c.low_corner.ensures.in_range; high_in = c.high_corner.ensures.in_range };
          above_low = λ i le lt. of_both (λ q. IsBelow c.low_corner.result q) line c.args.first i c.low_corner.ensures.first c.low_corner.ensures.second le lt;
          below_high = λ i le lt. of_both (λ q. IsBelow q c.high_corner.result) line c.args.first i c.high_corner.ensures.first c.high_corner.ensures.second le lt;
        };
        edge_is = refl;
        twin_is = twin_made c.args.edge c.unwrap_or.result c.args.twin c.requires.above c.unwrap_or.ensures;
        first_is = refl;
      },
      refl,
    )

pub bounds-line-first : goal.bounds-line-first
bounds-line-first c = omega (arith, c.requires.first)

pub bounds-line-first-2 : goal.bounds-line-first-2
bounds-line-first-2 c = c.requires.first

pub overflow_add-b : goal.overflow_add-b
overflow_add-b c = omega (arith, c.requires.first, c.requires.few)

pub overflow_cast-result : goal.overflow_cast-result
overflow_cast-result c = omega (arith, c.requires.first, c.requires.few)

pub overflow_cast-result-2 : goal.overflow_cast-result-2
overflow_cast-result-2 c = omega (arith, c.requires.first, c.requires.few)

pub overflow_add-result : goal.overflow_add-result
overflow_add-result c = omega (arith, c.requires.first, c.requires.few)

pub low_corner-requires-clause-a_in : goal.low_corner-requires-clause-a_in
low_corner-requires-clause-a_in c = c.requires.line.in_range c.args.first origin (omega (arith, c.requires.first))

pub low_corner-requires-clause-b_in : goal.low_corner-requires-clause-b_in
low_corner-requires-clause-b_in c = c.requires.line.in_range (c.args.first + 1) origin c.requires.first

pub high_corner-requires-clause-a_in : goal.high_corner-requires-clause-a_in
high_corner-requires-clause-a_in c = c.requires.line.in_range c.args.first origin (omega (arith, c.requires.first))

pub high_corner-requires-clause-b_in : goal.high_corner-requires-clause-b_in
high_corner-requires-clause-b_in c = c.requires.line.in_range (c.args.first + 1) origin c.requires.first
