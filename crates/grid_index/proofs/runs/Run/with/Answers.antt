use Rattle.std.proofs.Common.{refl, arith, ◌+◌}
use Rattle.polyline_geometry.specs.Plane.{point_at}
use Rattle.grid_index.specs.Runs.{IsBelow}
use Rattle.grid_index.proofs.RunBoxes.{below_twice, of_more, origin}
use Rattle.grid_index.proofs.runs.Run.with.Goals as goal

pub returns : goal.returns
returns c =
    let line = c.args.line.now in
    let r = c.args.self in (
      record {
        run = record {
          some = omega (arith, c.requires.run.some);
          within = omega (arith, c.requires.next);
          corners = record { low_in = c.low_corner.ensures.in_range; high_in = c.high_corner.ensures.in_range };
          above_low = λ i le lt. of_more (λ q. IsBelow c.low_corner.result q) line r.first r.end i
              (λ k from to. below_twice c.low_corner.result r.low (point_at line k) c.low_corner.ensures.first (c.requires.run.above_low k from to)) c.low_corner.ensures.second le lt;
          below_high = λ i le lt. of_more (λ q. IsBelow q c.high_corner.result) line r.first r.end i
              (λ k from to. below_twice (point_at line k) r.high c.high_corner.result (c.requires.run.below_high k from to) c.high_corner.ensures.first) c.high_corner.ensures.second le lt;
        };
        edge_is = refl;
        twin_is = refl;
        first_is = refl;
      },
      refl,
    )

pub overflow_cast-next : goal.overflow_cast-next
overflow_cast-next c = omega (arith, c.requires.next, c.requires.few)

pub overflow_add-next : goal.overflow_add-next
overflow_add-next c = omega (arith, c.requires.next, c.requires.few)

pub bounds-line-self : goal.bounds-line-self
bounds-line-self c = c.requires.next

pub overflow_add-result : goal.overflow_add-result
overflow_add-result c = omega (arith, c.requires.next, c.requires.few)

pub low_corner-requires-clause-a_in : goal.low_corner-requires-clause-a_in
low_corner-requires-clause-a_in c = c.requires.run.corners.low_in

pub low_corner-requires-clause-b_in : goal.low_corner-requires-clause-b_in
low_corner-requires-clause-b_in c = c.requires.line.in_range (c.args.self.end + 1) origin c.requires.next

pub high_corner-requires-clause-a_in : goal.high_corner-requires-clause-a_in
high_corner-requires-clause-a_in c = c.requires.run.corners.high_in

pub high_corner-requires-clause-b_in : goal.high_corner-requires-clause-b_in
high_corner-requires-clause-b_in c = c.requires.line.in_range (c.args.self.end + 1) origin c.requires.next
