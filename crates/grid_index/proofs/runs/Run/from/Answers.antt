use Rattle.std.proofs.Common.{arith, ◌∙◌}
use Rattle.grid_index.proofs.runs.Run.from.Goals as goal

pub loop-next-init : goal.loop-next-init
loop-next-init c = record { run = c.of_segment-run.ensures.0; next = omega (arith, c.of_segment-run.ensures.1) }

pub of_segment-run-requires-clause-line : goal.of_segment-run-requires-clause-line
of_segment-run-requires-clause-line c = c.requires.line

pub of_segment-run-requires-clause-few : goal.of_segment-run-requires-clause-few
of_segment-run-requires-clause-few c = c.requires.few

pub of_segment-run-requires-clause-first : goal.of_segment-run-requires-clause-first
of_segment-run-requires-clause-first c = c.requires.first

pub of_segment-run-requires-clause-above : goal.of_segment-run-requires-clause-above
of_segment-run-requires-clause-above c = c.requires.above

pub with-longer-requires-clause-line : goal.with-longer-requires-clause-line
with-longer-requires-clause-line c = c.requires.line

pub with-longer-requires-clause-few : goal.with-longer-requires-clause-few
with-longer-requires-clause-few c = c.requires.few

pub with-longer-requires-clause-run : goal.with-longer-requires-clause-run
with-longer-requires-clause-run c = c.loop-next.invariant.run.run

pub returns-then-not-is_small : goal.returns-then-not-is_small
returns-then-not-is_small c = c.loop-next.invariant.run

pub loop-next-preserved : goal.loop-next-preserved
loop-next-preserved c =
    let i = c.loop-next.invariant in
    let h = c.with-longer.ensures.0 in
    record {
      run = record { run = h.run; edge_is = h.edge_is ∙ i.run.edge_is; twin_is = h.twin_is ∙ i.run.twin_is; first_is = h.first_is ∙ i.run.first_is };
      next = omega (arith, i.next, c.with-longer.ensures.1);
    }

pub returns : goal.returns
returns c = c.loop-next.invariant.run
