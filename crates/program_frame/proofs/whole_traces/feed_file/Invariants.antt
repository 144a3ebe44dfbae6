use Rattle.std.proofs.Common.{◌≡◌, ◌≤◌, ◌-◌}
use Rattle.program_frame.specs.inside.HeldTraces.{IsHolding}
use Rattle.program_frame.proofs.whole_traces.feed_file.Given as goal

abbrev pub invariant-loop-chunks : goal.invariant-loop-chunks
invariant-loop-chunks g l = record {
  holding : IsHolding l.name (g.S.Shelf.state l.initial.shelf) l.chunks.at l.reader l.traces;
  within : l.chunks.at ≤ 1_099_511_627_777;
  same : g.S.Shelf.state l.shelf ≡ g.S.Shelf.state l.initial.shelf;
}

abbrev pub decreases-loop-chunks : goal.decreases-loop-chunks
decreases-loop-chunks g l = 1_099_511_627_777 - l.chunks.at
