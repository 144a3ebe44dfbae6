use Rattle.std.proofs.Common.{◌≡◌, ◌≤◌, ◌-◌}
use Rattle.live_pipeline.proofs.Reading.{IsFeeding}
use Rattle.live_pipeline.proofs.reader.put_chunks.Given as goal

abbrev pub invariant-loop-chunks : goal.invariant-loop-chunks
invariant-loop-chunks g l = record {
  own : l.pass.relay ≡ l.initial.pass.relay;
  feeding : IsFeeding l.name (g.S.Shelf.state l.initial.shelf) l.chunks.at l.reader l.pass.parts;
  within : l.chunks.at ≤ 1_099_511_627_777;
  same : g.S.Shelf.state l.shelf ≡ g.S.Shelf.state l.initial.shelf;
}

abbrev pub decreases-loop-chunks : goal.decreases-loop-chunks
decreases-loop-chunks g l = 1_099_511_627_777 - l.chunks.at
