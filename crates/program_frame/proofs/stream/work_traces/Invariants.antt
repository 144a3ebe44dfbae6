use Rattle.std.proofs.Common.{◌≡◌, ◌≤◌, ◌-◌}
use Rattle.program_frame.specs.inside.BatchSteps.{IsReading}
use Rattle.program_frame.proofs.stream.work_traces.Given as goal

abbrev pub invariant-loop-chunks : goal.invariant-loop-chunks
invariant-loop-chunks g l = record {
  text : g.J.Job.text l.batches.job ≡ g.J.Job.text l.fn.job;
  reading : IsReading (g.J.Job.text l.fn.job) (g.J.Job.has l.batches.job) l.name (g.S.Shelf.state l.initial.shelf) (g.K.Sink.state l.initial.out) (g.K.Sink.state l.out) l.chunks.at l.batches.reader l.batches.waiting;
  within : l.chunks.at ≤ 1_099_511_627_777;
  same : g.S.Shelf.state l.shelf ≡ g.S.Shelf.state l.initial.shelf;
}

abbrev pub decreases-loop-chunks : goal.decreases-loop-chunks
decreases-loop-chunks g l = 1_099_511_627_777 - l.chunks.at
