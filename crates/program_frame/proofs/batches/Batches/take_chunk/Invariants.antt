use Rattle.std.proofs.Common.{◌≡◌, length}
use Rattle.program_frame.proofs.ChunkEnds.{IsUnderway}
use Rattle.program_frame.proofs.batches.Batches.take_chunk.Given as goal

abbrev pub invariant-loop-rest : goal.invariant-loop-rest
invariant-loop-rest g l = record {
  text : g.J.Job.text l.self.job ≡ g.J.Job.text l.initial.self.job;
  underway : IsUnderway (g.J.Job.text l.initial.self.job) (g.J.Job.has l.initial.self.job) (g.J.Job.has l.self.job) l.chunk l.rest (g.K.Sink.state l.initial.out) (g.K.Sink.state l.out) l.initial.self.reader l.self.reader l.initial.self.waiting l.self.waiting;
}

abbrev pub decreases-loop-rest : goal.decreases-loop-rest
decreases-loop-rest g l = length l.rest
