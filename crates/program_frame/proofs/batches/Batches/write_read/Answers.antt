use Rattle.trace_reader.specs.Reading.{closed}
use Rattle.program_frame.proofs.ChunkEnds.{between_written, none_waits}
use Rattle.program_frame.proofs.batches.Batches.write_read.Goals as goal

pub write-requires : goal.write-requires
write-requires g c = (c.requires.0, closed c.requires.1, c.requires.2.holds)

pub returns-clause-writes : goal.returns-clause-writes
returns-clause-writes g c base fed between =
    between_written (g.J.Job.text c.args.self.now.job) (g.J.Job.has c.args.self.now.job) (g.J.Job.has c.write.new.self.job) base (g.K.Sink.state c.args.out.now) (g.K.Sink.state c.write.new.out) fed c.args.self.now.reader c.write.new.self.reader c.args.self.now.waiting c.write.new.self.waiting c.write.result between c.write.ensures.reader (c.write.ensures.writes base (closed fed) between.holds)

pub returns-clause-none_waits : goal.returns-clause-none_waits
returns-clause-none_waits g c each =
    none_waits (g.J.Job.text c.args.self.now.job) (g.J.Job.has c.write.new.self.job) c.requires.0 (g.K.Sink.state c.write.new.out) (closed c.requires.1) c.write.new.self.waiting c.write.result (c.write.ensures.writes c.requires.0 (closed c.requires.1) c.requires.2.holds)
