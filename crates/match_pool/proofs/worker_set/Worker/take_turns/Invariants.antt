use Rattle.match_pool.specs.inside.WorkerSet.{DrewFrom}
use Rattle.match_pool.specs.Drawing.{job_of}
use Rattle.match_pool.specs.Working.{ReadsWithin}
use Rattle.match_pool.proofs.worker_set.Worker.take_turns.Given as goal

abbrev pub invariant-loop-place : goal.invariant-loop-place
invariant-loop-place g l = record {
  reader : ReadsWithin (job_of l.batch) l.initial.self.reader l.self.reader;
  drew : DrewFrom (job_of l.batch) l.partitions l.from l.place l.initial.self l.self;
}
