use Rattle.std.proofs.Common.{◌≡◌, List, []}
use Rattle.program_frame.specs.Batches.{WritesBatch}
use Rattle.trace_reader.specs.declared.trace.Trace.{Trace}
use Rattle.live_pipeline.specs.Pieces.{parts_of}
use Rattle.live_pipeline.proofs.matcher.match_parts.Given as goal

abbrev pub invariant-loop : goal.invariant-loop
invariant-loop g l = record {
  own : l.pass.relay ≡ l.initial.pass.relay;
  job : g.J.Job.text l.job ≡ g.J.Job.text l.initial.job;
  traces : List Trace;
  took : l.pass.parts ≡ parts_of traces;
  writes : WritesBatch (g.J.Job.text l.initial.job) (g.J.Job.has l.job) (g.K.Sink.state l.initial.out) (g.K.Sink.state l.out) traces [] l.ended;
}
