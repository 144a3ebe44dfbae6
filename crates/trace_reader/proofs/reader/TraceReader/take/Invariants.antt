use Rattle.std.proofs.Common.{◌≡◌, ◌-◌, length}
use Rattle.trace_reader.specs.inside.Steps.{IsUnderway}
use Rattle.trace_reader.proofs.reader.TraceReader.take.Given as goal

abbrev pub invariant-loop-taken : goal.invariant-loop-taken
invariant-loop-taken l = record {
  underway : IsUnderway l.fn.self l.chunk l.most l.fn.into l.taken l.self l.into;
  before : l.before ≡ length l.fn.into;
  fault : l.self.fault ≡ l.fn.self.fault;
}

abbrev pub decreases-loop-taken : goal.decreases-loop-taken
decreases-loop-taken l = length l.chunk - l.taken
