use Rattle.std.proofs.Common.{◌≡◌, ◌++◌, length}
use Rattle.std.specs.Vec.Iter.{into_iter_items, into_iter_len}
use Rattle.live_pipeline.specs.Pieces.{parts_of}
use Rattle.live_pipeline.proofs.feeder.put_traces.Given as goal

abbrev pub invariant-loop-trace : goal.invariant-loop-trace
invariant-loop-trace g l = record {
  whole : l.yielded ++ into_iter_items l.trace-iterator ≡ into_iter_items l.initial.trace-iterator;
  left : into_iter_len l.trace-iterator ≡ length (into_iter_items l.trace-iterator);
  put : l.pass ≡ record { relay = l.initial.pass.relay; parts = l.initial.pass.parts ++ parts_of l.yielded };
}
