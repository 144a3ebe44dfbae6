use Rattle.std.proofs.Common.{◌≡◌, ◌++◌, List, length}
use Rattle.std.specs.List.{AllZip}
use Rattle.std.specs.Vec.Iter.{into_iter_items, into_iter_len}
use Rattle.match_pool.specs.Drawing.{job_of}
use Rattle.match_pool.specs.inside.Gathering.{AllDrawn, AreTurnsOver}
use Rattle.match_pool.specs.declared.turn.Turn.{Turn}
use Rattle.match_pool.proofs.Slots.{AreIn}
use Rattle.match_pool.proofs.gathering.gather.Given as goal

abbrev pub invariant-loop-partition : goal.invariant-loop-partition
invariant-loop-partition l = record {
  whole : l.yielded ++ into_iter_items l.partition-iterator ≡ into_iter_items l.initial.partition-iterator;
  left : into_iter_len l.partition-iterator ≡ length (into_iter_items l.partition-iterator);
  by_partition : AllZip (AreTurnsOver (job_of l.batch)) (into_iter_items l.partition-iterator) (into_iter_items l.rest);
  count : length l.slots.items ≡ length l.batch.traces.now;
  past : (by_partition : List (List Turn)) × (by_partition ++ into_iter_items l.rest ≡ into_iter_items l.initial.rest) × AllZip AllDrawn l.yielded by_partition;
  matched : AreIn (job_of l.batch) l.yielded l.slots.items;
}
