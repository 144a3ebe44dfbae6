use Rattle.std.proofs.Common.{◌≡◌, ◌+◌, ◌≤◌, ◌++◌, All, Contains, length, map, vec_len, vec_capacity}
use Rattle.std.specs.Vec.Iter.{into_iter_items, into_iter_len}
use Rattle.match_pool.specs.inside.WorkerSet.{reader_of}
use Rattle.match_pool.specs.declared.worker_set.Worker.{Worker}
use Rattle.match_pool.proofs.worker_set.WorkerSet.start.Given as goal

abbrev pub invariant-loop-reader : goal.invariant-loop-reader
invariant-loop-reader l = record {
  whole : l.yielded ++ into_iter_items l.reader-iterator ≡ into_iter_items l.initial.reader-iterator;
  left : into_iter_len l.reader-iterator ≡ length (into_iter_items l.reader-iterator);
  readers : map reader_of l.workers.items ≡ l.yielded;
  turns : All (λ (w : Worker). Contains l.initial.by_worker.items w.turns.items) l.workers.items;
  unused : All (Contains l.initial.by_worker.items) l.by_worker.items;
  count : length l.by_worker.items ≡ length (into_iter_items l.reader-iterator);
  room : vec_len l.workers + length (into_iter_items l.reader-iterator) ≤ vec_capacity l.workers;
}
