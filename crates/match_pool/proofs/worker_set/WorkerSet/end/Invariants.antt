use Rattle.std.proofs.Common.{◌≡◌, ◌+◌, ◌≤◌, ◌++◌, length, map, vec_len, vec_capacity}
use Rattle.std.specs.Vec.Iter.{into_iter_items, into_iter_len}
use Rattle.match_pool.specs.inside.WorkerSet.{reader_of, turns_of}
use Rattle.match_pool.proofs.worker_set.WorkerSet.end.Given as goal

abbrev pub invariant-loop-worker : goal.invariant-loop-worker
invariant-loop-worker l = record {
  whole : l.yielded ++ into_iter_items l.worker-iterator ≡ into_iter_items l.initial.worker-iterator;
  left : into_iter_len l.worker-iterator ≡ length (into_iter_items l.worker-iterator);
  readers : l.home.items ≡ map reader_of l.yielded;
  turns : l.turns.items ≡ map turns_of l.yielded;
  room : vec_len l.home + length (into_iter_items l.worker-iterator) ≤ vec_capacity l.home;
  room_for_turns : vec_len l.turns + length (into_iter_items l.worker-iterator) ≤ vec_capacity l.turns;
}
