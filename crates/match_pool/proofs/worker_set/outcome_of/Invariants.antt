use Rattle.std.proofs.Common.{ℕ, ◌<◌, IsOk, slice_index_or}
use Rattle.match_pool.specs.declared.worker_set.Worker.{Worker}
use Rattle.match_pool.proofs.worker_set.outcome_of.Given as goal

abbrev pub invariant-loop-worker : goal.invariant-loop-worker
invariant-loop-worker l = (k : ℕ) (d : Worker) → k < l.worker-index → IsOk (slice_index_or l.workers k d).outcome
