use Rattle.std.proofs.Common.{ℕ, ◌<◌, slice_index_or}
use Rattle.trace_reader.specs.declared.trace.Fix.{Fix}
use Rattle.match_pool.specs.inside.Unmatched.{LiesFar}
use Rattle.match_pool.proofs.far.is_surely_far.Given as goal

abbrev pub invariant-loop-fix : goal.invariant-loop-fix
invariant-loop-fix l = (k : ℕ) (d : Fix) → k < l.fix-index → LiesFar l.batch.net.now l.batch.params.now (slice_index_or l.fix-items k d)
