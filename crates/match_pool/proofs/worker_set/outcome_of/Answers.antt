use Rattle.std.proofs.Common.{◌∙◌, ℕ, IsOk, slice_index_or, inl, inr, refl, sym, subst, arith}
use Rattle.std.proofs.lemmas.Bool.{cases_eq}
use Rattle.match_pool.specs.declared.worker_set.Worker.{Worker}
use Rattle.match_pool.proofs.Lists.{default_same}
use Rattle.match_pool.proofs.worker_set.outcome_of.Goals as goal

pub loop-worker-preserved : goal.loop-worker-preserved
loop-worker-preserved c =
    let workers = c.args.workers.now in
    let index = c.loop-worker.worker-index in
    let ok : IsOk c.worker-item.result.outcome = subst IsOk (sym c.in_ok-worker.was) refl in
    λ k d low. elim (cases_eq k index) [
      | inl same ↦ subst (λ (m : ℕ). IsOk (slice_index_or workers m d).outcome) (sym same)
          (subst (λ (w : Worker). IsOk w.outcome) (c.worker-item.is ∙ default_same workers index c.worker-item.result d c.loop-worker-test.true) ok)
      | inr apart ↦ c.loop-worker.invariant k d (omega (arith, low, apart))
    ]
