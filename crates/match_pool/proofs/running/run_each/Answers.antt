use Rattle.std.proofs.Common.{refl, subst, ◌+◌, arith}
use Rattle.std.specs.Prelude.{slice_index_or}
use Rattle.std.specs.Fork.{ChangesAt}
use Rattle.match_pool.proofs.running.run_each.Goals as goal

pub returns : goal.returns
returns g c i d low =
    (refl, subst (λ k. ChangesAt g.F.Fn c.args.f.now k (slice_index_or c.args.items.now i d) (slice_index_or c.run_from.new.items i d)) {x = 0 + i} (omega arith) (c.run_from.ensures i d low))
