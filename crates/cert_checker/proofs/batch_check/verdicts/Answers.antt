use Rattle.std.proofs.Common.{◌≡◌, IfOk, ap, ◌∙◌}
use Rattle.rayon.specs.Lists.{min_len_base}
use Rattle.rayon.proofs.ListFacts.{IfOk-then}
use Rattle.rayon.proofs.ToStd.{slice-AllZip}
use Rattle.cert_checker.specs.inside.Batches.{batch_verdict}
use Rattle.cert_checker.proofs.batch_check.verdicts.Goals as goal

pub returns : goal.returns
returns g c =
    let n = c.args.ground.now.net.now in
    let p = c.args.ground.now.params.now in
    let rows = c.args.ground.now.rows.now in
    let base = ap (λ it. min_len_base it) c.map.ensures.base ∙ c.with_min_len.ensures.base in
    let slice = ap (λ it. it.slice.now) base ∙ c.par_iter.ensures in
    IfOk-then c.collect.result _ _ c.collect.ensures (λ v h.
    let chain = rw c.map.ensures.f at h.1 in
    rw h.2 (slice-AllZip chain.0 c.args.batches.now (chain.1 ∙ slice) (λ b r. IfOk r (λ v. v ≡ batch_verdict n p rows b)) h.0 chain.2))
