use Rattle.std.proofs.Common.{◌≡◌, IfOk, ap, ◌∙◌}
use Rattle.rayon.specs.Lists.{min_len_base}
use Rattle.rayon.proofs.ToStd.{slice-AllZip}
use Rattle.cert_checker.specs.inside.RowParts.{bad_in_part}
use Rattle.cert_checker.proofs.RowParts.{gathered}
use Rattle.cert_checker.proofs.checked_rows.bad_in_parts.Goals as goal

pub returns : goal.returns
returns g c =
    let n = c.args.net.now in
    let bound = c.args.bound in
    let base = ap (λ it. min_len_base it) c.map.ensures.base ∙ c.with_min_len.ensures.base in
    let slice = ap (λ it. it.slice.now) base ∙ c.par_iter.ensures in
    let given = c.in_ok-collect.ensures in
    let chain = rw c.map.ensures.f at given.1 in
    gathered _ _ (λ v. v.items) (bad_in_part n bound) c.args.parts.now given.0 c.in_ok-collect.field-0 _
    (slice-AllZip chain.0 c.args.parts.now (chain.1 ∙ slice) (λ part r. IfOk r (λ number. number ≡ bad_in_part n bound part)) given.0 chain.2) given.2
