use Rattle.std.proofs.Common.{◌+◌, ap, ◌∙◌}
use Rattle.potential_certificate.proofs.Gatherings.{behind_last}
use Rattle.potential_certificate.proofs.gathered.least_after.Goals as goal

pub returns-in-Some : goal.returns-in-Some
returns-in-Some c = ap (λ n. n + 1) (c.from.ensures ∙ c.origin.ensures) ∙ behind_last 0 c.args.rows.now c.in-Some.row.now c.in-Some.ensures.value
