use Rattle.potential_certificate.proofs.Gatherings.{reads_all}
use Rattle.potential_certificate.proofs.drawing.read_parts.Goals as goal

pub returns : goal.returns
returns g c = reads_all (λ part. part.now) _ _ (λ v. v.items) c.in_ok-parts.parts c.as_slice.result.now c.args.text.now c.read_each.result c.as_slice.ensures c.in_ok-parts.ensures c.read_each.ensures
