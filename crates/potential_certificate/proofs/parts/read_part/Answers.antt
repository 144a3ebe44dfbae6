use Rattle.std.proofs.Common.{refl}
use Rattle.potential_certificate.proofs.Gatherings.{lines_read}
use Rattle.potential_certificate.proofs.parts.read_part.Goals as goal

pub returns-in_ok-rows-in-Ok : goal.returns-in_ok-rows-in-Ok
returns-in_ok-rows-in-Ok c =
    let read = lines_read c.args.part.now c.in-Ok.proofs c.in-Ok.rest.now c.in_ok-rows-in-Ok.rows c.in_ok-rows-in-Ok.left.now c.in-Ok.ensures.ok c.in_ok-rows-in-Ok.ensures in
    (refl, record { text_is = read.0; are = read.1 })
