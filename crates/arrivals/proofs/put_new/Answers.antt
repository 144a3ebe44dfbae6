use Rattle.std.proofs.Common.{◌<◌, ◌∙◌, ap, arith, length}
use Rattle.arrivals.proofs.Reversed.{put-new}
use Rattle.arrivals.proofs.put_new.Goals as goal

pub returns-clause-ok : goal.returns-clause-ok
returns-clause-ok g c =
    let m = c.args.cache.now in
    let room : length m.entries < m.cap = omega (arith, c.len.ensures.len, c.cap.ensures, c.get.ensures.value, c.if-len-get.false) in
    ap (λ x. x.entries) c.in_ok-put.ensures.entries ∙ put-new c.args.id c.args.value m c.requires room
