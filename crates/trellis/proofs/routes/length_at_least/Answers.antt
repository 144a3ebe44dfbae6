use Rattle.matching.specs.Routes.{Direct, IsRoute}
use Rattle.trellis.proofs.RouteOfRow.{none_below_direct, none_below_over, not_direct}
use Rattle.trellis.proofs.routes.length_at_least.Goals as goal

pub returns-then-is_direct : goal.returns-then-is_direct
returns-then-is_direct c = rw c.saturating_sub.ensures (none_below_direct c.args.net.now c.args.p.now.bound c.args.p.now.back c.args.a.now c.args.b.now)

pub returns : goal.returns
returns c =
    let n = c.args.net.now in
    let p = c.args.p.now in
    let none : IsRoute n p.bound p.back c.args.a.now c.args.b.now Direct → ⊥ = λ is. not_direct _ c.if-is_direct.false (c.is_direct.ensures.1 is) in
    rw c.length.ensures (none_below_over n p.bound p.back c.args.a.now c.args.b.now none)
