use Rattle.std.proofs.Common.{◌∙◌}
use Rattle.arrivals.proofs.Reversed.{lookup-here}
use Rattle.arrivals.proofs.Arrivals.get.Goals as goal

pub returns : goal.returns
returns g c = c.peek.ensures ∙ lookup-here c.self.inside.cache c.args.self.now c.self.view_is c.self.invariant c.in-Some.cache c.in-Some.is c.args.id
