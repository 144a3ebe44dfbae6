use Rattle.arrivals.proofs.Reversed.{distinct-kept}
use Rattle.arrivals.proofs.Arrivals.len.Goals as goal

pub returns-in_default-clause-unique : goal.returns-in_default-clause-unique
returns-in_default-clause-unique g c = distinct-kept c.self.inside.cache c.args.self.now c.self.view_is c.self.invariant

pub returns-clause-unique : goal.returns-clause-unique
returns-clause-unique g c = distinct-kept c.self.inside.cache c.args.self.now c.self.view_is c.self.invariant
