use Rattle.route_rebuild.proofs.Joining.{routes_joined}
use Rattle.route_rebuild.proofs.laws.routes_are_joined.Goals as goal

pub returns : goal.returns
returns c = routes_joined
