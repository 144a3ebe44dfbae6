use Rattle.route_rebuild.proofs.RouteValue.{routes_value}
use Rattle.route_rebuild.proofs.laws.routes_are_the_value.Goals as goal

pub returns : goal.returns
returns c = routes_value
