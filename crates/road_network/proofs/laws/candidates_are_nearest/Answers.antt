use Rattle.road_network.proofs.NearOrder.{are_nearest}
use Rattle.road_network.proofs.laws.candidates_are_nearest.Goals as goal

pub returns : goal.returns
returns c = are_nearest
