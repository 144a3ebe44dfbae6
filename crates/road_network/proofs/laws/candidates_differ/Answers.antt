use Rattle.road_network.proofs.NearOrder.{differ}
use Rattle.road_network.proofs.laws.candidates_differ.Goals as goal

pub returns : goal.returns
returns c = differ
