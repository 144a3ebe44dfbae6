use Rattle.road_network.proofs.LimitOrder.{limits-agree}
use Rattle.road_network.proofs.laws.limits_agree.Goals as goal

pub returns : goal.returns
returns c = limits-agree
