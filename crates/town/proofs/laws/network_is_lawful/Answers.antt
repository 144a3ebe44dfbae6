use Rattle.town.proofs.TownFile.{network_is_lawful}
use Rattle.town.proofs.laws.network_is_lawful.Goals as goal

pub returns : goal.returns
returns c = network_is_lawful
