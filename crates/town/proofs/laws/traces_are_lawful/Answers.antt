use Rattle.town.proofs.TownTraces.{traces_are_lawful}
use Rattle.town.proofs.laws.traces_are_lawful.Goals as goal

pub returns : goal.returns
returns c = traces_are_lawful
