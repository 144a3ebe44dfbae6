use Rattle.std.proofs.Common.{ap, sym, ◌∙◌}
use Rattle.road_network.specs.NetworkFile.{network_of}
use Rattle.road_network.specs.declared.limits.NetworkLimits.TheVariants.{Standard}
use Rattle.town.specs.Network.{network_text}
use Rattle.match_work.proofs.TownTexts.{network_read}
use Rattle.match_work.proofs.towns.open_network.Goals as goal

pub returns-in-Ok : goal.returns-in-Ok
returns-in-Ok c = network_read (network_text c.args.side) c.in-Ok.network (ap (network_of Standard) (sym (c.as_slice.ensures ∙ c.in_ok-bytes.ensures)) ∙ c.in-Ok.ensures.network)
