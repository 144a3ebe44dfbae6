use Rattle.road_network.proofs.Readings.{point-within}
use Rattle.road_network.proofs.fields.read_point.Goals as goal

pub returns-clause-within : goal.returns-clause-within
returns-clause-within c = rw (c.make_point.ensures, c.parse_signed.ensures.value, c.parse_signed-2.ensures.value) (point-within _ _)
