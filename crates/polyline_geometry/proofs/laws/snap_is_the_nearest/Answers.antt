use Rattle.polyline_geometry.proofs.Nearest.{snap_nearest}
use Rattle.polyline_geometry.proofs.laws.snap_is_the_nearest.Goals as goal

pub returns : goal.returns
returns c = snap_nearest
