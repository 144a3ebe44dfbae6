use Rattle.grid_index.proofs.Coordinates.{small_back}
use Rattle.grid_index.proofs.nearest_cell.nearest_between.Goals as goal

pub shifted-requires : goal.shifted-requires
shifted-requires c = small_back c.args.low c.requires.low_in

pub shifted-requires-2 : goal.shifted-requires-2
shifted-requires-2 c = small_back c.args.z c.requires.z_in

pub shifted-requires-3 : goal.shifted-requires-3
shifted-requires-3 c = small_back c.args.high c.requires.high_in
