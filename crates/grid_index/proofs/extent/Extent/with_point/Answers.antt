use Rattle.grid_index.proofs.Extents.{widens_point}
use Rattle.grid_index.proofs.extent.Extent.with_point.Goals as goal

pub returns : goal.returns
returns c =
    let low = c.low_corner in
    let high = c.high_corner in
    widens_point c.args.self (record { low = low.result; high = high.result }) c.args.point (record { low_in = low.ensures.in_range; high_in = high.ensures.in_range })
    low.ensures.first low.ensures.second high.ensures.first high.ensures.second
