use Rattle.std.proofs.Common.{subst}
use Rattle.grid_index.specs.GridOf.{GridOf}
use Rattle.grid_index.specs.NearestCell.{HasNoneNearer}
use Rattle.grid_index.proofs.grid.Grid.cell_distance2.Goals as goal

pub returns : goal.returns
returns c =
    subst (λ (g : GridOf). HasNoneNearer g.net g.side c.args.p c.args.column c.args.row c.cell_distance2.result) c.self.view_is
    (c.cell_distance2.ensures _)
