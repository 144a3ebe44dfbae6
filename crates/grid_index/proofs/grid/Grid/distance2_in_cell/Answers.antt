use Rattle.std.proofs.Common.{subst}
use Rattle.std.specs.Prelude.{MatchOption}
use Rattle.road_network.specs.Net.{edge_line}
use Rattle.grid_index.specs.GridOf.{GridOf}
use Rattle.grid_index.specs.NearestCell.{IsNearestCell}
use Rattle.grid_index.specs.Runs.{IsBoxDistance}
use Rattle.grid_index.proofs.NearestCells.{corners_rise}
use Rattle.grid_index.proofs.grid.Grid.distance2_in_cell.Goals as goal

pub distance2_in_cell-requires-clause-corners : goal.distance2_in_cell-requires-clause-corners
distance2_in_cell-requires-clause-corners c =
    let r = c.args.run.now in
    (c.requires.run.run.corners, corners_rise (edge_line c.args.self.now.net r.edge.0) r c.requires.run.run)

pub returns : goal.returns
returns c =
    let r = c.args.run.now in
    let p = c.args.p in
    subst (λ (g : GridOf). MatchOption c.distance2_in_cell.result (IsNearestCell g.side p r c.args.column c.args.row → ⊥)
    (λ d2. IsNearestCell g.side p r c.args.column c.args.row × IsBoxDistance r p d2)) c.self.view_is
    c.distance2_in_cell.ensures
