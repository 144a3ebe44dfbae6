-- What a grid keeps inside.
use Rattle.std.specs.Prelude.{◌≤◌, length}
use Rattle.grid_index.specs.declared.grid.Grid.TheInside.{Inside}
use Rattle.grid_index.specs.Extent.{IsExtentOf}
use Rattle.grid_index.specs.GridOf.{GridOf}
use Rattle.grid_index.specs.inside.Table.{IsTableOf, grid_of}

abbrev pub shown : Inside → GridOf
shown g = grid_of g.net.now g.table

pub record IsKept (g : Inside) : Type 0 where
  pub side_small : g.table.layout.side ≤ 1_000_000
  pub table : IsTableOf g.net.now g.table
  pub extent : IsExtentOf g.net.now (length g.net.now.edges) g.extent
