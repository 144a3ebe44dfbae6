use Rattle.road_network.specs.Net.{Net}
use Rattle.grid_index.specs.inside.Table.{Gathers, grid_of}
use Rattle.grid_index.proofs.table.Table.gather.Given as goal

abbrev pub invariant-loop-row : goal.invariant-loop-row
invariant-loop-row l = (net : Net) → Gathers (grid_of net l.self) l.fn.disc.at l.fn.disc.far2 l.fn.found.items l.found.items l.fn.cells.left l.fn.cells.right l.fn.cells.bottom l.row
