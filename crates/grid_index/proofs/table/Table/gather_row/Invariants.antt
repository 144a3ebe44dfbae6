use Rattle.std.proofs.Common.{◌+◌}
use Rattle.road_network.specs.Net.{Net}
use Rattle.grid_index.specs.inside.Table.{Gathers, grid_of}
use Rattle.grid_index.proofs.table.Table.gather_row.Given as goal

abbrev pub invariant-loop-column : goal.invariant-loop-column
invariant-loop-column l = (net : Net) → Gathers (grid_of net l.self) l.fn.disc.at l.fn.disc.far2 l.fn.found.items l.found.items l.fn.cells.left l.column l.fn.row (l.fn.row + 1)
