use Rattle.std.proofs.Common.{inr, arith}
use Rattle.grid_index.specs.inside.Table.{grid_of}
use Rattle.grid_index.proofs.Gathering.{gathers_higher, gathers_none, gathers_row}
use Rattle.grid_index.proofs.table.Table.gather.Goals as goal

pub loop-row-init : goal.loop-row-init
loop-row-init c = λ net.
    gathers_none (grid_of net c.args.self.now) c.args.disc.at c.args.disc.far2 c.args.found.now.items c.args.cells.left c.args.cells.right c.args.cells.bottom c.args.cells.bottom (inr (omega arith))

pub loop-row-preserved : goal.loop-row-preserved
loop-row-preserved c = λ net.
    let s = c.loop-row in
    gathers_row (grid_of net c.args.self.now) c.args.disc.at c.args.disc.far2 c.args.found.now.items s.found.items c.gather_row.new.found.items c.args.cells.left c.args.cells.right c.args.cells.bottom s.row (s.invariant net) (c.in_ok-gather_row.ensures net)

pub returns : goal.returns
returns c = λ net.
    let s = c.loop-row in
    gathers_higher (grid_of net c.args.self.now) c.args.disc.at c.args.disc.far2 c.args.found.now.items s.found.items c.args.cells.left c.args.cells.right c.args.cells.bottom s.row c.args.cells.top (s.invariant net) c.loop-row-test.false
