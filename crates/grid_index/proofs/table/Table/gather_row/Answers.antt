use Rattle.std.proofs.Common.{◌+◌, ◌∙◌, [], All, inl, arith, subst, sym}
use Rattle.road_network.specs.Net.{Net}
use Rattle.grid_index.specs.Cells.{slot}
use Rattle.grid_index.specs.Runs.{HasCorners}
use Rattle.grid_index.specs.inside.Table.{grid_of}
use Rattle.grid_index.proofs.Gathering.{gathers_cell, gathers_more, gathers_none}
use Rattle.grid_index.proofs.LaidOut.{all_at}
use Rattle.grid_index.proofs.Parts.{runs_are}
use Rattle.grid_index.proofs.table.Table.gather_row.Goals as goal

abbrev nowhere : Net
nowhere = record { nodes = []; edges = [] }

pub append_near-requires-clause-corners : goal.append_near-requires-clause-corners
append_near-requires-clause-corners c =
    let t = c.args.self.now in
    let column = c.loop-column.column in
    let is = c.runs_at.ensures nowhere ∙ runs_are t.layout.width t.starts.items t.members.items column c.args.row t.layout.width_some in
    subst (All HasCorners) (sym is) (all_at HasCorners t.starts.items t.members.items (slot t.layout.width column c.args.row) c.requires.parts.corners)

pub loop-column-init : goal.loop-column-init
loop-column-init c = λ net.
    gathers_none (grid_of net c.args.self.now) c.args.disc.at c.args.disc.far2 c.args.found.now.items c.args.cells.left c.args.cells.left c.args.row (c.args.row + 1) (inl (omega arith))

pub loop-column-preserved : goal.loop-column-preserved
loop-column-preserved c = λ net.
    let s = c.loop-column in
    gathers_cell (grid_of net c.args.self.now) c.args.disc.at c.args.disc.far2 c.args.found.now.items s.found.items c.append_near.new.found.items c.runs_at.result.now c.args.cells.left s.column c.args.row (s.invariant net) (c.runs_at.ensures net) c.in_ok-append_near.ensures

pub returns : goal.returns
returns c = λ net.
    let s = c.loop-column in
    gathers_more (grid_of net c.args.self.now) c.args.disc.at c.args.disc.far2 c.args.found.now.items s.found.items c.args.cells.left s.column c.args.cells.right c.args.row (c.args.row + 1) (s.invariant net) c.loop-column-test.false
