use Rattle.std.proofs.Common.{◌<◌, length, subst, rules, IsTrue}
use Rattle.bounded_table.proofs.Asking.{asks_done, asks_err, asks_ok}
use Rattle.matching.specs.Layers.{trellis}
use Rattle.matching.specs.Local.{IsLeastCell}
use Rattle.matching.proofs.Chosen.{all_dead}
use Rattle.online_commit.specs.inside.Pieces.{session_of}
use Rattle.online_commit.proofs.NextCells.{asked-step, dead-ends, goes-made, kept-some, last-read, next-costs}
use Rattle.online_commit.proofs.feeding.next_cells.Goals as goal

pub next_layer-requires-clause-costs : goal.next_layer-requires-clause-costs
next_layer-requires-clause-costs g c =
    let s = session_of c.args.net.now c.args.p.now c.args.piece.now in
    let some : 0 < length c.args.piece.now.tail.layers.items = search rules in
    next-costs s c.index-layers-last.result c.index-tables-last.result c.requires.session c.invariants.ensures
    (last-read s c.index-layers-last.result c.index-tables-last.result c.as_slice-layers.result.now c.as_slice-tables.result.now c.requires.session some c.as_slice-layers.ensures.value c.as_slice-tables.ensures.value
    c.index-layers-last.is c.index-tables-last.is)

pub returns-in_err-cells-clause-asks : goal.returns-in_err-cells-clause-asks
returns-in_err-cells-clause-asks g c =
    let s = session_of c.args.net.now c.args.p.now c.args.piece.now in
    let some : 0 < length c.args.piece.now.tail.layers.items = search rules in
    let width : 0 < length c.args.layer.now.candidates = search rules in
    let near : IsTrue ((trellis c.args.net.now c.args.p.now).near c.index-layers-last.result c.args.layer.now) = search rules in
    let read = last-read s c.index-layers-last.result c.index-tables-last.result c.as_slice-layers.result.now c.as_slice-tables.result.now c.requires.session some c.as_slice-layers.ensures.value c.as_slice-tables.ensures.value
    c.index-layers-last.is c.index-tables-last.is in
    asks_err (asked-step s c.args.layer.now c.index-layers-last.result c.index-tables-last.result read width near c.next_layer.ensures.asks).only c.from_residual.ensures.0

pub returns-then-is_none-clause-next : goal.returns-then-is_none-clause-next
returns-then-is_none-clause-next g c = λ all.
    let s = session_of c.args.net.now c.args.p.now c.args.piece.now in
    let some = kept-some s c.requires.session all in
    let cells = c.in_ok-cells.cells in
    let least : IsLeastCell cells c.least_cell.result = subst (λ v. IsLeastCell v c.least_cell.result) c.as_slice.ensures c.least_cell.ensures in
    let read = last-read s c.index-layers-last.result c.index-tables-last.result c.as_slice-layers.result.now c.as_slice-tables.result.now c.requires.session some c.as_slice-layers.ensures.value c.as_slice-tables.ensures.value
    c.index-layers-last.is c.index-tables-last.is in
    dead-ends s c.args.layer.now c.index-layers-last.result c.index-tables-last.result cells read c.in_ok-cells.ensures.cells (all_dead cells c.least_cell.result least c.if-is_none.ensures)

pub returns-then-is_none-clause-asks : goal.returns-then-is_none-clause-asks
returns-then-is_none-clause-asks g c =
    let s = session_of c.args.net.now c.args.p.now c.args.piece.now in
    let some : 0 < length c.args.piece.now.tail.layers.items = search rules in
    let width : 0 < length c.args.layer.now.candidates = search rules in
    let near : IsTrue ((trellis c.args.net.now c.args.p.now).near c.index-layers-last.result c.args.layer.now) = search rules in
    let read = last-read s c.index-layers-last.result c.index-tables-last.result c.as_slice-layers.result.now c.as_slice-tables.result.now c.requires.session some c.as_slice-layers.ensures.value c.as_slice-tables.ensures.value
    c.index-layers-last.is c.index-tables-last.is in
    asks_done (asks_ok (asked-step s c.args.layer.now c.index-layers-last.result c.index-tables-last.result read width near c.next_layer.ensures.asks) c.in_ok-cells.was)

pub returns-clause-asks : goal.returns-clause-asks
returns-clause-asks g c =
    let s = session_of c.args.net.now c.args.p.now c.args.piece.now in
    let some : 0 < length c.args.piece.now.tail.layers.items = search rules in
    let width : 0 < length c.args.layer.now.candidates = search rules in
    let near : IsTrue ((trellis c.args.net.now c.args.p.now).near c.index-layers-last.result c.args.layer.now) = search rules in
    let read = last-read s c.index-layers-last.result c.index-tables-last.result c.as_slice-layers.result.now c.as_slice-tables.result.now c.requires.session some c.as_slice-layers.ensures.value c.as_slice-tables.ensures.value
    c.index-layers-last.is c.index-tables-last.is in
    asks_done (asks_ok (asked-step s c.args.layer.now c.index-layers-last.result c.index-tables-last.result read width near c.next_layer.ensures.asks) c.in_ok-cells.was)

pub returns-clause-next : goal.returns-clause-next
returns-clause-next g c =
    let s = session_of c.args.net.now c.args.p.now c.args.piece.now in
    let some : 0 < length c.args.piece.now.tail.layers.items = search rules in
    let near : IsTrue ((trellis c.args.net.now c.args.p.now).near c.index-layers-last.result c.args.layer.now) = search rules in
    let cells = c.in_ok-cells.cells in
    let least : IsLeastCell cells c.least_cell.result = subst (λ v. IsLeastCell v c.least_cell.result) c.as_slice.ensures c.least_cell.ensures in
    let read = last-read s c.index-layers-last.result c.index-tables-last.result c.as_slice-layers.result.now c.as_slice-tables.result.now c.requires.session some c.as_slice-layers.ensures.value c.as_slice-tables.ensures.value
    c.index-layers-last.is c.index-tables-last.is in
    goes-made s c.args.layer.now c.index-layers-last.result c.index-tables-last.result cells c.least_cell.result read near c.in_ok-cells.ensures.cells least c.if-is_none.ensures
