use Rattle.std.proofs.Common.{rules}
use Rattle.csv.specs.Records.{fields_of}
use Rattle.road_network.proofs.Adding.{header-read}
use Rattle.road_network.proofs.RowsRead.{AreFour, four-are}
use Rattle.road_network.proofs.file.is_header.Goals as goal

pub returns : goal.returns
returns c =
    let fields = fields_of c.args.row.now in
    let a = c.field_at.result.now in
    let b = c.field_at-2.result.now in
    let d = c.field_at-3.result.now in
    let e = c.field_at-4.result.now in
    let four : AreFour fields a b d e = record { count = search rules; first = c.field_at.ensures; second = c.field_at-2.ensures; third = c.field_at-3.ensures; fourth = c.field_at-4.ensures } in
    header-read fields a b d e c.eq-is_edge.result c.eq-is_from.result c.eq-is_to.result c.eq-is_line.result (four-are fields a b d e four)
    (rw c.as_slice.ensures at c.eq-is_edge.ensures) (rw c.as_slice-2.ensures at c.eq-is_from.ensures) (rw c.as_slice-3.ensures at c.eq-is_to.ensures) (rw c.as_slice-4.ensures at c.eq-is_line.ensures)
