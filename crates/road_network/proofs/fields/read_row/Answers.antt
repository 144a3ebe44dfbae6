use Rattle.std.proofs.Common.{◌∙◌, rules}
use Rattle.csv.specs.Records.{fields_of}
use Rattle.road_network.proofs.RowsRead.{AreFour, four-are, row-uneven}
use Rattle.road_network.proofs.fields.read_row.Goals as goal

pub returns-then-len-ne4-clause-fault : goal.returns-then-len-ne4-clause-fault
returns-then-len-ne4-clause-fault c = λ _. row-uneven c.args.rec _ (λ h. c.if-len-ne4.true (c.len.ensures ∙ h))

pub returns-clause-row : goal.returns-clause-row
returns-clause-row c =
    let fields = fields_of c.args.fields.now in
    let a = c.field_at-name.result.now in
    let b = c.field_at-from.result.now in
    let d = c.field_at-to.result.now in
    let e = c.field_at-points.result.now in
    let four : AreFour fields a b d e = record { count = search rules; first = c.field_at-name.ensures; second = c.field_at-from.ensures; third = c.field_at-to.ensures; fourth = c.field_at-points.ensures } in
    rw (four-are fields a b d e four) c.read_fields.ensures.row

pub returns-clause-fault : goal.returns-clause-fault
returns-clause-fault c =
    let fields = fields_of c.args.fields.now in
    let a = c.field_at-name.result.now in
    let b = c.field_at-from.result.now in
    let d = c.field_at-to.result.now in
    let e = c.field_at-points.result.now in
    let four : AreFour fields a b d e = record { count = search rules; first = c.field_at-name.ensures; second = c.field_at-from.ensures; third = c.field_at-to.ensures; fourth = c.field_at-points.ensures } in
    rw (four-are fields a b d e four) c.read_fields.ensures.fault
