use Rattle.std.proofs.Common.{◌≡◌, ◌∙◌, ap, sym}
use Rattle.std.proofs.lemmas.Result.{err_from_is_err_and, on_ok_weaker}
use Rattle.csv.specs.Records.{fields_of}
use Rattle.road_network.specs.inside.Drafted.{drafted, AddsRow}
use Rattle.road_network.specs.NetworkFile.{add_record, add_row}
use Rattle.road_network.specs.inside.Rows.{row_with}
use Rattle.road_network.proofs.Adding.{record-read, record-refused}
use Rattle.road_network.proofs.file.add_record.Goals as goal

pub returns-in_err-head-clause-fault : goal.returns-in_err-head-clause-fault
returns-in_err-head-clause-fault c =
    let p = err_from_is_err_and c.from_residual.result c.from_residual.ensures.1 in
    rw (p.1, p.2) (λ known. record-refused c.args.limits (drafted c.args.draft.now) c.next_record.result (fields_of c.args.fields.now) _ c.next_record.ensures (c.in_err-head.ensures.fault known))

pub returns-clause-draft : goal.returns-clause-draft
returns-clause-draft c =
    on_ok_weaker c.add.result (λ (h : AddsRow c.args.limits c.args.draft.now (row_with c.in_ok-head.head c.as_slice.result.now) c.add.new.self). h.draft) c.add.ensures.ok

pub returns-clause-network : goal.returns-clause-network
returns-clause-network c =
    let d = c.args.draft.now in
    let r = row_with c.in_ok-head.head c.read_row.new.line in
    let read = record-read c.args.limits (drafted d) c.next_record.result (fields_of c.args.fields.now) r c.next_record.ensures c.in_ok-head.ensures.row in
    let same : add_row c.args.limits (drafted d) (row_with c.in_ok-head.head c.as_slice.result.now) ≡ add_record c.args.limits (drafted d) (fields_of c.args.fields.now) =
    ap (λ line. add_row c.args.limits (drafted d) (row_with c.in_ok-head.head line)) c.as_slice.ensures ∙ sym read in
    on_ok_weaker c.add.result (λ (h : AddsRow c.args.limits d (row_with c.in_ok-head.head c.as_slice.result.now) c.add.new.self). sym same ∙ h.network) c.add.ensures.ok

pub returns-clause-fault : goal.returns-clause-fault
returns-clause-fault c =
    let read = record-read c.args.limits (drafted c.args.draft.now) c.next_record.result (fields_of c.args.fields.now) (row_with c.in_ok-head.head c.read_row.new.line) c.next_record.ensures c.in_ok-head.ensures.row in
    rw (read, ← c.as_slice.ensures) c.add.ensures.fault
