use Rattle.std.proofs.Common.{◌∙◌, Ok, sym, ap}
use Rattle.std.proofs.lemmas.Result.{IfOk-weaker, err_from_is_err_and}
use Rattle.csv.specs.Records.{fields_of}
use Rattle.road_network.specs.inside.Between.{records_left}
use Rattle.road_network.specs.inside.Drafted.{drafted}
use Rattle.road_network.specs.NetworkFile.{add_records}
use Rattle.road_network.proofs.Adding.{records-end, records-more, records-refused}
use Rattle.road_network.proofs.file.read_edges.Goals as goal

pub loop-line-preserved : goal.loop-line-preserved
loop-line-preserved c =
    let inv = c.loop-line.invariant in
    let next = c.in_ok-read_next.ensures.next c.if-branch.true in
    let n = drafted c.loop-line.draft in
    let m = drafted c.add_record.new.draft in
    let fields = fields_of c.read_next.new.row in
    let rest = records_left c.read_next.new.reader in
    record {
      draft = c.in_ok-add_record.ensures.draft;
      between = next.between;
      rest = sym (ap (add_records c.args.limits n) next.first ∙ records-more c.args.limits n m fields rest c.in_ok-add_record.ensures.network) ∙ inv.rest;
    }

pub returns-in_err-add_record-clause-fault : goal.returns-in_err-add_record-clause-fault
returns-in_err-add_record-clause-fault c =
    let inv = c.loop-line.invariant in
    let next = c.in_ok-read_next.ensures.next c.if-branch.true in
    let n = drafted c.loop-line.draft in
    let fields = fields_of c.read_next.new.row in
    let rest = records_left c.read_next.new.reader in
    let p = err_from_is_err_and c.from_residual-in_err-add_record.result c.from_residual-in_err-add_record.ensures.1 in
    rw (p.1, p.2) (λ known. sym inv.rest ∙ ap (add_records c.args.limits n) next.first ∙ records-refused c.args.limits n fields rest _ (c.in_err-add_record.ensures.fault known))

pub returns-clause-network : goal.returns-clause-network
returns-clause-network c =
    let inv = c.loop-line.invariant in
    let n = drafted c.loop-line.draft in
    let end = c.in_ok-read_next.ensures.end c.if-branch.false in
    IfOk-weaker c.finish.result _ _
    (λ net is. sym inv.rest ∙ ap (add_records c.args.limits n) end ∙ records-end c.args.limits n ∙ ap (λ k. Ok k) (sym is))
    c.finish.ensures.network

pub returns-in_err-read_next-clause-network : goal.returns-in_err-read_next-clause-network
returns-in_err-read_next-clause-network c = let p = err_from_is_err_and c.from_residual.result c.from_residual.ensures.1 in rw p.1 tt

pub returns-in_err-read_next-clause-fault : goal.returns-in_err-read_next-clause-fault
returns-in_err-read_next-clause-fault c = let p = err_from_is_err_and c.from_residual.result c.from_residual.ensures.1 in rw (p.1, p.2) (λ known. absurd (known c.in_err-read_next.ensures.memory))

pub returns-in_err-add_record-clause-network : goal.returns-in_err-add_record-clause-network
returns-in_err-add_record-clause-network c = let p = err_from_is_err_and c.from_residual-in_err-add_record.result c.from_residual-in_err-add_record.ensures.1 in rw p.1 tt
