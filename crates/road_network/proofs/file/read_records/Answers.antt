use Rattle.std.proofs.lemmas.Result.{err_from_is_err_and}
use Rattle.std.proofs.Common.{◌∙◌, sym}
use Rattle.csv.specs.Records.{fields_of}
use Rattle.road_network.specs.inside.Between.{records_left}
use Rattle.road_network.proofs.Adding.{network-empty, network-headless, network-read}
use Rattle.road_network.proofs.file.read_records.Goals as goal

pub returns-clause-network : goal.returns-clause-network
returns-clause-network c =
    let next = c.in_ok-read_next.ensures.next c.if-not-branch.false in
    rw (network-read c.args.limits (records_left c.args.reader.now) (fields_of c.read_next.new.row) (records_left c.read_next.new.reader) next.first (sym c.is_header.ensures ∙ c.if-not-is_header.false))
    c.read_edges.ensures.network

pub returns-clause-fault : goal.returns-clause-fault
returns-clause-fault c =
    let next = c.in_ok-read_next.ensures.next c.if-not-branch.false in
    rw (network-read c.args.limits (records_left c.args.reader.now) (fields_of c.read_next.new.row) (records_left c.read_next.new.reader) next.first (sym c.is_header.ensures ∙ c.if-not-is_header.false))
    c.read_edges.ensures.fault

pub returns-then-not-branch-clause-fault : goal.returns-then-not-branch-clause-fault
returns-then-not-branch-clause-fault c = λ _. network-empty c.args.limits (records_left c.args.reader.now) (c.in_ok-read_next.ensures.end c.if-not-branch.true)

pub returns-then-not-is_header-clause-fault : goal.returns-then-not-is_header-clause-fault
returns-then-not-is_header-clause-fault c =
    let next = c.in_ok-read_next.ensures.next c.if-not-branch.false in
    λ _. network-headless c.args.limits (records_left c.args.reader.now) (fields_of c.read_next.new.row) (records_left c.read_next.new.reader) next.first (sym c.is_header.ensures ∙ c.if-not-is_header.true)

pub returns-in_err-read_next-clause-network : goal.returns-in_err-read_next-clause-network
returns-in_err-read_next-clause-network c = let p = err_from_is_err_and c.from_residual.result c.from_residual.ensures.1 in rw p.1 tt

pub returns-in_err-read_next-clause-fault : goal.returns-in_err-read_next-clause-fault
returns-in_err-read_next-clause-fault c = let p = err_from_is_err_and c.from_residual.result c.from_residual.ensures.1 in rw (p.1, p.2) (λ known. absurd (known c.in_err-read_next.ensures.memory))
