use Rattle.std.proofs.Common.{◌≡◌, Some, ◌≤◌, ◌<◌, ◌∙◌, length, ap, sym, arith}
use Rattle.csv.specs.Reading.{strip_bom}
use Rattle.road_network.specs.inside.Between.{records_left}
use Rattle.road_network.specs.Limits.{file_limit}
use Rattle.road_network.specs.NetworkFile.{network_of, network_of_records}
use Rattle.road_network.proofs.Adding.{file-long, file-short}
use Rattle.road_network.proofs.Records.{IsOpened, opened-records}
use Rattle.road_network.proofs.file.read_network_text.Goals as goal

pub returns-then-len-file_bytes-clause-fault : goal.returns-then-len-file_bytes-clause-fault
returns-then-len-file_bytes-clause-fault c =
    let long : file_limit c.args.limits < length c.args.text.items = omega (arith, c.len.ensures, c.file_bytes.ensures, c.if-len-file_bytes.true) in
    λ _. file-long c.args.limits c.args.text.items long

pub returns-clause-network : goal.returns-clause-network
returns-clause-network c =
    let opened : IsOpened c.from_reader-reader.result c.args.text.items = record { state = c.from_reader-reader.ensures.state; known = c.from_reader-reader.ensures.source ∙ ap (λ t. Some (strip_bom t)) c.new-2.ensures } in
    let short : length c.args.text.items ≤ file_limit c.args.limits = omega (arith, c.len.ensures, c.file_bytes.ensures, c.if-len-file_bytes.false) in
    let whole : network_of c.args.limits c.args.text.items ≡ network_of_records c.args.limits (records_left c.from_reader-reader.result) =
    file-short c.args.limits c.args.text.items short ∙ ap (network_of_records c.args.limits) (sym (opened-records c.from_reader-reader.result c.args.text.items opened)) in
    rw whole c.read_records.ensures.network

pub returns-clause-fault : goal.returns-clause-fault
returns-clause-fault c =
    let opened : IsOpened c.from_reader-reader.result c.args.text.items = record { state = c.from_reader-reader.ensures.state; known = c.from_reader-reader.ensures.source ∙ ap (λ t. Some (strip_bom t)) c.new-2.ensures } in
    let short : length c.args.text.items ≤ file_limit c.args.limits = omega (arith, c.len.ensures, c.file_bytes.ensures, c.if-len-file_bytes.false) in
    let whole : network_of c.args.limits c.args.text.items ≡ network_of_records c.args.limits (records_left c.from_reader-reader.result) =
    file-short c.args.limits c.args.text.items short ∙ ap (network_of_records c.args.limits) (sym (opened-records c.from_reader-reader.result c.args.text.items opened)) in
    rw whole c.read_records.ensures.fault
