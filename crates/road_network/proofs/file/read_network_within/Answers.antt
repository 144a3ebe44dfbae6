use Rattle.std.proofs.Common.{◌<◌, length, arith}
use Rattle.road_network.specs.Limits.{file_limit}
use Rattle.road_network.proofs.Adding.{file-long}
use Rattle.road_network.proofs.file.read_network_within.Goals as goal

pub returns-then-bytes-file_bytes-clause-fault : goal.returns-then-bytes-file_bytes-clause-fault
returns-then-bytes-file_bytes-clause-fault c =
    let long : file_limit c.args.limits < length c.args.bytes.now = omega (arith, c.file_bytes.ensures, c.if-bytes-file_bytes.true) in
    λ _. file-long c.args.limits c.args.bytes.now long
