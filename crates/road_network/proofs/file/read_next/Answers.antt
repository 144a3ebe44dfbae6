use Rattle.csv.specs.Records.{fields_of}
use Rattle.road_network.proofs.Records.{read-next, read-none}
use Rattle.road_network.proofs.file.read_next.Goals as goal

pub returns-clause-next : goal.returns-clause-next
returns-clause-next c =
    let read = c.in-Ok.ensures.reads c.requires.plain c.requires.ready in
    λ found. read-next c.args.reader.now c.read_byte_record.new.self (fields_of c.read_byte_record.new.row) c.requires
    (record { read = rw found at read; first = c.in-Ok.ensures.ready c.requires.plain; flexible = c.in-Ok.ensures.flexible })

pub returns-clause-end : goal.returns-clause-end
returns-clause-end c =
    let read = c.in-Ok.ensures.reads c.requires.plain c.requires.ready in
    λ found. read-none c.args.reader.now c.read_byte_record.new.self (fields_of c.read_byte_record.new.row) c.requires (rw found at read)
