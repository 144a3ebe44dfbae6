use Rattle.live_pipeline.proofs.Reading.{part_ends}
use Rattle.live_pipeline.proofs.reader.next_chunk.Goals as goal

pub returns-in-Err : goal.returns-in-Err
returns-in-Err g c =
    part_ends c.args.name.now (g.S.Shelf.state c.args.shelf.now) (g.S.Shelf.state c.next.new.shelf) c.in-Err.stop c.part_of_stop.result c.part_of_stop.ensures c.in-Err.ensures.1
