use Rattle.live_pipeline.proofs.Reading.{last_put, may_last}
use Rattle.live_pipeline.proofs.reader.read_traces.Goals as goal

pub put-requires-clause-may : goal.put-requires-clause-may
put-requires-clause-may g c =
    let has = c.put_file-last.ensures.put in
    may_last c.args.name.now (g.S.Shelf.state c.args.shelf.now) (g.S.Shelf.state c.put_file-last.new.shelf) has.traces c.put_file-last.result c.put_file-last.new.pass.parts has.brings

pub returns : goal.returns
returns g c =
    last_put c.args.name.now (g.S.Shelf.state c.args.shelf.now) _ c.args.pass.now _ _ _ c.requires.first c.put_file-last.ensures.own c.put_file-last.ensures.put c.put.ensures
