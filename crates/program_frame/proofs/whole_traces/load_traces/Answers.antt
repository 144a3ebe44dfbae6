use Rattle.program_frame.proofs.WholeReading.{end_accepted, end_refused}
use Rattle.program_frame.proofs.whole_traces.load_traces.Goals as goal

pub returns-in-Ok : goal.returns-in-Ok
returns-in-Ok g c =
    let fed = c.in_ok-feed_file.ensures in
    end_accepted c.args.name.now (g.S.Shelf.state c.args.shelf.now) (g.S.Shelf.state c.feed_file.new.shelf) c.feed_file.new.reader c.finish.new.self c.feed_file.new.traces c.finish.new.into fed (c.in-Ok.ensures.fed fed.bytes fed.stands)

pub returns : goal.returns
returns g c =
    let fed = c.in_ok-feed_file.ensures in
    end_refused c.args.name.now (g.S.Shelf.state c.args.shelf.now) (g.S.Shelf.state c.feed_file.new.shelf) c.feed_file.new.reader c.feed_file.new.traces c.finish.new.into c.in-Err.fault c.refuse_fault.result fed (c.in-Err.ensures.fed fed.bytes fed.stands)
    c.refuse_fault.ensures
