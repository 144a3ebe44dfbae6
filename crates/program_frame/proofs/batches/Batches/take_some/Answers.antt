use Rattle.std.proofs.Common.{◌++◌, ◌-◌, take, sym, subst, arith, rules}
use Rattle.std.proofs.lemmas.Result.{err_from_is_err_and}
use Rattle.trace_reader.specs.Reader.{StandsFor}
use Rattle.trace_reader.specs.Reading.{closed}
use Rattle.program_frame.proofs.ChunkEnds.{fails_held, fails_stops, batch_taken, stops_in, takes_more, takes_one}
use Rattle.program_frame.proofs.batches.Batches.take_some.Goals as goal

pub write-requires : goal.write-requires
write-requires g c =
    let base = c.requires.ready.0 in
    let fed = c.requires.ready.1 in
    let between = c.requires.ready.2 in
    (base, closed (fed ++ take c.in-Ok-2.taken c.args.chunk.now), takes_more c.args.chunk.now _ c.in-Ok-2.taken c.feed_some.new.self c.feed_some.new.into between (let room = between.room in omega (arith, room, c.len.ensures)) (c.in-Ok-2.ensures.fed fed between.stands))

pub returns-in_err-write-in-Ok-2-clause-takes : goal.returns-in_err-write-in-Ok-2-clause-takes
returns-in_err-write-in-Ok-2-clause-takes g c base fed between =
    let p = err_from_is_err_and c.from_residual.result c.from_residual.ensures.1 in
    let holds = takes_more c.args.chunk.now _ c.in-Ok-2.taken c.feed_some.new.self c.feed_some.new.into between (let room = between.room in omega (arith, room, c.len.ensures)) (c.in-Ok-2.ensures.fed fed between.stands) in
    rw (p.1, p.2) (stops_in (g.J.Job.text c.args.self.now.job) base (g.K.Sink.state c.write.new.out) fed c.args.chunk.now c.in-Ok-2.taken _ (c.in_err-write-in-Ok-2.ensures.writes base (closed (fed ++ take c.in-Ok-2.taken c.args.chunk.now)) holds))

pub refuse-requires : goal.refuse-requires
refuse-requires g c =
    let base = c.requires.ready.0 in
    let fed = c.requires.ready.1 in
    let between = c.requires.ready.2 in
    let short = (c.in-Err.ensures.fed fed between.stands).1 in
    let fails = (c.in-Err.ensures.fed fed between.stands).0 in
    (base, closed fed ++ fails.more, fails_held c.args.chunk.now c.in-Err.fault c.feed_some.new.into between c.requires.sizes.1 (let room = between.room in omega (arith, room, short, c.len.ensures)) fails)

pub returns-in-Ok-clause-some : goal.returns-in-Ok-clause-some
returns-in-Ok-clause-some g c =
    let fed = c.requires.ready.1 in
    let between = c.requires.ready.2 in
    let takes = c.in-Ok.ensures.fed fed between.stands in
    let room = between.room in
    (takes_one fed c.args.chunk.now (256 - c.len.result) c.in-Ok.taken c.feed_some.new.self c.args.self.now.waiting c.feed_some.new.into (omega (arith, room, c.len.ensures)) c.requires.sizes.0 takes, takes.within)

pub returns-in-Ok-clause-takes : goal.returns-in-Ok-clause-takes
returns-in-Ok-clause-takes g c base fed between =
    let takes = c.in-Ok.ensures.fed fed between.stands in
    record {
      stands = takes.stands;
      holds = takes_more c.args.chunk.now _ c.in-Ok.taken c.feed_some.new.self c.feed_some.new.into between (let room = between.room in omega (arith, room, c.len.ensures)) takes;
      room = search (rules, c.if-len-lt-BATCH.true);
    }

pub returns-in_ok-write-in-Ok-2-clause-some : goal.returns-in_ok-write-in-Ok-2-clause-some
returns-in_ok-write-in-Ok-2-clause-some g c =
    let fed = c.requires.ready.1 in
    let between = c.requires.ready.2 in
    let takes = c.in-Ok.ensures.fed fed between.stands in
    let room = between.room in
    (takes_one fed c.args.chunk.now (256 - c.len.result) c.in-Ok.taken c.feed_some.new.self c.args.self.now.waiting c.feed_some.new.into (omega (arith, room, c.len.ensures)) c.requires.sizes.0 takes, takes.within)

pub returns-in_ok-write-in-Ok-2-clause-takes : goal.returns-in_ok-write-in-Ok-2-clause-takes
returns-in_ok-write-in-Ok-2-clause-takes g c base fed between =
    let takes = c.in-Ok.ensures.fed fed between.stands in
    let holds = takes_more c.args.chunk.now _ c.in-Ok.taken c.feed_some.new.self c.feed_some.new.into between (let room = between.room in omega (arith, room, c.len.ensures)) takes in
    let writes = c.in_ok-write-in-Ok-2.ensures.writes base (closed (fed ++ take c.in-Ok.taken c.args.chunk.now)) holds in
    batch_taken (g.J.Job.text c.args.self.now.job) (g.J.Job.has c.write.new.self.job) base (g.K.Sink.state c.write.new.out) fed c.args.chunk.now c.in-Ok.taken c.write.new.self.reader c.write.new.self.waiting (subst (λ r. StandsFor r (fed ++ take c.in-Ok.taken c.args.chunk.now)) (sym c.in_ok-write-in-Ok-2.ensures.reader) takes.stands) writes

pub returns-in-Err-clause-takes : goal.returns-in-Err-clause-takes
returns-in-Err-clause-takes g c base fed between =
    let short = (c.in-Err.ensures.fed fed between.stands).1 in
    let fails = (c.in-Err.ensures.fed fed between.stands).0 in
    let holds = fails_held c.args.chunk.now c.in-Err.fault c.feed_some.new.into between c.requires.sizes.1 (let room = between.room in omega (arith, room, short, c.len.ensures)) fails in
    fails_stops (g.K.Sink.state c.refuse.new.out) c.args.chunk.now c.in-Err.fault c.feed_some.new.into c.refuse.result between fails (c.refuse.ensures.refuses base (closed fed ++ fails.more) holds)
