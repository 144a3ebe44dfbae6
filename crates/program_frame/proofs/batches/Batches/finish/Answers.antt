use Rattle.std.proofs.Common.{◌++◌, subst}
use Rattle.std.proofs.lemmas.Result.{err_from_is_err_and}
use Rattle.trace_reader.specs.Reading.{closed, file_traces}
use Rattle.program_frame.specs.Performs.{PutLeaves}
use Rattle.program_frame.proofs.FileEnds.{ending_put, ends_held, faulty_held, faulty_stops, write_ends}
use Rattle.program_frame.proofs.batches.Batches.finish.Goals as goal

pub refuse-requires : goal.refuse-requires
refuse-requires g c =
    let base = c.requires.0 in
    let fed = c.requires.1 in
    let between = c.requires.2 in
    let ends = c.in-Err.ensures.fed fed between.stands in
    (base, closed fed ++ ends.more, faulty_held c.in-Err.fault c.finish.new.into between ends)

pub returns-in-Err : goal.returns-in-Err
returns-in-Err g c base fed between =
    let ends = c.in-Err.ensures.fed fed between.stands in
    let holds = faulty_held c.in-Err.fault c.finish.new.into between ends in
    faulty_stops (g.K.Sink.state c.refuse.new.out) c.in-Err.fault c.finish.new.into c.refuse.result between ends (c.refuse.ensures.refuses base (closed fed ++ ends.more) holds)

pub write-requires : goal.write-requires
write-requires g c =
    let base = c.requires.0 in
    let fed = c.requires.1 in
    let between = c.requires.2 in
    (base, file_traces fed, ends_held c.finish.new.self c.finish.new.into between (c.in_default.ensures.fed fed between.stands))

pub returns-in_err-write : goal.returns-in_err-write
returns-in_err-write g c base fed between =
    let p = err_from_is_err_and c.from_residual.result c.from_residual.ensures.1 in
    let ends = c.in_default.ensures.fed fed between.stands in
    let holds = ends_held c.finish.new.self c.finish.new.into between ends in
    rw (p.1, p.2) (write_ends (g.J.Job.text c.args.self.now.job) base (g.K.Sink.state c.write.new.out) fed _ ends.faultless (c.in_err-write.ensures.writes base (file_traces fed) holds))

pub put_ending-requires : goal.put_ending-requires
put_ending-requires g c =
    let base = c.requires.0 in
    let fed = c.requires.1 in
    let between = c.requires.2 in
    let holds = ends_held c.finish.new.self c.finish.new.into between (c.in_default.ensures.fed fed between.stands) in
    let writes = c.in_ok-write.ensures.writes base (file_traces fed) holds in
    (writes.0.taken, writes.0.had)

pub returns : goal.returns
returns g c base fed between =
    let ends = c.in_default.ensures.fed fed between.stands in
    let holds = ends_held c.finish.new.self c.finish.new.into between ends in
    let writes = c.in_ok-write.ensures.writes base (file_traces fed) holds in
    let puts = subst (λ j. PutLeaves (g.K.Sink.state c.write.new.out) (g.K.Sink.state c.put_ending.new.out) (j.ending writes.0.taken) c.put_ending.result) c.in_ok-write.ensures.text (c.put_ending.ensures writes.0.taken writes.0.had).leaves in
    ending_put fed (g.K.Sink.state c.put_ending.new.out) c.put_ending.result writes.0 writes.1 ends.faultless puts
