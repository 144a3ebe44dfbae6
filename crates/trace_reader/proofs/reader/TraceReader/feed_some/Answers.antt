use Rattle.trace_reader.proofs.Feeding.{feeds_some_ok, feeds_some_fewer, feeds_err}
use Rattle.trace_reader.proofs.reader.TraceReader.feed_some.Goals as goal

pub returns-in-Ok-clause-fed : goal.returns-in-Ok-clause-fed
returns-in-Ok-clause-fed c = λ fed stands.
    let told = c.in-Ok.ensures.ok in
    feeds_some_ok c.args.self.now c.take.new.self fed c.args.chunk.now c.args.most c.in-Ok.taken c.args.into.now c.take.new.into stands told.2 told.1

pub returns-in-Err-clause-fed : goal.returns-in-Err-clause-fed
returns-in-Err-clause-fed c = λ fed stands.
    let fails = c.in-Err.ensures.err stands.sound in (
      feeds_err c.args.self.now fed c.args.chunk.now _ c.args.into.now c.take.new.into c.in-Err.fault stands fails,
      feeds_some_fewer c.args.self.now c.args.chunk.now c.args.most c.args.into.now c.take.new.into c.in-Err.fault fails,
    )
