use Rattle.std.proofs.Common.{◌∙◌}
use Rattle.trace_reader.proofs.Ending.{ends_ok, ends_err}
use Rattle.trace_reader.proofs.reader.TraceReader.finish.Goals as goal

pub returns-in-Ok-clause-fed : goal.returns-in-Ok-clause-fed
returns-in-Ok-clause-fed c = λ fed stands.
    ends_ok c.args.self.now c.end_file.new.self fed c.args.into.now c.end_file.new.into stands c.in-Ok.ensures.ok (c.in-Ok.ensures.fault ∙ c.in_default.is)

pub returns-in-Err-clause-fed : goal.returns-in-Err-clause-fed
returns-in-Err-clause-fed c = λ fed stands. ends_err c.args.self.now fed c.args.into.now c.end_file.new.into c.in-Err.fault stands c.in-Err.ensures.err
