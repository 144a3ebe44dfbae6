use Rattle.std.proofs.lemmas.Result.{err_from_is_err_and}
use Rattle.trace_reader.specs.Reader.{content_of}
use Rattle.trace_reader.proofs.Ending.{fails_in_rest, fails_in_end}
use Rattle.trace_reader.proofs.reader.TraceReader.end_file.Goals as goal

pub returns-in_err-read_line-clause-err : goal.returns-in_err-read_line-clause-err
returns-in_err-read_line-clause-err c =
    let p = err_from_is_err_and c.from_residual.result c.from_residual.ensures.1 in
    rw (p.1, p.2)
    (fails_in_rest c.args.self.now c.args.into.now c.read_line.new.into _ c.in_err-read_line.ensures.same
    (rw c.as_slice.ensures at c.in_err-read_line.ensures.err))

pub returns-in_err-end-clause-err : goal.returns-in_err-end-clause-err
returns-in_err-end-clause-err c =
    let r = c.from_residual-in_err-end in
    let p = err_from_is_err_and r.result r.ensures.1 in
    rw (p.1, p.2)
    (fails_in_end c.args.self.now c.args.into.now c.end.new.into (content_of c.read_line.new.self c.read_line.new.into) _
    (rw c.as_slice.ensures at c.in_ok-read_line.ensures.ok) c.in_err-end.ensures.same c.in_err-end.ensures.err)
