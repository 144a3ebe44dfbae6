use Rattle.std.proofs.Common.{◌+◌, ◌∙◌, length, ap, sym}
use Rattle.std.proofs.lemmas.Result.{err_from_is_err_and}
use Rattle.trace_reader.specs.Reading.{reads}
use Rattle.trace_reader.specs.Reader.{content_of}
use Rattle.trace_reader.proofs.Steps.{refused_in_part, reached_in_part}
use Rattle.trace_reader.proofs.reader.TraceReader.keep.Goals as goal

pub returns-in_err-check_limits-clause-err : goal.returns-in_err-check_limits-clause-err
returns-in_err-check_limits-clause-err c =
    let p = err_from_is_err_and c.from_residual.result c.from_residual.ensures.1 in
    rw (p.1, p.2) (λ given _. refused_in_part c.args.self.now c.args.part.now given _ c.requires c.in_err-check_limits.ensures.err)

pub returns-clause-ok : goal.returns-clause-ok
returns-clause-ok c = λ given.
    let reader = c.args.self.now in
    reached_in_part reader c.args.part.now given c.requires c.in_ok-check_limits.ensures.ok
    ∙ ap (λ line. reads (record { bytes = reader.bytes + length c.args.part.now; lines = reader.lines; line = line; content = content_of reader.content given })) (sym c.in_ok-extend_from_slice.ensures.ok)
