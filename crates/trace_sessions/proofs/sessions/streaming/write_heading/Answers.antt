use Rattle.std.proofs.lemmas.Result.{on_err_weaker}
use Rattle.trace_sessions.proofs.StreamLines.{heading-led}
use Rattle.trace_sessions.proofs.sessions.streaming.write_heading.Goals as goal

pub returns-clause-err : goal.returns-clause-err
returns-clause-err c =
    on_err_weaker c.write_trace.result
    (λ same. heading-led c.args.id c.args.point c.args.into.now c.write_lead.new.into c.write_trace.new.into c.if-point-gt0.false c.in_ok-write_lead.ensures.ok same)
    c.write_trace.ensures.err
