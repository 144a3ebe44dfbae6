use Rattle.std.proofs.lemmas.Result.{on_err_weaker}
use Rattle.trace_sessions.proofs.SessionFixes.{on-err}
use Rattle.trace_sessions.proofs.Written.{step-begun, step-fixed}
use Rattle.trace_sessions.proofs.following.write_step.Goals as goal

pub returns-in_err-write_fix-clause-err : goal.returns-in_err-write_fix-clause-err
returns-in_err-write_fix-clause-err c =
    on-err c.from_residual-in_err-write_fix.result
    (step-begun c.args.by.now.net.now c.args.lead c.args.point c.args.items.now c.args.into.now c.write_lead.new.into c.write_fix.new.into c.in_ok-write_lead.ensures.ok c.in_err-write_fix.ensures.err)

pub returns-clause-err : goal.returns-clause-err
returns-clause-err c =
    on_err_weaker c.write_items.result
    (λ same. step-fixed c.args.by.now.net.now c.args.lead c.args.point c.args.items.now c.args.into.now c.write_lead.new.into c.write_fix.new.into c.write_items.new.into c.in_ok-write_lead.ensures.ok c.in_ok-write_fix.ensures.ok same)
    c.write_items.ensures.err
