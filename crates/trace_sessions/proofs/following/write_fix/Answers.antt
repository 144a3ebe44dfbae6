use Rattle.std.proofs.Common.{◌++◌, ◌∙◌, ap}
use Rattle.std.proofs.lemmas.Result.{on_err_weaker}
use Rattle.decimal_text.specs.Number.{decimal}
use Rattle.trace_sessions.proofs.SessionFixes.{on-err}
use Rattle.trace_sessions.proofs.Written.{fix-begun, fix-numbered}
use Rattle.trace_sessions.proofs.following.write_fix.Goals as goal

pub returns-in_err-write_unsigned-clause-err : goal.returns-in_err-write_unsigned-clause-err
returns-in_err-write_unsigned-clause-err c =
    on-err c.from_residual-in_err-write_unsigned.result
    (fix-begun c.args.point c.args.into.now c.extend_from_slice.new.self c.write_unsigned.new.into c.in_ok-extend_from_slice.ensures.ok c.in_err-write_unsigned.ensures.err)

pub returns-clause-err : goal.returns-clause-err
returns-clause-err c =
    on_err_weaker c.extend_from_slice-2.result
    (λ same. fix-numbered c.args.point c.args.into.now c.extend_from_slice.new.self c.write_unsigned.new.into c.extend_from_slice-2.new.self c.in_ok-extend_from_slice.ensures.ok
    (c.in_ok-write_unsigned.ensures.ok ∙ ap (λ k. c.extend_from_slice.new.self ++ decimal k) c.from.ensures) same)
    c.extend_from_slice-2.ensures.err
