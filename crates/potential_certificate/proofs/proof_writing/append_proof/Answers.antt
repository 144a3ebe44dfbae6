use Rattle.std.proofs.Common.{rules, ◌∙◌}
use Rattle.std.proofs.lemmas.Result.{on_err_weaker}
use Rattle.potential_certificate.proofs.KeptFronts.{kept_behind, kept_on, on_err}
use Rattle.potential_certificate.proofs.proof_writing.append_proof.Goals as goal

pub returns-in_err-append_points-clause-err : goal.returns-in_err-append_points-clause-err
returns-in_err-append_points-clause-err c =
    on_err _ (kept_behind c.args.into.now _ c.write_trace.new.into c.append_points.new.into c.in_ok-write_trace.ensures.ok (search (rules, c.append_points.ensures.err)))

pub returns-clause-err : goal.returns-clause-err
returns-clause-err c =
    on_err_weaker c.write_end.result (λ e. kept_behind c.args.into.now _ c.write_trace.new.into c.write_end.new.into c.in_ok-write_trace.ensures.ok
    (kept_on c.write_trace.new.into _ c.write_end.new.into (e ∙ c.in_ok-append_points.ensures.ok))) c.write_end.ensures.err
