use Rattle.std.proofs.Common.{rules, ◌∙◌}
use Rattle.std.proofs.lemmas.Result.{on_err_weaker}
use Rattle.potential_certificate.proofs.KeptFronts.{kept_behind, kept_on, on_err}
use Rattle.potential_certificate.proofs.lines.append_last.Goals as goal

pub returns-in_err-write_worded-2-clause-err : goal.returns-in_err-write_worded-2-clause-err
returns-in_err-write_worded-2-clause-err c =
    on_err _ (kept_on c.args.into.now _ c.write_worded-2.new.into (search (rules, c.write_worded-2.ensures.err) ∙ c.in_ok-write_worded.ensures.ok))

pub returns-clause-err : goal.returns-clause-err
returns-clause-err c =
    on_err_weaker c.extend_from_slice.result (λ e. kept_behind c.args.into.now _ c.write_worded.new.into c.extend_from_slice.new.self c.in_ok-write_worded.ensures.ok
    (kept_on c.write_worded.new.into _ c.extend_from_slice.new.self (e ∙ c.in_ok-write_worded-2.ensures.ok))) c.extend_from_slice.ensures.err
