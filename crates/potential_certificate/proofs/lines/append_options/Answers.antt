use Rattle.std.proofs.Common.{rules, ◌∙◌}
use Rattle.std.proofs.lemmas.Result.{on_err_weaker}
use Rattle.potential_certificate.proofs.KeptFronts.{kept_behind, kept_on, on_err}
use Rattle.potential_certificate.proofs.lines.append_options.Goals as goal

pub returns-in_err-write_worded-2-clause-err : goal.returns-in_err-write_worded-2-clause-err
returns-in_err-write_worded-2-clause-err c =
    on_err _ (kept_on c.args.into.now _ c.write_worded-2.new.into (search (rules, c.write_worded-2.ensures.err) ∙ c.in_ok-write_worded.ensures.ok))

pub returns-in_err-write_worded-3-clause-err : goal.returns-in_err-write_worded-3-clause-err
returns-in_err-write_worded-3-clause-err c =
    on_err _ (kept_behind c.args.into.now _ c.write_worded.new.into c.write_worded-3.new.into c.in_ok-write_worded.ensures.ok
    (kept_on c.write_worded.new.into _ c.write_worded-3.new.into (search (rules, c.write_worded-3.ensures.err) ∙ c.in_ok-write_worded-2.ensures.ok)))

pub returns-in_err-write_worded-4-clause-err : goal.returns-in_err-write_worded-4-clause-err
returns-in_err-write_worded-4-clause-err c =
    on_err _ (kept_behind c.args.into.now _ c.write_worded.new.into c.write_worded-4.new.into c.in_ok-write_worded.ensures.ok
    (kept_behind c.write_worded.new.into _ c.write_worded-2.new.into c.write_worded-4.new.into c.in_ok-write_worded-2.ensures.ok
    (kept_on c.write_worded-2.new.into _ c.write_worded-4.new.into (search (rules, c.write_worded-4.ensures.err) ∙ c.in_ok-write_worded-3.ensures.ok))))

pub returns-clause-err : goal.returns-clause-err
returns-clause-err c =
    on_err_weaker c.write_worded-5.result (λ e. kept_behind c.args.into.now _ c.write_worded.new.into c.write_worded-5.new.into c.in_ok-write_worded.ensures.ok
    (kept_behind c.write_worded.new.into _ c.write_worded-2.new.into c.write_worded-5.new.into c.in_ok-write_worded-2.ensures.ok
    (kept_behind c.write_worded-2.new.into _ c.write_worded-3.new.into c.write_worded-5.new.into c.in_ok-write_worded-3.ensures.ok
    (kept_on c.write_worded-3.new.into _ c.write_worded-5.new.into (e ∙ c.in_ok-write_worded-4.ensures.ok))))) c.write_worded-5.ensures.err
