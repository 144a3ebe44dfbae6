use Rattle.std.proofs.Common.{rules, ◌∙◌}
use Rattle.std.proofs.lemmas.Result.{on_err_weaker, on_ok_weaker}
use Rattle.potential_certificate.proofs.KeptFronts.{kept_behind, kept_on, on_err}
use Rattle.potential_certificate.proofs.WrittenLines.{first_written}
use Rattle.potential_certificate.proofs.lines.append_first.Goals as goal

pub returns-clause-ok : goal.returns-clause-ok
returns-clause-ok c =
    on_ok_weaker c.extend_from_slice-2.result (λ e. first_written c.args.p.now c.args.into.now c.extend_from_slice.new.self c.write_worded.new.into c.append_options.new.into c.append_back.new.into c.append_gap.new.into _
    (search rules) (search rules) (search rules) (search rules) (search rules) e) c.extend_from_slice-2.ensures.ok

pub returns-in_err-write_worded-clause-err : goal.returns-in_err-write_worded-clause-err
returns-in_err-write_worded-clause-err c =
    on_err _ (kept_on c.args.into.now _ c.write_worded.new.into (search (rules, c.write_worded.ensures.err) ∙ c.in_ok-extend_from_slice.ensures.ok))

pub returns-in_err-append_options-clause-err : goal.returns-in_err-append_options-clause-err
returns-in_err-append_options-clause-err c =
    on_err _ (kept_behind c.args.into.now _ c.extend_from_slice.new.self c.append_options.new.into c.in_ok-extend_from_slice.ensures.ok
    (kept_behind c.extend_from_slice.new.self _ c.write_worded.new.into c.append_options.new.into c.in_ok-write_worded.ensures.ok (search (rules, c.append_options.ensures.err))))

pub returns-in_err-append_back-clause-err : goal.returns-in_err-append_back-clause-err
returns-in_err-append_back-clause-err c =
    on_err _ (kept_behind c.args.into.now _ c.extend_from_slice.new.self c.append_back.new.into c.in_ok-extend_from_slice.ensures.ok
    (kept_behind c.extend_from_slice.new.self _ c.write_worded.new.into c.append_back.new.into c.in_ok-write_worded.ensures.ok
    (kept_on c.write_worded.new.into _ c.append_back.new.into (search (rules, c.append_back.ensures.err) ∙ c.in_ok-append_options.ensures.ok))))

pub returns-in_err-append_gap-clause-err : goal.returns-in_err-append_gap-clause-err
returns-in_err-append_gap-clause-err c =
    on_err _ (kept_behind c.args.into.now _ c.extend_from_slice.new.self c.append_gap.new.into c.in_ok-extend_from_slice.ensures.ok
    (kept_behind c.extend_from_slice.new.self _ c.write_worded.new.into c.append_gap.new.into c.in_ok-write_worded.ensures.ok
    (kept_behind c.write_worded.new.into _ c.append_options.new.into c.append_gap.new.into c.in_ok-append_options.ensures.ok
    (kept_on c.append_options.new.into _ c.append_gap.new.into (search (rules, c.append_gap.ensures.err) ∙ c.in_ok-append_back.ensures.ok)))))

pub returns-clause-err : goal.returns-clause-err
returns-clause-err c =
    on_err_weaker c.extend_from_slice-2.result (λ e. kept_behind c.args.into.now _ c.extend_from_slice.new.self c.extend_from_slice-2.new.self c.in_ok-extend_from_slice.ensures.ok
    (kept_behind c.extend_from_slice.new.self _ c.write_worded.new.into c.extend_from_slice-2.new.self c.in_ok-write_worded.ensures.ok
    (kept_behind c.write_worded.new.into _ c.append_options.new.into c.extend_from_slice-2.new.self c.in_ok-append_options.ensures.ok
    (kept_behind c.append_options.new.into _ c.append_back.new.into c.extend_from_slice-2.new.self c.in_ok-append_back.ensures.ok
    (kept_on c.append_back.new.into _ c.extend_from_slice-2.new.self (e ∙ c.in_ok-append_gap.ensures.ok)))))) c.extend_from_slice-2.ensures.err
