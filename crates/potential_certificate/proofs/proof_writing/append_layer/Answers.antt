use Rattle.std.proofs.Common.{rules, ◌∙◌}
use Rattle.std.proofs.lemmas.Result.{on_err_weaker, on_ok_weaker}
use Rattle.potential_certificate.proofs.KeptFronts.{kept_behind, kept_on, on_err}
use Rattle.potential_certificate.proofs.WrittenLines.{layer_written}
use Rattle.potential_certificate.proofs.proof_writing.append_layer.Goals as goal

pub returns-clause-ok : goal.returns-clause-ok
returns-clause-ok c =
    on_ok_weaker c.extend_from_slice-2.result (λ e. layer_written c.args.point c.args.rank c.args.cells.now c.args.into.now c.write_worded.new.into c.write_worded-2.new.into c.extend_from_slice.new.self c.append_cells.new.into _
    c.in_ok-write_worded.ensures.ok (rw c.from.ensures at c.in_ok-write_worded-2.ensures.ok) c.in_ok-extend_from_slice.ensures.ok c.in_ok-append_cells.ensures.ok e) c.extend_from_slice-2.ensures.ok

pub returns-in_err-write_worded-2-clause-err : goal.returns-in_err-write_worded-2-clause-err
returns-in_err-write_worded-2-clause-err c =
    on_err _ (kept_on c.args.into.now _ c.write_worded-2.new.into (search (rules, c.write_worded-2.ensures.err) ∙ c.in_ok-write_worded.ensures.ok))

pub returns-in_err-extend_from_slice-clause-err : goal.returns-in_err-extend_from_slice-clause-err
returns-in_err-extend_from_slice-clause-err c =
    on_err _ (kept_behind c.args.into.now _ c.write_worded.new.into c.extend_from_slice.new.self c.in_ok-write_worded.ensures.ok
    (kept_on c.write_worded.new.into _ c.extend_from_slice.new.self (search (rules, c.extend_from_slice.ensures.err) ∙ c.in_ok-write_worded-2.ensures.ok)))

pub returns-in_err-append_cells-clause-err : goal.returns-in_err-append_cells-clause-err
returns-in_err-append_cells-clause-err c =
    on_err _ (kept_behind c.args.into.now _ c.write_worded.new.into c.append_cells.new.into c.in_ok-write_worded.ensures.ok
    (kept_behind c.write_worded.new.into _ c.write_worded-2.new.into c.append_cells.new.into c.in_ok-write_worded-2.ensures.ok
    (kept_behind c.write_worded-2.new.into _ c.extend_from_slice.new.self c.append_cells.new.into c.in_ok-extend_from_slice.ensures.ok (search (rules, c.append_cells.ensures.err)))))

pub returns-clause-err : goal.returns-clause-err
returns-clause-err c =
    on_err_weaker c.extend_from_slice-2.result (λ e. kept_behind c.args.into.now _ c.write_worded.new.into c.extend_from_slice-2.new.self c.in_ok-write_worded.ensures.ok
    (kept_behind c.write_worded.new.into _ c.write_worded-2.new.into c.extend_from_slice-2.new.self c.in_ok-write_worded-2.ensures.ok
    (kept_behind c.write_worded-2.new.into _ c.extend_from_slice.new.self c.extend_from_slice-2.new.self c.in_ok-extend_from_slice.ensures.ok
    (kept_on c.extend_from_slice.new.self _ c.extend_from_slice-2.new.self (e ∙ c.in_ok-append_cells.ensures.ok))))) c.extend_from_slice-2.ensures.err
