use Rattle.std.proofs.Common.{rules, ◌∙◌}
use Rattle.potential_certificate.proofs.KeptFronts.{kept_behind, kept_on, on_err}
use Rattle.potential_certificate.proofs.proof_writing.append_cells.Goals as goal

pub returns-in_err-extend_from_slice-clause-err : goal.returns-in_err-extend_from_slice-clause-err
returns-in_err-extend_from_slice-clause-err c =
    on_err _ (kept_on c.args.into.now _ c.extend_from_slice.new.self (search (rules, c.extend_from_slice.ensures.err) ∙ c.loop-cell.invariant))

pub returns-in_err-append_cell-clause-err : goal.returns-in_err-append_cell-clause-err
returns-in_err-append_cell-clause-err c =
    on_err _ (kept_behind c.args.into.now _ c.loop-cell.into c.append_cell.new.into c.loop-cell.invariant
    (kept_behind c.loop-cell.into _ c.extend_from_slice.new.self c.append_cell.new.into c.in_ok-extend_from_slice.ensures.ok (search (rules, c.append_cell.ensures.err))))
