use Rattle.std.proofs.Common.{sym, ◌∙◌}
use Rattle.std.proofs.lemmas.Result.{err_from_is_err_and}
use Rattle.match_text.specs.declared.fault.TextFault.TheVariants.{BadLine}
use Rattle.match_text.proofs.Whole.{no_trace_line_only, first_line, found, only, fault_only, fault_line, same_fault}
use Rattle.match_text.proofs.reading.read_match.Goals as goal

pub returns-in_default-clause-only : goal.returns-in_default-clause-only
returns-in_default-clause-only c = λ m lawful fits eq. absurd (no_trace_line_only c.args.text.now m c.in_default.ensures lawful fits eq)

pub returns-in_default-clause-bad_line : goal.returns-in_default-clause-bad_line
returns-in_default-clause-bad_line c = λ n e. first_line c.args.text.now n c.in_default.ensures cc

pub returns-in_err-labels-clause-only : goal.returns-in_err-labels-clause-only
returns-in_err-labels-clause-only c = λ m lawful fits eq.
    let p = err_from_is_err_and c.from_residual.result c.from_residual.ensures.1 in
    rw p.1 (p.2 ∙ fault_only c.args.text.now c.in-Some.id c.in-Some.rest.now c.in_err-labels.field-0.0 m c.in-Some.ensures c.in_err-labels.ensures lawful fits eq)

pub returns-in_err-labels-clause-bad_line : goal.returns-in_err-labels-clause-bad_line
returns-in_err-labels-clause-bad_line c = λ n e.
    let p = err_from_is_err_and c.from_residual.result c.from_residual.ensures.1 in
    fault_line c.args.text.now c.in-Some.id c.in-Some.rest.now c.in_err-labels.field-0.0 n c.in-Some.ensures c.in_err-labels.ensures (sym p.2 ∙ same_fault c.from_residual.result p.0 (BadLine n) p.1 e)

pub returns-clause-found : goal.returns-clause-found
returns-clause-found c = found c.args.text.now c.in-Some.id c.in-Some.rest.now c.in_ok-labels.labels c.in_ok-labels.pieces c.in-Some.ensures c.in_ok-labels.ensures

pub returns-clause-only : goal.returns-clause-only
returns-clause-only c = λ m lawful fits eq. only c.args.text.now c.in-Some.id c.in-Some.rest.now c.in_ok-labels.labels c.in_ok-labels.pieces m c.in-Some.ensures c.in_ok-labels.ensures lawful fits eq
