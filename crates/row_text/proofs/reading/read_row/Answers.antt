use Rattle.std.proofs.Common.{sym, ◌∙◌}
use Rattle.row_text.proofs.RowLines.{breaks_rules, line_read, row_read}
use Rattle.row_text.proofs.reading.read_row.Goals as goal

pub returns-in_default-of : goal.returns-in_default-of
returns-in_default-of c =
    sym (line_read c.args.text.now c.in-Some.origin c.in-Some.rest.now c.in-Some-2.entries c.in-Some-2.rest.now (sym c.in-Some.ensures) (sym (rw c.in-Some-2.is at c.in_ok-entries.ensures))
    ∙ breaks_rules (record { origin = c.in-Some.origin; entries = c.in-Some-2.entries }) c.in-Some-2.rest.now c.in_default-of.ensures)

pub returns : goal.returns
returns c =
    row_read c.args.text.now c.in-Some.origin c.in-Some.rest.now c.in-Some-2.entries c.in-Some-2.rest.now c.in-Some-of.row (sym c.in-Some.ensures) (sym (rw c.in-Some-2.is at c.in_ok-entries.ensures))
    c.in-Some-of.ensures c.invariants.ensures
