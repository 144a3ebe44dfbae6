use Rattle.std.proofs.Common.{sym, ◌∙◌}
use Rattle.cert_checker.proofs.WholeVerdicts.{bad_row_found, judged}
use Rattle.cert_checker.proofs.whole.check_all.Goals as goal

pub returns-in-BadRow : goal.returns-in-BadRow
returns-in-BadRow g c = bad_row_found c.args.net.now c.args.p.now c.args.traces.now c.args.c.now c.in-BadRow.place (sym c.in-BadRow.is ∙ c.in_ok-found.ensures)

pub returns-in-Judged : goal.returns-in-Judged
returns-in-Judged g c = judged c.args.net.now c.args.p.now c.args.traces.now c.args.c.now c.in-Judged.verdict (sym c.in-Judged.is ∙ c.in_ok-found.ensures)
