use Rattle.std.proofs.Common.{sym, ◌∙◌}
use Rattle.match_text.proofs.Next.{label_reads, none_reads, end_reads}
use Rattle.match_text.proofs.scan.next_line.Goals as goal

pub returns-in-97 : goal.returns-in-97
returns-in-97 c = label_reads c.args.place c.args.text.now _ (sym c.first_byte.ensures ∙ c.in-97.is) c.label_line.ensures

pub returns-in-110 : goal.returns-in-110
returns-in-110 c = none_reads c.args.place c.args.text.now _ (sym c.first_byte.ensures ∙ c.in-110.is) c.none_line.ensures

pub returns-in-101 : goal.returns-in-101
returns-in-101 c = end_reads c.args.place c.args.text.now _ c.end_line.ensures.id (sym c.first_byte.ensures ∙ c.in-101.is) c.end_line.ensures.value
