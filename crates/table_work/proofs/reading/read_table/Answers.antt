use Rattle.std.proofs.Common.{rules}
use Rattle.table_work.proofs.TableFaultLaws.{read_bad_line, read_cut}
use Rattle.table_work.proofs.reading.read_table.Goals as goal

pub returns-clause-bad_line : goal.returns-clause-bad_line
returns-clause-bad_line c = λ n e.
    read_bad_line c.args.bound c.args.nodes c.args.edges c.args.text.now c.read_text.result n (search rules) (search rules) (search rules) c.read_text.ensures e

pub returns-clause-cut : goal.returns-clause-cut
returns-clause-cut c = λ e.
    read_cut c.args.bound c.args.nodes c.args.edges c.args.text.now c.read_text.result (search rules) (search rules) (search rules) c.read_text.ensures e
