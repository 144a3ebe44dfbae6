use Rattle.std.specs.Prelude.{codes}
use Rattle.std.proofs.lemmas.Result.{on_ok_weaker}
use Rattle.table_work.proofs.FirstLines.{first_written, worded}
use Rattle.table_work.proofs.lines.append_first.Goals as goal

pub returns-clause-ok : goal.returns-clause-ok
returns-clause-ok c =
    let old = c.args.into.now in
    let a = c.write_worded.new.into in
    let b = c.write_worded-2.new.into in
    on_ok_weaker c.extend_from_slice.result (λ e. first_written c.args.bound c.args.nodes c.args.edges old a b c.write_worded-3.new.into _
    (worded old (codes "fmm-table 1 bound ") a c.args.bound c.from.result c.from.ensures c.in_ok-write_worded.ensures.ok)
    (worded a (codes " nodes ") b c.args.nodes c.from-2.result c.from-2.ensures c.in_ok-write_worded-2.ensures.ok)
    (worded b (codes " edges ") c.write_worded-3.new.into c.args.edges c.from-3.result c.from-3.ensures c.in_ok-write_worded-3.ensures.ok) e) c.extend_from_slice.ensures.ok
