use Rattle.std.proofs.Common.{◌≡◌, ◌≤◌, length, arith, rules, sym, subst}
use Rattle.table_work.specs.TableText.{table_first_line, table_text_limit}
use Rattle.table_work.proofs.FirstLines.{first_short}
use Rattle.table_work.proofs.writing.TableWriter.open.Goals as goal

pub invariant_of-result : goal.invariant_of-result
invariant_of-result c =
    let is : c.append_first.new.into ≡ table_first_line c.args.bound c.args.nodes c.args.edges = search rules in
    record {
      few = omega arith;
      short = subst (λ t. length t ≤ table_text_limit) (sym is) (first_short c.args.bound c.args.nodes c.args.edges (search rules) (search rules) (search rules));
    }
