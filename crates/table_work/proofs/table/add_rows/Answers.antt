use Rattle.std.proofs.Common.{◌<◌, length, subst, ◌∙◌, arith}
use Rattle.std.proofs.lemmas.Result.{err_from_is_err_and}
use Rattle.bounded_table.specs.Table.{BoundedTable, IsRow}
use Rattle.table_work.proofs.TableRows.{row_added, row_fails}
use Rattle.table_work.proofs.table.add_rows.Goals as goal

pub returns-in_err-add : goal.returns-in_err-add
returns-in_err-add c =
    let low : c.loop-node.node < c.args.nodes = omega arith in
    let has : c.loop-node.node < length c.args.searcher.now.network.nodes = omega arith in
    let is = subst (λ (t : BoundedTable). IsRow t.network t.bound c.loop-node.node c.in_ok-row.row) c.loop-node.invariant.searcher c.in_ok-row.ensures.row in
    let p = err_from_is_err_and c.from_residual-in_err-add.result c.from_residual-in_err-add.ensures.1 in
    rw (p.1, p.2) (row_fails c.args.searcher.now c.loop-node.node c.args.nodes c.in_ok-row.row c.args.writer.now c.loop-node.writer c.add.new.self c.in_err-add.field-0.0 low c.requires.lawful has is c.loop-node.invariant.added c.in_err-add.ensures.too_long)

pub loop-node-preserved : goal.loop-node-preserved
loop-node-preserved c =
    let has : c.loop-node.node < length c.args.searcher.now.network.nodes = omega arith in
    let is = subst (λ (t : BoundedTable). IsRow t.network t.bound c.loop-node.node c.in_ok-row.row) c.loop-node.invariant.searcher c.in_ok-row.ensures.row in
    record {
      searcher = c.row_from.ensures.same ∙ c.loop-node.invariant.searcher;
      recent = c.keep.ensures ∙ c.loop-node.invariant.recent;
      added = row_added c.args.searcher.now c.loop-node.node c.in_ok-row.row c.args.writer.now c.loop-node.writer c.add.new.self c.requires.lawful has is c.loop-node.invariant.added c.in_ok-add.ensures.ok;
    }
