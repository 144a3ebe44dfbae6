use Rattle.std.proofs.lemmas.Result.{err_from_is_err_and}
use Rattle.table_work.proofs.TableRows.{IsOpened, rows_end, rows_fail}
use Rattle.table_work.proofs.table.write_rows.Goals as goal

pub returns-in_err-add_rows : goal.returns-in_err-add_rows
returns-in_err-add_rows c =
    let p = err_from_is_err_and c.from_residual-in_err-add_rows.result c.from_residual-in_err-add_rows.ensures.1 in
    let opened : IsOpened c.args.network.now c.args.bound c.node_count-nodes.result c.edge_count.result c.in_ok-searcher.searcher c.in_ok-writer.writer =
    record { table_is = c.in_ok-searcher.ensures; nodes_are = c.node_count-nodes.ensures; edges_are = c.edge_count.ensures; first_is = c.in_ok-writer.ensures } in
    rw (p.1, p.2) (rows_fail c.args.network.now c.args.bound c.node_count-nodes.result c.edge_count.result c.in_ok-searcher.searcher c.in_ok-writer.writer c.add_rows.new.writer c.in_err-add_rows.field-0.0 opened c.in_err-add_rows.ensures)

pub returns : goal.returns
returns c =
    let opened : IsOpened c.args.network.now c.args.bound c.node_count-nodes.result c.edge_count.result c.in_ok-searcher.searcher c.in_ok-writer.writer =
    record { table_is = c.in_ok-searcher.ensures; nodes_are = c.node_count-nodes.ensures; edges_are = c.edge_count.ensures; first_is = c.in_ok-writer.ensures } in
    rows_end c.args.network.now c.args.bound c.node_count-nodes.result c.edge_count.result c.in_ok-searcher.searcher c.in_ok-writer.writer c.add_rows.new.writer c.finish.result opened c.in_ok-add_rows.ensures c.finish.ensures.ok c.finish.ensures.within c.finish.ensures.too_long
