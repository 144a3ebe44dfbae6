use Rattle.std.proofs.Common.{sym, ◌∙◌}
use Rattle.table_work.proofs.Preloads.{IsCallFor, called}
use Rattle.table_work.proofs.TriedRows.{have_nodes}
use Rattle.table_work.proofs.preloading.read_rows.Goals as goal

pub returns-in-Ok-clause-nodes : goal.returns-in-Ok-clause-nodes
returns-in-Ok-clause-nodes c =
    let call : IsCallFor c.args.roads.now c.args.text.items c.node_count.result c.edge_count.result c.deref.result.now =
    record { nodes_are = c.node_count.ensures; edges_are = c.edge_count.ensures; text_is = c.deref.ensures.value } in
    have_nodes c.args.roads.now c.args.bound c.args.text.items c.in-Ok.rows (sym (called c.args.roads.now c.args.bound c.args.text.items c.node_count.result c.edge_count.result c.deref.result.now call) ∙ c.in-Ok.ensures.read)
