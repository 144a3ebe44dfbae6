use Rattle.std.proofs.Common.{ap}
use Rattle.bounded_table.specs.Table.{BoundedTable}
use Rattle.table_work.proofs.Preloads.{file_for, file_tried}
use Rattle.table_work.proofs.preloading.accept_table.Goals as goal

pub returns : goal.returns
returns c =
    let bound = ap (λ (t : BoundedTable). t.bound) c.in_ok-checker.ensures in
    let tried = file_tried c.network-roads.result.now c.bound-bound.result c.in_ok-checker.checker.bound c.args.text.items c.in_ok-rows.rows c.offer_rows.result c.in_ok-rows.ensures.said bound c.offer_rows.ensures in
    file_for c.network-roads.result.now c.args.store.now.network c.bound-bound.result c.args.store.now.bound c.args.text.items c.offer_rows.result c.network-roads.ensures c.bound-bound.ensures tried
